-- A supplement that was found is found again as PubMed writes it.
use Rattle.std.proofs.Common.{◌≡◌, [], ◌∷◌, ◌++◌, Some, None}
use Rattle.std.proofs.Common.{refl, ap, ◌∙◌}
use Rattle.std.specs.Prelude.{codes}
use Rattle.std.proofs.lemmas.List.Elements.{All-cons, All-append}
use Rattle.text_model.specs.Texts.{Text}
use Rattle.article_places.specs.Words as spec
use Rattle.article_places.specs.Enumerations as numbers
use Rattle.article_places.specs.Enumerations.{Numbers}
use Rattle.article_places.proofs.Found.{Holds, holds, IsNumberOf, IsMarkOf}
use Rattle.article_places.proofs.Stay.{IsAlone, closed_words}
use Rattle.article_places.proofs.Joined.{IsOne}
use Rattle.article_places.proofs.NumberLaws.{ones}
use Rattle.article_places.proofs.WrittenNumbers.{IsClosed, mark_words, words_of_mark, closed_mark, supplement_words, number_then, codes_closed}
use Rattle.article_places.proofs.WrittenNumbers.{number_closed, C, same_after_year, none_again, number_first, one_again}

-- ---- a supplement alone, or after one number

words_of_short : (mark : Text) → IsMarkOf IsOne mark → spec.words_in (numbers.short_supplement mark) ≡ codes "Suppl" ∷ mark_words mark
unfolding mark_words
words_of_short [] is = refl
words_of_short (b ∷ t) is = ap (λ ws. codes "Suppl" ∷ ws) (words_of_mark (b ∷ t) is)

short_closed : (mark : Text) → IsMarkOf IsOne mark → IsClosed (numbers.short_supplement mark)
short_closed [] is = codes_closed (codes "Suppl") refl
short_closed (b ∷ t) is = All-append C (codes "Suppl ") (b ∷ t) (codes_closed (codes "Suppl ") refl) (closed_mark (b ∷ t) is)

short_again : (mark : Text) → IsMarkOf IsOne mark
    → numbers.numbers_in (numbers.short_supplement mark) ≡ Some (record { first = None; issue = None; supplement = Some mark })
unfolding Holds supplement_words
short_again mark is =
    ap (λ ws. numbers.from_first (numbers.after_label ws)) (closed_words (numbers.short_supplement mark) (short_closed mark is) ∙ words_of_short mark is)
    ∙ none_again (Some mark) is

after_number : (n mark : Text) → IsNumberOf IsOne n → IsMarkOf IsOne mark
    → numbers.numbers_in (n ++ 0x20 ∷ numbers.short_supplement mark) ≡ Some (record { first = Some n; issue = None; supplement = Some mark })
unfolding Holds supplement_words
after_number n mark f is =
    let alone : IsAlone n = record { number = f.number; one = f.is } in
    let rest = 0x20 ∷ numbers.short_supplement mark in
    let closed = All-append C n rest (number_closed n f) (All-cons C 0x20 (numbers.short_supplement mark) refl (short_closed mark is)) in
    ap (λ ws. numbers.from_first (numbers.after_label ws))
    (closed_words (n ++ rest) closed ∙ number_then n (numbers.short_supplement mark) alone ∙ ap (λ ws. n ∷ ws) (words_of_short mark is))
    ∙ number_first n (supplement_words (Some mark)) alone ∙ ap (numbers.after_first n) (same_after_year (Some mark)) ∙ one_again n (Some mark) is

pub supplement_stays : (text mark : Text) (n : Numbers) → numbers.numbers_in text ≡ Some n → n.supplement ≡ Some mark
    → numbers.numbers_in (numbers.short_supplement mark) ≡ Some (record { first = None; issue = None; supplement = Some mark })
supplement_stays text mark n e f = short_again mark (holds (IsMarkOf IsOne) n.supplement mark (ones text n e).supplement f)

pub supplement_stays_after : (text mark number : Text) (n : Numbers) → numbers.numbers_in text ≡ Some n → n.supplement ≡ Some mark
    → numbers.numbers_in number ≡ Some (numbers.alone number)
    → numbers.numbers_in (number ++ 0x20 ∷ numbers.short_supplement mark) ≡ Some (record { first = Some number; issue = None; supplement = Some mark })
supplement_stays_after text mark number n e f one =
    after_number number mark (holds (IsNumberOf IsOne) (Some number) number (ones number (numbers.alone number) one).first refl)
    (holds (IsMarkOf IsOne) n.supplement mark (ones text n e).supplement f)
