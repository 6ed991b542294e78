-- How long volumes and issues are, and that they are not blank.
use Rattle.std.proofs.Common.{◌≡◌, ◌≤◌, ℕ, [], ◌∷◌, ◌++◌, Bool, ◌&&◌, true, false, Option, Some, None, length, take, drop, refl, sym, ap, ◌∙◌}
use Rattle.std.proofs.Common.{arith}
use Rattle.std.specs.Prelude.{nat_le}
use Rattle.std.specs.List.{prefix_len}
use Rattle.std.specs.Option.{option_and_then}
use Rattle.std.proofs.lemmas.Bool.{and_parts}
use Rattle.std.proofs.lemmas.Bool.Decides.{nat_tests}
use Rattle.std.proofs.lemmas.List.{length-append, take_all, drop_all}
use Rattle.text_model.specs.Texts.{Text}
use Rattle.article_places.specs.Enumerations.{Numbers, numbers_in, alone, short_supplement, from_first, after_label}
use Rattle.article_places.specs.Words.{is_gap, is_not_open, words, words_in, bracketed}
use Rattle.openurl_reading.specs.Counting.{is_blank}
use Rattle.openurl_reading.specs.Volumes.{read_numbers}
use Rattle.openurl_reading.proofs.ArticlesFound.{IsNotBlank}
use Rattle.openurl_reading.proofs.VolumesFound.{IsIn}
use Rattle.openurl_reading.proofs.VolumeLaws.{in_short, mark_short, supplement_long, number_alone, NumberLaws, AreFoundNumbers}

-- ---- they are short

pub numbers_short : NumberLaws → AreFoundNumbers (λ t. length t ≤ 407)
numbers_short laws value = record {
  number = λ number n e is. omega (arith, in_short laws value number n e is);
  supplement = λ mark n e f. omega (arith, supplement_long mark, mark_short laws value mark n e f);
  both = λ number mark n e is f.
      omega (
        arith,
        length-append number (0x20 ∷ short_supplement mark),
        supplement_long mark,
        in_short laws value number n e is,
        mark_short laws value mark n e f,
      );
}

-- ---- they are not blank

blank_gap : (b : ℕ) → nat_le b 0x20 ≡ true → is_gap b ≡ true
blank_gap b h = grind (arith, nat_tests)

blank_closed : (b : ℕ) → nat_le b 0x20 ≡ true → is_not_open b ≡ true
blank_closed b h = grind (arith, nat_tests)

no_words_in : (text : Text) → is_blank text ≡ true → words_in text ≡ []
no_words_in [] h = refl
no_words_in (b ∷ text) h = let parts = and_parts (nat_le b 0x20) (is_blank text) h in rw (blank_gap b parts.0) (no_words_in text parts.1)

all_closed : (text : Text) → is_blank text ≡ true → prefix_len is_not_open text ≡ length text
all_closed [] h = refl
all_closed (b ∷ text) h =
    let parts = and_parts (nat_le b 0x20) (is_blank text) h in rw (blank_closed b parts.0) (omega (arith, all_closed text parts.1))

no_words : (text : Text) → is_blank text ≡ true → words text ≡ []
no_words text h =
    ap (λ n. words_in (take n text) ++ bracketed (drop n text)) (all_closed text h)
    ∙ ap (λ t. words_in t ++ bracketed (drop (length text) text)) (take_all (length text) text (omega arith))
    ∙ ap (λ t. words_in text ++ bracketed t) (drop_all (length text) text (omega arith))
    ∙ ap (λ ws. ws ++ []) (no_words_in text h)

number_not_blank : (number : Text) → numbers_in number ≡ Some (alone number) → IsNotBlank number
number_not_blank number e = by_test (is_blank number) refl
  where
    by_test : (b : Bool) → is_blank number ≡ b → b ≡ false
    by_test true h =
        let first : Option Numbers → Option Text = option_and_then (λ (n : Numbers). n.first) in
        let none : None ≡ Some number = sym (ap (λ ws. first (from_first (after_label ws))) (no_words number h)) ∙ ap first e in cc
    by_test false h = refl

supplement_not_blank : (mark : Text) → IsNotBlank (short_supplement mark)
supplement_not_blank [] = refl
supplement_not_blank (b ∷ t) = refl

longer_not_blank : (text more : Text) → IsNotBlank text → IsNotBlank (text ++ more)
longer_not_blank [] more h = cc
longer_not_blank (b ∷ text) more h = by_test (nat_le b 0x20) (longer_not_blank text more) h
  where
    by_test : (c : Bool) → (IsNotBlank text → IsNotBlank (text ++ more)) → c && is_blank text ≡ false → c && is_blank (text ++ more) ≡ false
    by_test true rest g = rest g
    by_test false rest g = refl

pub numbers_not_blank : NumberLaws → AreFoundNumbers IsNotBlank
numbers_not_blank laws value =
    let number : (number : Text) (n : Numbers) → read_numbers value ≡ Some n → IsIn n number → IsNotBlank number =
    λ number n e is. number_not_blank number (number_alone laws value number n e is) in
    record {
      number = number;
      supplement = λ mark n e f. supplement_not_blank mark;
      both = λ x mark n e is f. longer_not_blank x (0x20 ∷ short_supplement mark) (number x n e is);
    }
