-- The laws of the numbers in a text.
use Rattle.std.proofs.Common.{◌≡◌, ℕ, [], ◌∷◌, true, Some, refl, arith}
use Rattle.std.specs.Prelude.{◌≢◌}
use Rattle.std.specs.Char.{is_ascii_digit}
use Rattle.std.specs.List.{list_all, list_any}
use Rattle.std.proofs.lemmas.Bool.{and_parts, and_from, or_left}
use Rattle.std.proofs.lemmas.Bool.Decides.{nat_tests}
use Rattle.std.proofs.lemmas.List.Elements.{All-weaker}
use Rattle.std.proofs.lemmas.List.Sums.{AllPass-from_list_all, list_all-from_AllPass}
use Rattle.text_model.specs.Texts.{Text}
use Rattle.article_places.specs.Words.{is_number_byte, is_number}
use Rattle.article_places.specs.Enumerations.{Numbers, alone, numbers_in}
use Rattle.article_places.specs.Parts.{IsPartOf}
use Rattle.article_places.proofs.PartLaws.{IsIn, part_is, words_are_in}
use Rattle.article_places.proofs.Found.{AreOf, IsNumberOf, IsMarkOf, holds, numbers_are}
use Rattle.article_places.proofs.Stay.{alone_stays}
use Rattle.article_places.proofs.Joined.{IsOne, words_are_one, digits_one}

-- ---- parts

parts : (text : Text) (n : Numbers) → numbers_in text ≡ Some n → AreOf (IsIn text) n
parts text n e = numbers_are (IsIn text) (record { before = []; after = text; whole = refl }) text (words_are_in text) n e

pub first_part : (text number : Text) (n : Numbers) → numbers_in text ≡ Some n → n.first ≡ Some number → IsPartOf text number
first_part text number n e f = part_is text number (holds (IsNumberOf (IsIn text)) n.first number (parts text n e).first f).is

pub issue_part : (text number : Text) (n : Numbers) → numbers_in text ≡ Some n → n.issue ≡ Some number → IsPartOf text number
issue_part text number n e f = part_is text number (holds (IsNumberOf (IsIn text)) n.issue number (parts text n e).issue f).is

pub supplement_part : (text mark : Text) (n : Numbers) → numbers_in text ≡ Some n → n.supplement ≡ Some mark → IsPartOf text mark
supplement_part text mark n e f = part_is text mark ((holds (IsMarkOf (IsIn text)) n.supplement mark (parts text n e).supplement f).is)

-- ---- what stays

pub ones : (text : Text) (n : Numbers) → numbers_in text ≡ Some n → AreOf IsOne n
ones text n e = numbers_are IsOne refl text (words_are_one text) n e

stays : (number : Text) → IsNumberOf IsOne number → numbers_in number ≡ Some (alone number)
stays number is = alone_stays number (record { number = is.number; one = is.is })

pub first_stays : (text number : Text) (n : Numbers) → numbers_in text ≡ Some n → n.first ≡ Some number → numbers_in number ≡ Some (alone number)
first_stays text number n e f = stays number (holds (IsNumberOf IsOne) n.first number (ones text n e).first f)

pub issue_stays : (text number : Text) (n : Numbers) → numbers_in text ≡ Some n → n.issue ≡ Some number → numbers_in number ≡ Some (alone number)
issue_stays text number n e f = stays number (holds (IsNumberOf IsOne) n.issue number (ones text n e).issue f)

digit_counts : (b : ℕ) → is_ascii_digit b ≡ true → is_number_byte b ≡ true
digit_counts b h = grind (arith, nat_tests)

digits_number : (n : Text) → n ≢ [] → list_all is_ascii_digit n ≡ true → is_number n ≡ true
digits_number [] some h = absurd (some refl)
digits_number (b ∷ n) some h =
    and_from _ _
    (list_all-from_AllPass is_number_byte (b ∷ n) (All-weaker (λ b. is_ascii_digit b ≡ true) (λ b. is_number_byte b ≡ true) digit_counts (b ∷ n)
    (AllPass-from_list_all is_ascii_digit (b ∷ n) h)))
    (or_left (is_ascii_digit b) (list_any is_ascii_digit n) (and_parts _ _ h).0)

pub plain_stays : (number : Text) → number ≢ [] → list_all is_ascii_digit number ≡ true → numbers_in number ≡ Some (alone number)
plain_stays number some h = alone_stays number (record { number = digits_number number some h; one = digits_one number h })
