-- What is found in a text has plain bytes alone.
use Rattle.std.proofs.Common.{◌≡◌, ℕ, true, false, Some, arith}
use Rattle.std.specs.List.{list_all}
use Rattle.std.proofs.lemmas.Bool.Decides.{nat_tests}
use Rattle.std.proofs.lemmas.List.Elements.{All-weaker}
use Rattle.std.proofs.lemmas.List.Sums.{AllPass-from_list_all, list_all-from_AllPass}
use Rattle.text_model.specs.Texts.{Text}
use Rattle.article_places.specs.Words.{is_number_byte}
use Rattle.article_places.specs.Enumerations.{Numbers, numbers_in}
use Rattle.article_places.specs.Pages as spec
use Rattle.article_places.specs.Pages.{Range}
use Rattle.article_places.specs.Parts.{is_place_byte}
use Rattle.article_places.proofs.AsciiParts.{number_bytes, pages_clean}
use Rattle.article_places.proofs.Found.{holds, IsMarkOf}
use Rattle.article_places.proofs.Joined.{IsOne}
use Rattle.article_places.proofs.NumberLaws.{ones}
use Rattle.article_places.proofs.PageAlone.{IsClean}
use Rattle.article_places.proofs.WrittenNumbers.{mark_bytes}

abbrev Passes : ℕ → Type 0
Passes b = is_place_byte b ≡ true

number_byte : (b : ℕ) → is_number_byte b ≡ true → is_place_byte b ≡ true
number_byte b h = grind (arith, nat_tests)

page_byte : (b : ℕ) → spec.is_between b ≡ false → is_place_byte b ≡ true
page_byte b h = grind (arith, nat_tests)

bytes_plain : (t : Text) → list_all is_number_byte t ≡ true → list_all is_place_byte t ≡ true
bytes_plain t h =
    list_all-from_AllPass is_place_byte t
    (All-weaker (λ b. is_number_byte b ≡ true) Passes number_byte t (AllPass-from_list_all is_number_byte t h))

clean_plain : (t : Text) → IsClean t → list_all is_place_byte t ≡ true
clean_plain t clean = list_all-from_AllPass is_place_byte t (All-weaker (λ b. spec.is_between b ≡ false) Passes page_byte t clean)

pub first_plain : (text number : Text) (n : Numbers) → numbers_in text ≡ Some n → n.first ≡ Some number → list_all is_place_byte number ≡ true
first_plain text number n e f = bytes_plain number (number_bytes n.first number (ones text n e).first f)

pub issue_plain : (text number : Text) (n : Numbers) → numbers_in text ≡ Some n → n.issue ≡ Some number → list_all is_place_byte number ≡ true
issue_plain text number n e f = bytes_plain number (number_bytes n.issue number (ones text n e).issue f)

pub supplement_plain : (text mark : Text) (n : Numbers) → numbers_in text ≡ Some n → n.supplement ≡ Some mark → list_all is_place_byte mark ≡ true
supplement_plain text mark n e f = bytes_plain mark (mark_bytes mark (holds (IsMarkOf IsOne) n.supplement mark (ones text n e).supplement f))

pub page_plain : (text : Text) (r : Range) → spec.pages_in text ≡ Some r → list_all is_place_byte r.first ≡ true
page_plain text r e = clean_plain r.first (pages_clean text r e).first

pub last_page_plain : (text last : Text) (r : Range) → spec.pages_in text ≡ Some r → r.last ≡ Some last → list_all is_place_byte last ≡ true
last_page_plain text last r e l = clean_plain last (holds IsClean r.last last (pages_clean text r e).last l)
