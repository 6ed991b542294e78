-- What is found in a text has ASCII alone.
use Rattle.std.proofs.Common.{◌≡◌, ◌+◌, ◌<◌, ℕ, List, [], ◌∷◌, ◌++◌, true, false, cond, Option, Some, None, take, drop}
use Rattle.std.proofs.Common.{refl, sym, subst, arith}
use Rattle.std.specs.Borrow.{Bor}
use Rattle.std.specs.Prelude.{IfSome}
use Rattle.std.specs.List.{All, list_all, prefix_len}
use Rattle.std.specs.Option.{option_and_then, option_copied, option_map}
use Rattle.std.specs.Str.{IsAscii}
use Rattle.std.proofs.lemmas.Bool.{cond_both, and_parts}
use Rattle.std.proofs.lemmas.Bool.Decides.{nat_tests}
use Rattle.std.proofs.lemmas.List.Elements.{All-head, All-tail, All-append, All-take, All-drop, All-weaker}
use Rattle.std.proofs.lemmas.List.Sums.{AllPass-from_list_all}
use Rattle.std.proofs.lemmas.Str.Ascii.{IsAscii-from_all}
use Rattle.text_model.specs.Texts.{Text}
use Rattle.article_places.specs.declared.enumerations.Enumeration.{Enumeration}
use Rattle.article_places.specs.declared.pages.Pages as code
use Rattle.article_places.specs.declared.pages.LastPage as code_last
use Rattle.article_places.specs.Words.{letters, is_number_byte}
use Rattle.article_places.specs.PageForms.{is_numbered, numbered, page}
use Rattle.article_places.specs.LastPages.{is_apart, is_later, missing, last_page}
use Rattle.article_places.specs.Pages as spec
use Rattle.article_places.specs.Pages.{Range}
use Rattle.article_places.specs.Enumerations.{Numbers, numbers, numbers_in}
use Rattle.article_places.proofs.PartLaws.{IsIn, part_is, in_itself}
use Rattle.article_places.proofs.Found.{Holds, holds, IsNumberOf, IsMarkOf}
use Rattle.article_places.proofs.Joined.{IsOne}
use Rattle.article_places.proofs.NumberLaws.{ones}
use Rattle.article_places.proofs.PageAlone.{IsClean}
use Rattle.article_places.proofs.PageParts.{either, numbered_in, page_in, last_is}
use Rattle.article_places.proofs.PageStay.{words_clean}
use Rattle.article_places.proofs.WrittenNumbers.{mark_bytes}

-- ---- pages

abbrev B : ℕ → Type 0
B b = spec.is_between b ≡ false

clean_below : (b : ℕ) → spec.is_between b ≡ false → b < 128
clean_below b h = grind (arith, nat_tests)

clean_ascii : (t : Text) → IsClean t → IsAscii t
clean_ascii t clean = IsAscii-from_all t (All-weaker B (λ b. b < 128) clean_below t clean)

part_clean : (t part : Text) → IsClean t → IsIn t part → IsClean part
part_clean t part clean is =
    let at = part_is t part is in subst IsClean (sym at.2) (All-take B at.1 (drop at.0 t) (All-drop B at.0 t clean))

weaker : (P Q : Text → Type 0) (o : Option Text) → ((t : Text) → P t → Q t) → Holds P o → Holds Q o
unfolding Holds
weaker P Q None each h = tt
weaker P Q (Some t) each h = each t h

page_clean : (w : Text) → IsClean w → Holds IsClean (page w)
page_clean w clean = weaker (IsIn w) IsClean (page w) (λ t is. part_clean w t clean is) (page_in w w (in_itself w))

first_number_clean : (ws : List Text) → All IsClean ws → Holds IsClean (spec.first_number ws)
unfolding Holds
first_number_clean [] all = tt
first_number_clean (w ∷ ws) all =
    cond_both (is_numbered w) (Some (numbered w)) (spec.first_number ws) (Holds IsClean)
    (λ _. part_clean w (numbered w) (All-head IsClean w ws all) (numbered_in w w (in_itself w)))
    (λ _. first_number_clean ws (All-tail IsClean w ws all))

first_page_clean : (ws : List Text) → All IsClean ws → Holds IsClean (spec.first_page ws)
unfolding Holds
first_page_clean [] all = tt
first_page_clean (w ∷ ws) all =
    either IsClean (page w) (spec.first_number ws) (page_clean w (All-head IsClean w ws all)) (first_number_clean ws (All-tail IsClean w ws all))

last_page_clean : (first : Text) (o : Option Text) → IsClean first → Holds IsClean o → Holds IsClean (option_and_then (last_page first) o)
unfolding Holds
last_page_clean first None clean h = tt
last_page_clean first (Some last) clean h =
    let count = letters first + missing first last in
    let rest : Text = drop (letters last) last in
    cond_both (is_apart first last) (Some last) (cond (is_later first last) (Some (take count first ++ rest)) None) (Holds IsClean) (λ _. h)
    (λ _. cond_both (is_later first last) (Some (take count first ++ rest)) None (Holds IsClean)
    (λ _. All-append B (take count first) rest (All-take B count first clean) (All-drop B (letters last) last h)) (λ _. tt))

last_in_clean : (first : Text) (firsts lasts : List Text) → IsClean first → All IsClean firsts → All IsClean lasts
    → Holds IsClean (spec.last_in first firsts lasts)
last_in_clean first firsts lasts clean all others =
    last_page_clean first (option_and_then page (spec.last_word firsts lasts)) clean (last_is IsClean IsClean page_clean firsts lasts all others)

pub record AreClean (r : Range) : Type 0 where
  pub first : IsClean r.first
  pub last : Holds IsClean r.last

AreIf : Option Range → Type 0
AreIf None = Unit {0}
AreIf (Some r) = AreClean r

from_page_clean : (o : Option Text) (firsts lasts : List Text) → Holds IsClean o → All IsClean firsts → All IsClean lasts
    → AreIf (spec.from_page o firsts lasts)
unfolding Holds AreIf
from_page_clean None firsts lasts h all others = tt
from_page_clean (Some first) firsts lasts h all others =
    cond_both (spec.is_sectioned first lasts) None (Some (record { first = first; last = spec.last_in first firsts lasts })) AreIf (λ _. tt)
    (λ _. record { first = h; last = last_in_clean first firsts lasts h all others })

pub pages_clean : (text : Text) (r : Range) → spec.pages_in text ≡ Some r → AreClean r
unfolding AreIf
pages_clean text r e =
    let n = prefix_len spec.is_no_hyphen text in
    let firsts = spec.page_words (take n text) in
    let lasts = spec.page_words (drop n text) in
    subst AreIf e
    (from_page_clean (spec.first_page firsts) firsts lasts (first_page_clean firsts (words_clean (take n text))) (words_clean (take n text))
    (words_clean (drop n text)))

pub first_ascii : (text : Text) (r : Range) → spec.pages_in text ≡ Some r → IsAscii r.first
first_ascii text r e = clean_ascii r.first (pages_clean text r e).first

pub last_ascii : (text last : Text) (r : Range) → spec.pages_in text ≡ Some r → r.last ≡ Some last → IsAscii last
last_ascii text last r e l = clean_ascii last (holds IsClean r.last last (pages_clean text r e).last l)

-- ---- numbers

byte_below : (b : ℕ) → is_number_byte b ≡ true → b < 128
byte_below b h = grind (arith, nat_tests)

bytes_ascii : (t : Text) → list_all is_number_byte t ≡ true → IsAscii t
bytes_ascii t h =
    IsAscii-from_all t (All-weaker (λ b. is_number_byte b ≡ true) (λ b. b < 128) byte_below t (AllPass-from_list_all is_number_byte t h))

pub number_bytes : (o : Option Text) (number : Text) → Holds (IsNumberOf IsOne) o → o ≡ Some number → list_all is_number_byte number ≡ true
number_bytes o number h e = (and_parts _ _ (holds (IsNumberOf IsOne) o number h e).number).0

number_ascii : (o : Option Text) (number : Text) → Holds (IsNumberOf IsOne) o → o ≡ Some number → IsAscii number
number_ascii o number h e = bytes_ascii number (number_bytes o number h e)

pub first_number_ascii : (text number : Text) (n : Numbers) → numbers_in text ≡ Some n → n.first ≡ Some number → IsAscii number
first_number_ascii text number n e f = number_ascii n.first number (ones text n e).first f

pub issue_ascii : (text number : Text) (n : Numbers) → numbers_in text ≡ Some n → n.issue ≡ Some number → IsAscii number
issue_ascii text number n e f = number_ascii n.issue number (ones text n e).issue f

pub supplement_ascii : (text mark : Text) (n : Numbers) → numbers_in text ≡ Some n → n.supplement ≡ Some mark → IsAscii mark
supplement_ascii text mark n e f = bytes_ascii mark (mark_bytes mark (holds (IsMarkOf IsOne) n.supplement mark (ones text n e).supplement f))

-- ---- what the calls find

pub first_of_found : (found : Option code.Pages) (text : Text) → option_map spec.range found ≡ spec.pages_in text
    → IfSome found (λ pages. IsAscii pages.first.now)
first_of_found None text e = tt
first_of_found (Some pages) text e = first_ascii text (spec.range pages) (sym e)

last_of : (text first : Text) (last : Option code_last.LastPage)
    → spec.pages_in text ≡ Some (record { first = first; last = option_map spec.in_full last }) → IfSome last (λ l. IsAscii (spec.in_full l))
last_of text first None e = tt
last_of text first (Some l) e = last_ascii text (spec.in_full l) (record { first = first; last = Some (spec.in_full l) }) e refl

pub last_of_found : (found : Option code.Pages) (text : Text) → option_map spec.range found ≡ spec.pages_in text
    → IfSome found (λ pages. IfSome pages.last (λ last. IsAscii (spec.in_full last)))
last_of_found None text e = tt
last_of_found (Some pages) text e = last_of text pages.first.now pages.last (sym e)

abbrev AreAscii : Option (Bor Text) → Type 0
AreAscii number = IfSome number (λ n. IsAscii n.now)

ascii_of : (number : Option (Bor Text)) → ((n : Text) → option_copied number ≡ Some n → IsAscii n) → AreAscii number
ascii_of None each = tt
ascii_of (Some n) each = each n.now refl

pub first_of_numbers : (found : Option Enumeration) (text : Text) → option_map numbers found ≡ numbers_in text → IfSome found (λ e. AreAscii e.first)
first_of_numbers None text e = tt
first_of_numbers (Some found) text e = ascii_of found.first (λ n f. first_number_ascii text n (numbers found) (sym e) f)

pub issue_of_numbers : (found : Option Enumeration) (text : Text) → option_map numbers found ≡ numbers_in text → IfSome found (λ e. AreAscii e.issue)
issue_of_numbers None text e = tt
issue_of_numbers (Some found) text e = ascii_of found.issue (λ n f. issue_ascii text n (numbers found) (sym e) f)

pub supplement_of_numbers : (found : Option Enumeration) (text : Text) → option_map numbers found ≡ numbers_in text
    → IfSome found (λ e. AreAscii e.supplement)
supplement_of_numbers None text e = tt
supplement_of_numbers (Some found) text e = ascii_of found.supplement (λ n f. supplement_ascii text n (numbers found) (sym e) f)
