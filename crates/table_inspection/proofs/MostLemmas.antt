-- The first of the texts with the largest number.
use Rattle.std.proofs.Common.{◌≡◌, ℕ, ◌<◌, ◌≤◌, ◌||◌, ◌++◌, Bool, true, false, List, [], ◌∷◌, All, Option, None, Some, refl, sym, ap, ◌∙◌, arith}
use Rattle.std.proofs.lemmas.Grind.{common_steps}
use Rattle.std.proofs.Common.{length}
use Rattle.std.proofs.Common.{append-nil, append_assoc, nat_le, subst}
use Rattle.std.specs.Prelude.{nat_lt}
use Rattle.std.proofs.lemmas.Bool.{false≢true}
use Rattle.std.proofs.lemmas.List.Elements.{All-nil, All-cons, All-head, All-tail, All-weaker, All-append, All-push}
use Rattle.std.specs.List.{find, list_all, list_any}
use Rattle.std.specs.Str.{bytes_eq}
use Rattle.std.proofs.lemmas.Slice.Eq.{bytes_eq-Decides}
use Rattle.std.specs.Option.{option_map_or, option_to_list}
use Rattle.kbart_rows.specs.Cells.{defined}
use Rattle.table_inspection.specs.Columns.{is_empty_text}
use Rattle.table_inspection.proofs.Ranges.{not_none}
use Rattle.text_model.specs.Texts.{Text}
use Rattle.table_inspection.specs.Identifiers.{first_of_most}
use Rattle.table_inspection.specs.Private.Tallying.{IsMost, none, some}

-- ---- one more text

pub most_of_none : (number : Text → ℕ) (texts : List Text) (second : Option Text) → IsMost number texts None
    → IsMost number (texts ++ option_to_list second) second
most_of_none number texts None (none empty) = none (append-nil texts ∙ empty)
most_of_none number texts (Some text) (none empty) =
    some [] text [] (ap (λ texts. texts ++ text ∷ []) empty) (All-nil (λ other. number other < number text)) (All-nil (λ other. number other ≤ number text))

pub most_is_later : (number : Text → ℕ) (texts : List Text) (first second : Text) → number first < number second → IsMost number texts (Some first)
    → IsMost number (texts ++ second ∷ []) (Some second)
most_is_later number texts first second less (some front _ back is below above) =
    let P : Text → Type 0 = λ other. number other < number second in
    let before = All-weaker (λ other. number other < number first) P (λ other low. omega (arith, low, less)) front below in
    let after = All-weaker (λ other. number other ≤ number first) P (λ other low. omega (arith, low, less)) back above in
    some texts second [] refl (rw is (All-append P front (first ∷ back) before (All-cons P first back less after)))
    (All-nil (λ other. number other ≤ number second))

pub most_stays : (number : Text → ℕ) (texts : List Text) (first second : Text) → number second ≤ number first → IsMost number texts (Some first)
    → IsMost number (texts ++ second ∷ []) (Some first)
most_stays number texts first second less (some front _ back is below above) =
    some front first (back ++ second ∷ []) (ap (λ texts. texts ++ second ∷ []) is ∙ append_assoc front (first ∷ back) (second ∷ [])) below
    (All-push (λ other. number other ≤ number first) back second above less)

-- ---- the first with the largest number

all_from : (number : Text → ℕ) (n : ℕ) (texts : List Text) → All (λ other. number other ≤ n) texts → list_all (λ other. nat_le (number other) n) texts ≡ true
all_from number n [] all = refl
all_from number n (text ∷ texts) all =
    let here : number text ≤ n = All-head (λ other. number other ≤ n) text texts all in
    let yes : nat_le (number text) n ≡ true = grind arith in
    rw yes (all_from number n texts (All-tail (λ other. number other ≤ n) text texts all))

not_all : (number : Text → ℕ) (n : ℕ) (front : List Text) (text : Text) (back : List Text) → n < number text
    → list_all (λ other. nat_le (number other) n) (front ++ text ∷ back) ≡ false
not_all number n front text back less = grind (arith, common_steps)

find_at : (test : Text → Bool) (front : List Text) (text : Text) (back : List Text) → All (λ other. test other ≡ false) front → test text ≡ true
    → find test (front ++ text ∷ back) ≡ Some text
find_at test [] text back fails passes = rw passes refl
find_at test (other ∷ front) text back fails passes =
    let no = All-head (λ other. test other ≡ false) other front fails in
    rw no (find_at test front text back (All-tail (λ other. test other ≡ false) other front fails) passes)

pub most_is_first : (number : Text → ℕ) (texts : List Text) (most : Option Text) → IsMost number texts most → first_of_most number texts ≡ most
unfolding first_of_most
most_is_first number texts None (none empty) = rw empty refl
most_is_first number texts (Some text) (some front _ back is below above) =
    let parts = front ++ text ∷ back in
    let test : Text → Bool = λ text. list_all (λ other. nat_le (number other) (number text)) parts in
    let P : Text → Type 0 = λ other. number other ≤ number text in
    let all = All-append P front (text ∷ back) (All-weaker (λ other. number other < number text) P (λ other low. omega (arith, low)) front below)
    (All-cons P text back (omega arith) above) in
    rw is (find_at test front text back
    (All-weaker (λ other. number other < number text) (λ other. test other ≡ false)
    (λ other low. not_all number (number other) front text back low) front below)
    (all_from number (number text) parts all))

-- ---- an identifier that may be empty

pub empty_is : (text : Text) → is_empty_text text ≡ true → text ≡ []
empty_is [] is = refl
empty_is (b ∷ text) is = absurd (false≢true (sym (not_none (length text)) ∙ is))

pub defined_is : (text : Text) → is_empty_text text ≡ false → defined text ≡ Some text
defined_is [] is = absurd (false≢true (sym is))
defined_is (b ∷ text) is = refl

-- one that has more rows, or the first one
pub most_taken : (number : Text → ℕ) (texts : List Text) (first second : Text) (old new : ℕ) → old ≡ option_map_or number (defined first) 0
    → new ≡ number second → (is_empty_text first || nat_lt old new) ≡ true → IsMost number texts (defined first)
    → IsMost number (texts ++ second ∷ []) (Some second)
most_taken number texts [] second old new old_is new_is more most = most_of_none number texts (Some second) most
most_taken number texts (b ∷ first) second old new old_is new_is more most =
    let less : nat_lt old new ≡ true = ap (λ empty. empty || nat_lt old new) (sym (not_none (length first))) ∙ more in
    let below : old < new = grind arith in
    most_is_later number texts (b ∷ first) second (omega (arith, old_is, new_is, below)) most

-- one that has not more rows, since a bound of them is not more
pub most_kept : (number : Text → ℕ) (texts : List Text) (first second : Text) (rows bound : ℕ) → rows ≡ option_map_or number (defined first) 0
    → number second ≤ bound → (is_empty_text first || nat_lt rows bound) ≡ false → IsMost number texts (defined first)
    → IsMost number (texts ++ second ∷ []) (defined first)
most_kept number texts [] second rows bound rows_is few more most = absurd (false≢true (sym more))
most_kept number texts (b ∷ first) second rows bound rows_is few more most =
    let less : nat_lt rows bound ≡ false = ap (λ empty. empty || nat_lt rows bound) (sym (not_none (length first))) ∙ more in
    let above : bound ≤ rows = grind arith in
    most_stays number texts (b ∷ first) second (omega (arith, rows_is, few, above)) most

-- one that is among the texts already
among : (number : Text → ℕ) (n : ℕ) (texts : List Text) (second : Text) → All (λ other. number other ≤ n) texts → list_any (bytes_eq second) texts ≡ true
    → number second ≤ n
among number n [] second all known = absurd (false≢true known)
among number n (text ∷ texts) second all known =
    by_test (bytes_eq second text) refl (among number n texts second (All-tail (λ other. number other ≤ n) text texts all)) known
  where
    by_test : (b : Bool) → bytes_eq second text ≡ b → (list_any (bytes_eq second) texts ≡ true → number second ≤ n)
        → (b || list_any (bytes_eq second) texts) ≡ true → number second ≤ n
    by_test true same later known =
        let is = ap number ((bytes_eq-Decides second text).0 same) in
        let low = All-head (λ other. number other ≤ n) text texts all in
        omega (arith, is, low)
    by_test false other later known = later known

pub most_of_known : (number : Text → ℕ) (texts : List Text) (first second : Text) → list_any (bytes_eq second) texts ≡ true
    → IsMost number texts (defined first) → IsMost number (texts ++ second ∷ []) (defined first)
most_of_known number texts [] second known (none empty) = absurd (false≢true (ap (list_any (bytes_eq second)) (sym empty) ∙ known))
most_of_known number texts (b ∷ first) second known (some front text back is below above) =
    let P : Text → Type 0 = λ other. number other ≤ number text in
    let all = All-append P front (text ∷ back) (All-weaker (λ other. number other < number text) P (λ other low. omega (arith, low)) front below)
    (All-cons P text back (omega arith) above) in
    most_stays number texts text second (among number (number text) texts second (subst (All P) (sym is) all) known) (some front text back is below above)
