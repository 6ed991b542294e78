-- The numbers of names, and one more.
use Rattle.std.proofs.Common.{◌≡◌, ℕ, ◌+◌, ◌≤◌, Bool, true, false, List, [], ◌∷◌, ◌++◌, length, map, take, slice_get, nat_lt, Some, None, is_some}
use Rattle.std.proofs.Common.{refl, sym, subst, ap, ◌∙◌}
use Rattle.std.proofs.Common.{arith, fold, if◌then◌else◌}
use Rattle.std.proofs.lemmas.Grind.{common_steps}
use Rattle.std.proofs.lemmas.Iterator.Adapters.{position_from-zero}
use Rattle.std.proofs.lemmas.List.{append-nil, take_more}
use Rattle.std.proofs.lemmas.Option.{get_or_from_slice_get, slice_get-map, slice_get_within}
use Rattle.std.proofs.lemmas.Slice.Eq.{bytes_eq-Decides}
use Rattle.std.proofs.Math.Seq.{take-append_seam}
use Rattle.std.specs.List.{position_from}
use Rattle.std.specs.Option.{option_map}
use Rattle.std.specs.Str.{bytes_eq}
use Rattle.text_model.specs.Texts.{Text}
use Rattle.code_model.specs.Code.{Code, Name}
use Rattle.kbart_rows.specs.NameSets.{has, with_name}
use Rattle.kbart_rows.proofs.FirstColumns.{column_more, or_else}
use Rattle.kbart_rows.proofs.NameSetLemmas.{all_grow, found_from, one_grows}
use Rattle.row_scope.specs.NameNumbers.{AreKept, own_number, with_number}
use Rattle.row_scope.specs.Private.Kept.{IsExtended}
use Rattle.row_scope.specs.declared.name_numbers.TheConstants.{MAX_NUMBERS}

-- ---- a number is that of one name

from_first : (test : Text → Bool) (first : ℕ) (names : List Text) (n : ℕ) → position_from test first names ≡ Some n → first ≤ n
from_first test first [] n found = grind (arith, found)
from_first test first (name ∷ names) n found = grind (arith, common_steps, found, from_first test (first + 1) names n)

same_place : (a b : Text) (first : ℕ) (names : List Text) (n : ℕ) → position_from (bytes_eq a) first names ≡ Some n
    → position_from (bytes_eq b) first names ≡ Some n → a ≡ b
same_place a b first [] n its others = grind (arith, its)
same_place a b first (name ∷ names) n its others =
    grind (
      arith,
      common_steps,
      its,
      others,
      bytes_eq-Decides,
      same_place a b (first + 1) names n,
      from_first (bytes_eq a) (first + 1) names n,
      from_first (bytes_eq b) (first + 1) names n,
    )

pub one_name : (numbered : List Text) (a b : Text) (n : ℕ) → own_number numbered a ≡ Some n → own_number numbered b ≡ Some n → a ≡ b
one_name numbered a b n its others =
    same_place a b 0 numbered n (sym (position_from-zero (bytes_eq a) numbered) ∙ its) (sym (position_from-zero (bytes_eq b) numbered) ∙ others)

-- ---- more names

still_found : (test : Text → Bool) (first : ℕ) (names rest : List Text) (n : ℕ) → position_from test first names ≡ Some n
    → position_from test first (names ++ rest) ≡ Some n
still_found test first [] rest n found = grind (arith, found)
still_found test first (name ∷ names) rest n found = grind (arith, common_steps, found, still_found test (first + 1) names rest n)

-- names that are added after the others change no number
pub kept_before : (names rest : List Text) → AreKept names (names ++ rest)
kept_before names rest name None own = own
kept_before names rest name (Some n) own =
    position_from-zero (bytes_eq name) (names ++ rest)
    ∙ still_found (bytes_eq name) 0 names rest n (sym (position_from-zero (bytes_eq name) names) ∙ own)

number_grows : (numbered : List Text) (name : Text) → (rest : List Text) × (with_number numbered name ≡ numbered ++ rest)
number_grows numbered name = by (nat_lt (length numbered) MAX_NUMBERS)
  where
    by : (few : Bool) → (rest : List Text) × ((if few then with_name numbered name else numbered) ≡ numbered ++ rest)
    by true = one_grows numbered name
    by false = ([], sym (append-nil numbered))

pub number_kept : (numbered : List Text) (name : Text) → AreKept numbered (with_number numbered name)
number_kept numbered name =
    let grown = number_grows numbered name in
    subst (AreKept numbered) (sym grown.1) (kept_before numbered grown.0)

abbrev pub names_of_code : Code → List Text
names_of_code code = map (λ name. name.text) code.names

pub one_more_name : (code : Code) (n : ℕ) (name : Name) → slice_get code.names n ≡ Some name
    → take (n + 1) (names_of_code code) ≡ take n (names_of_code code) ++ name.text ∷ []
one_more_name code n name is =
    let names = names_of_code code in
    let at : slice_get names n ≡ Some name.text =
    slice_get-map (λ (other : Name). other.text) code.names n ∙ ap (option_map (λ (other : Name). other.text)) is in
    take_more names n name.text (slice_get_within names n name.text at)
    ∙ ap (λ (text : Text). take n names ++ text ∷ []) (get_or_from_slice_get names n name.text name.text at)

pub extended : (old names new : List Text) → new ≡ fold with_number old names → IsExtended old new
extended old names new is =
    let all = all_grow with_number number_grows old names in
    (all.0, is ∙ all.1)

pub kept : (old new : List Text) → IsExtended old new → AreKept old new
kept old new more = subst (AreKept old) (sym more.1) (kept_before old more.0)

pub first_again : (old new : List Text) → IsExtended old new → take (length old) new ≡ old
first_again old new more = ap (take (length old)) more.1 ∙ take-append_seam old more.0

-- a name that is not among the others gets the next number
pub last_number : (numbered : List Text) (name : Text) → own_number numbered name ≡ None → own_number (numbered ++ name ∷ []) name ≡ Some (length numbered)
last_number numbered name none =
    column_more numbered name name ∙ ap (λ found. or_else found (if bytes_eq name name then Some (length numbered) else None)) none
    ∙ ap (λ (is : Bool). if is then Some (length numbered) else None) ((bytes_eq-Decides name name).1 refl)

pub among : (numbered : List Text) (name : Text) (n : ℕ) → own_number numbered name ≡ Some n → has numbered name ≡ true
among numbered name n found =
    sym (found_from (bytes_eq name) 0 numbered) ∙ ap is_some (sym (position_from-zero (bytes_eq name) numbered) ∙ found)

-- a name that is among them is not added
pub with_known : (numbered : List Text) (name : Text) → has numbered name ≡ true → with_number numbered name ≡ numbered
with_known numbered name there = by (nat_lt (length numbered) MAX_NUMBERS)
  where
    by : (few : Bool) → (if few then with_name numbered name else numbered) ≡ numbered
    by true = ap (λ (found : Bool). if found then numbered else numbered ++ name ∷ []) there
    by false = refl

pub not_among : (numbered : List Text) (name : Text) → own_number numbered name ≡ None → has numbered name ≡ false
not_among numbered name none =
    sym (found_from (bytes_eq name) 0 numbered) ∙ ap is_some (sym (position_from-zero (bytes_eq name) numbered) ∙ none)
