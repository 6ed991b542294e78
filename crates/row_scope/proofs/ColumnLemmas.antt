-- Keys that are names of columns, and columns whose names are keys.
use Rattle.std.proofs.Common.{◌≡◌, ◌==◌, ◌||◌, ◌<◌, ℕ, zero, suc, Bool, true, false, true≢false, cond, not, List, [], ◌∷◌}
use Rattle.std.proofs.Common.{length, get_or, map, filter, refl, sym, ap, ◌∙◌, arith}
use Rattle.std.proofs.Math.Bool.{or-true}
use Rattle.std.specs.List.{list_any}
use Rattle.std.specs.Str.{bytes_eq}
use Rattle.std.proofs.lemmas.List.Folds.{Any-from_list_any, list_any_at}
use Rattle.std.proofs.lemmas.Slice.Eq.{bytes_eq-Decides}
use Rattle.text_model.specs.Texts.{Text}
use Rattle.kev_read.specs.Pairs.{KeyValue, all_of, has_key}
use Rattle.kbart_rows.specs.NameSets.{has}
use Rattle.row_scope.specs.RequestValues.{has_key_among}

is_nothing : (xs : List Text) → ((xs ≡ [] → ⊥) → ⊥) → xs ≡ []
is_nothing [] some = refl
is_nothing (x ∷ xs) some = absurd (some (λ none. omega (arith, ap length none)))

has_length : (xs : List Text) → (xs ≡ [] → ⊥) → not (length xs == 0) ≡ true
has_length [] some = absurd (some refl)
has_length (x ∷ xs) some = grind arith

same_truth : (a b : Bool) → (a ≡ true → b ≡ true) → (b ≡ true → a ≡ true) → a ≡ b
same_truth true b to from = sym (to refl)
same_truth false true to from = from refl
same_truth false false to from = refl

-- a column under whose name there is a value
column_with_value : (columns : List Text) (pairs : List KeyValue) (name : Text) → has columns name ≡ true → (all_of pairs name ≡ [] → ⊥)
    → has_key_among columns pairs ≡ true
column_with_value columns [] name there value = absurd (value refl)
column_with_value columns (pair ∷ pairs) name there value =
    elim (has_key name pair) as (λ b. has_key name pair ≡ b
    → (map (λ p. p.value) (cond b (pair ∷ filter (has_key name) pairs) (filter (has_key name) pairs)) ≡ [] → ⊥)
    → (has columns pair.key || has_key_among columns pairs) ≡ true) [
      | true ↦ λ same some. ap (λ b. b || has_key_among columns pairs) (ap (has columns) ((bytes_eq-Decides pair.key name).0 same) ∙ there)
      | false ↦ λ other some. ap (λ b. has columns pair.key || b) (column_with_value columns pairs name there some) ∙ or-true (has columns pair.key)
    ] refl value

-- a pair's key has a value
key_with_value : (pairs : List KeyValue) (i : ℕ) (d : KeyValue) → i < length pairs → all_of pairs (get_or pairs i d).key ≡ [] → ⊥
key_with_value [] i d within none = omega (arith, within)
key_with_value (pair ∷ pairs) zero d within none =
    let values = λ (b : Bool). map (λ (p : KeyValue). p.value) (cond b (pair ∷ filter (has_key pair.key) pairs) (filter (has_key pair.key) pairs)) in
    omega (arith, ap length (sym (ap values ((bytes_eq-Decides pair.key pair.key).1 refl)) ∙ none))
key_with_value (pair ∷ pairs) (suc i) d within none =
    let key = (get_or pairs i d).key in
    elim (has_key key pair) as (λ b. map (λ p. p.value) (cond b (pair ∷ filter (has_key key) pairs) (filter (has_key key) pairs)) ≡ [] → ⊥) [
      | true ↦ λ nothing. omega (arith, ap length nothing)
      | false ↦ key_with_value pairs i d (omega (arith, within))
    ] none

-- if no key is a column, there is no value under the name of one
pub no_values : (columns : List Text) (pairs : List KeyValue) → has_key_among columns pairs ≡ false
    → (name : Text) → has columns name ≡ true → all_of pairs name ≡ []
no_values columns pairs none name there =
    is_nothing (all_of pairs name) (λ some. true≢false (sym (column_with_value columns pairs name there some) ∙ none))

module _ (columns : List Text) (pairs : List KeyValue) (values : Text → List Text) (same : (key : Text) → values key ≡ all_of pairs key) where
  abbrev has_value : Text → Bool
  has_value name = not (length (values name) == 0)

  column_is_key : list_any has_value columns ≡ true → has_key_among columns pairs ≡ true
  column_is_key found =
      let any = Any-from_list_any has_value columns found in
      let name = any.1 in
      let is_name = bytes_eq name in
      let there = list_any_at is_name columns any.0 any.1 any.2 (ap is_name any.3 ∙ (bytes_eq-Decides name name).1 refl) in
      let none = λ (nothing : all_of pairs name ≡ []). true≢false (sym any.4 ∙ ap (λ (vs : List Text). not (length vs == 0)) (same name ∙ nothing)) in
      column_with_value columns pairs name there none

  key_is_column : has_key_among columns pairs ≡ true → list_any has_value columns ≡ true
  key_is_column found =
      let any = Any-from_list_any (λ (pair : KeyValue). has columns pair.key) pairs found in
      let key = any.1.key in
      let at = Any-from_list_any (bytes_eq key) columns any.4 in
      let name = at.1 in
      let values_are : values name ≡ all_of pairs (get_or pairs any.0 any.1).key =
      same name ∙ sym (ap (λ (pair : KeyValue). all_of pairs pair.key) any.3 ∙ ap (all_of pairs) ((bytes_eq-Decides key name).0 at.4)) in
      let some = has_length (values name) (λ none. key_with_value pairs any.0 any.1 any.2 (sym values_are ∙ none)) in
      list_any_at has_value columns at.0 at.1 at.2 (ap has_value at.3 ∙ some)

  -- whether a key is a column can be found by the names of the columns
  pub found_by_columns : list_any has_value columns ≡ has_key_among columns pairs
  found_by_columns = same_truth (list_any has_value columns) (has_key_among columns pairs) column_is_key key_is_column
