-- A stable sort of the indices by their keys keeps the indices of each key in their order.
use Rattle.std.proofs.Common.{arith, ◌≡◌, ℕ, Bool, true, false, ◌&&◌, List, [], ◌∷◌, filter, not, Option, Some, refl, sym, ap, ◌∙◌, bytes_eq}
use Rattle.std.proofs.lemmas.Grind.{common_steps}
use Rattle.std.proofs.lemmas.List.Elements.{filter_agree}
use Rattle.std.proofs.lemmas.List.Folds.{Any-from_list_any}
use Rattle.std.proofs.lemmas.List.Sorted.{list_any-IsPermutation}
use Rattle.std.proofs.lemmas.Slice.Eq.{bytes_eq-Decides}
use Rattle.std.specs.List.{list_any}
use Rattle.std.specs.List.Sorted.{IsPermutation, IsStableBy, ties}
use Rattle.std.specs.Option.{option_map_or}
use Rattle.std.specs.Ordering.{is_lt, is_eq, ordering_reverse}
use Rattle.std.specs.declared.cmp.Ordering.{Ordering}
use Rattle.text_model.specs.Texts.{Text}
use Rattle.kev_read.specs.Pairs.{KeyValue}
use Rattle.kev_read.specs.Private.KeyOrder.{compared, has_key_at, key_at}
use Rattle.kev_read.proofs.KeyMarks.{is_eq-compared_keys, keys_total}

-- the key of one index comes before that of another
abbrev pub key_lt : List KeyValue → ℕ → ℕ → Bool
key_lt pairs a b = is_lt (compared (key_at pairs a) (key_at pairs b))

neither : (o : Ordering) → (not (is_lt (ordering_reverse o)) && not (is_lt o)) ≡ is_eq o
neither o = grind (arith, common_steps)

-- neither key comes before the other exactly if they are the same
same_key : (key : Text) (other : Option Text)
    → (not (is_lt (compared (Some key) other)) && not (is_lt (compared other (Some key)))) ≡ option_map_or (λ k. bytes_eq k key) other false
same_key key other = grind (arith, keys_total, neither, is_eq-compared_keys)

ties_by_key : (pairs : List KeyValue) (key : Text) (x : ℕ) → key_at pairs x ≡ Some key → (y : ℕ) → ties (key_lt pairs) x y ≡ has_key_at key pairs y
ties_by_key pairs key x is y =
    ap (λ k. not (is_lt (compared k (key_at pairs y))) && not (is_lt (compared (key_at pairs y) k))) is ∙ same_key key (key_at pairs y)

has_this_key : (key : Text) (found : Option Text) → option_map_or (λ k. bytes_eq k key) found false ≡ true → found ≡ Some key
has_this_key key found is = grind (arith, bytes_eq-Decides)

filter-none : {X : Type 0} (p : X → Bool) (xs : List X) → list_any p xs ≡ false → filter p xs ≡ []
filter-none p [] none = refl
filter-none {X} p (x ∷ xs) none = by_test (p x) refl none (filter-none p xs)
  where
    by_test : (b : Bool) → p x ≡ b → list_any p (x ∷ xs) ≡ false → (list_any p xs ≡ false → filter p xs ≡ []) → filter p (x ∷ xs) ≡ []
    by_test b passes no_item later = grind (arith, common_steps)

pub stable_keys : (pairs : List KeyValue) (from to : List ℕ) → IsPermutation from to → IsStableBy (key_lt pairs) from to
    → (key : Text) → filter (has_key_at key pairs) to ≡ filter (has_key_at key pairs) from
stable_keys pairs from to moved stable key = by_any (list_any (has_key_at key pairs) from) refl
  where
    by_any : (b : Bool) → list_any (has_key_at key pairs) from ≡ b → filter (has_key_at key pairs) to ≡ filter (has_key_at key pairs) from
    by_any true some =
        let any = Any-from_list_any (has_key_at key pairs) from some in
        let x = any.1 in
        let is = has_this_key key (key_at pairs x) any.4 in
        let same = filter_agree (ties (key_lt pairs) x) (has_key_at key pairs) (ties_by_key pairs key x is) in
        sym (same to) ∙ stable x ∙ same from
    by_any false none = grind (arith, filter-none, list_any-IsPermutation)
