-- The pairs of a request in the order of their keys.
use Rattle.std.proofs.Common.{◌≡◌, ℕ, ◌≤◌, ◌<◌, Bool, List, [], ◌∷◌, ◌++◌, All, filter, get_or, length, map, Some, slice_get, take, refl, sym, ap, ◌∙◌, arith}
use Rattle.std.proofs.lemmas.List.{length-map, take_all}
use Rattle.std.proofs.lemmas.List.Elements.{All-head, All-tail}
use Rattle.std.proofs.lemmas.List.FromFn.{length-range_with_len}
use Rattle.std.proofs.lemmas.List.Sums.{sum_by-cons}
use Rattle.std.proofs.lemmas.Option.{get_or_from_slice_get, slice_get-get_or, slice_get-map}
use Rattle.std.specs.List.{range_with_len, sum_by}
use Rattle.std.specs.Str.{bytes_eq}
use Rattle.std.proofs.lemmas.Grind.{common_steps}
use Rattle.text_model.specs.Texts.{Text}
use Rattle.text_model.proofs.Lists.{range_below, sum_by-map}
use Rattle.kev_read.specs.Pairs.{KeyValue, all_of, has_key, value_bytes}
use Rattle.kev_read.specs.Private.KeyOrder.{IsKeyOrder, has_key_at, pair_at, pairs_at}
use Rattle.kev_read.proofs.FillingLemmas.{passes_there}

abbrev pub no_pair : KeyValue
no_pair = record { key = []; value = [] }

pub one_of_pairs : (pairs : List KeyValue) (indices : List ℕ) (n : ℕ) (pair : KeyValue) → n < length indices
    → slice_get pairs (get_or indices n 0) ≡ Some pair → slice_get (pairs_at pairs indices) n ≡ Some pair
one_of_pairs pairs indices n pair within is = grind (arith, slice_get-map, slice_get-get_or, get_or_from_slice_get)

pub all_pairs : (pairs : List KeyValue) (indices : List ℕ) (n : ℕ) → length indices ≤ n → take n (pairs_at pairs indices) ≡ pairs_at pairs indices
all_pairs pairs indices n past = take_all n (pairs_at pairs indices) (rw length-map past)

-- ---- lists

filter-map : {X Y : Type 0} (f : X → Y) (p : Y → Bool) (xs : List X) → filter p (map f xs) ≡ map f (filter (λ x. p (f x)) xs)
filter-map f p [] = refl
filter-map {X} {Y} f p (x ∷ xs) = by_test (p (f x)) refl (filter-map f p xs)
  where
    by_test : (b : Bool) → p (f x) ≡ b → filter p (map f xs) ≡ map f (filter (λ x. p (f x)) xs)
        → filter p (map f (x ∷ xs)) ≡ map f (filter (λ x. p (f x)) (x ∷ xs))
    by_test b passes rest = grind (arith, common_steps)

-- two tests that agree at each item keep the same items
filter-agree : {X : Type 0} (P : X → Type 0) (p q : X → Bool) → ((x : X) → P x → p x ≡ q x) → (xs : List X) → All P xs → filter p xs ≡ filter q xs
filter-agree P p q agree [] all = refl
filter-agree {X} P p q agree (x ∷ xs) all =
    let here = agree x (All-head P x xs all) in
    let rest = filter-agree P p q agree xs (All-tail P x xs all) in
    by_test (q x) refl here rest
  where
    by_test : (b : Bool) → q x ≡ b → p x ≡ q x → filter p xs ≡ filter q xs → filter p (x ∷ xs) ≡ filter q (x ∷ xs)
    by_test b passes same rest = grind (arith, common_steps)

sum_of_ones : (xs : List ℕ) → sum_by (λ x. 1) xs ≡ length xs
sum_of_ones [] = refl
sum_of_ones (x ∷ xs) = omega (arith, sum_of_ones xs, sum_by-cons (λ (x : ℕ). 1) x xs)

-- ---- all indices

pairs_from : (front pairs : List KeyValue) → map (pair_at (front ++ pairs)) (range_with_len (length front) (length pairs)) ≡ pairs
pairs_from front [] = refl
pairs_from front (pair ∷ pairs) = grind (arith, common_steps, pairs_from (front ++ pair ∷ []) pairs)

pub in_query_order : (pairs : List KeyValue) → pairs_at pairs (range_with_len 0 (length pairs)) ≡ pairs
in_query_order pairs = pairs_from [] pairs

-- ---- all indices in the order of the keys

pub same_test : (pairs : List KeyValue) (key : Text) (index : ℕ) → index < length pairs → has_key key (pair_at pairs index) ≡ has_key_at key pairs index
same_test pairs key index within =
    sym (passes_there (λ other. bytes_eq other key) pairs index (pair_at pairs index) (slice_get-get_or pairs index no_pair within))

pub values_at : (pairs : List KeyValue) (key : Text) (indices : List ℕ) → All (λ index. index < length pairs) indices
    → all_of (pairs_at pairs indices) key ≡ map (λ (pair : KeyValue). pair.value) (map (pair_at pairs) (filter (has_key_at key pairs) indices))
values_at pairs key indices within =
    ap (map (λ (pair : KeyValue). pair.value)) (filter-map (pair_at pairs) (has_key key) indices)
    ∙ ap (λ kept. map (λ (pair : KeyValue). pair.value) (map (pair_at pairs) kept))
    (filter-agree (λ index. index < length pairs) (λ index. has_key key (pair_at pairs index)) (has_key_at key pairs) (same_test pairs key) indices within)

pub same_values : (pairs : List KeyValue) (order : List ℕ) (key : Text) → IsKeyOrder pairs order → all_of (pairs_at pairs order) key ≡ all_of pairs key
same_values pairs order key ordered =
    let all = range_with_len 0 (length pairs) in
    values_at pairs key order ordered.within
    ∙ ap (λ kept. map (λ (pair : KeyValue). pair.value) (map (pair_at pairs) kept)) (ordered.stable key)
    ∙ sym (values_at pairs key all (range_below (length pairs)))
    ∙ ap (λ ps. all_of ps key) (in_query_order pairs)

pub same_bytes : (pairs : List KeyValue) (order : List ℕ) → IsKeyOrder pairs order → value_bytes (pairs_at pairs order) ≡ value_bytes pairs
same_bytes pairs order ordered =
    let all = range_with_len 0 (length pairs) in
    let weight : KeyValue → ℕ = λ pair. length pair.value in
    sum_by-map weight (pair_at pairs) order ∙ ordered.once (λ index. weight (pair_at pairs index)) ∙ sym (sum_by-map weight (pair_at pairs) all)
    ∙ ap value_bytes (in_query_order pairs)

pub same_count : (pairs : List KeyValue) (order : List ℕ) → IsKeyOrder pairs order → length (pairs_at pairs order) ≡ length pairs
same_count pairs order ordered =
    let mapped : length (pairs_at pairs order) ≡ length order = rw length-map refl in
    mapped ∙ sym (sum_of_ones order) ∙ ordered.once (λ index. 1) ∙ sum_of_ones (range_with_len 0 (length pairs))
    ∙ length-range_with_len 0 (length pairs)
