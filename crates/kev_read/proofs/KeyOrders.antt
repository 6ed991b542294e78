-- The order of pairs by their keys, and which of them have a key.
use Rattle.std.proofs.Common.{◌≡◌, ℕ, ◌+◌, ◌-◌, ◌≤◌, ◌<◌, ◌==◌, Bool, true, false, List, [], ◌++◌, append-nil, filter, length, take, drop, get_or, Option, Some}
use Rattle.std.proofs.Common.{refl, sym, ap, ◌∙◌, arith, length-drop}
use Rattle.std.proofs.lemmas.Bool.{cases_lt, eqb-true, eq-eqb}
use Rattle.std.proofs.lemmas.Cmp.{nat_list_eq_equiv}
use Rattle.std.proofs.lemmas.List.{get_or_default, get_or-drop, get_or-take, length-take-le, length-map, take-append-drop}
use Rattle.std.proofs.lemmas.List.Elements.{filter-append}
use Rattle.std.proofs.lemmas.List.Folds.{Any-from_list_any, list_any_at}
use Rattle.std.proofs.lemmas.List.FromFn.{length-range_with_len, get_or-range_with_len}
use Rattle.std.proofs.lemmas.List.Sorted.{All-permutation, list_any-IsPermutation, searchable_from_sorted, sum_by-IsPermutation}
use Rattle.std.proofs.lemmas.Option.{slice_get_past}
use Rattle.std.specs.Cmp.{both_ways}
use Rattle.std.specs.Cmp.Lexicographic.{options_total}
use Rattle.std.specs.List.{AllWithin, range_with_len, sum_by}
use Rattle.std.specs.List.Sorted.{IsPermutation, IsSortedBy, IsStableBy, IsNonDecreasingBy, IsPartitionedBy, IsPartitionPoint}
use Rattle.std.specs.Option.{option_map_or}
use Rattle.std.specs.Ordering.{is_lt, is_le, is_eq, ordering_index}
use Rattle.std.specs.Str.{bytes_eq}
use Rattle.std.specs.declared.cmp.Ordering.{Ordering}
use Rattle.std.specs.declared.cmp.Ordering.TheVariants.{Less, Equal, Greater}
use Rattle.std.proofs.lemmas.Grind.{common_steps}
use Rattle.text_model.specs.Texts.{Text}
use Rattle.text_model.proofs.Lists.{filter_all, filter_none}
use Rattle.kev_read.specs.Pairs.{KeyValue}
use Rattle.kev_read.specs.Private.KeyOrder.{key_at, passes_at, compared, has_index, has_key_at, IsKeyOrder}
use Rattle.kev_read.proofs.KeyMarks.{is_eq-compared_keys, keys_total}
use Rattle.kev_read.proofs.StableKeys.{key_lt, stable_keys}

-- ---- the order

-- the result of sorting all indices
pub key_order_from_sort : (pairs : List KeyValue) (from to : List ℕ) → from ≡ range_with_len 0 (length pairs) → IsPermutation from to
    → IsSortedBy (key_lt pairs) to → IsStableBy (key_lt pairs) from to → IsKeyOrder pairs to
key_order_from_sort pairs from to all moved sorted stable =
    let count = ap length all ∙ length-range_with_len 0 (length pairs) in
    let at : (i d : ℕ) → i < length pairs → get_or from i d ≡ i = grind (arith, get_or-range_with_len) in
    record {
      sorted = sorted;
      every = λ index within.
          sym (list_any-IsPermutation (λ other. other == index) from to moved)
          ∙ list_any_at (λ other. other == index) from index index (omega arith) (eq-eqb (get_or from index index) index (at index index within));
      within = All-permutation (λ index. index < length pairs) from to moved (λ k d below. let within : k < length pairs = omega arith in
          rw (at k d within) within);
      once = λ weight. sum_by-IsPermutation weight from to moved ∙ ap (sum_by weight) all;
      stable = λ key. stable_keys pairs from to moved stable key ∙ ap (filter (has_key_at key pairs)) all;
    }

-- ---- a key compared with the order

-- how the key of the pair at an index compares with the key
abbrev pub compared_at : List KeyValue → Text → ℕ → Ordering
compared_at pairs key index = compared (key_at pairs index) (Some key)

-- once the test fails, it fails for all later elements
abbrev pub Falls : (Ordering → Bool) → Type 0
Falls test = (a b : Ordering) → ordering_index a ≤ ordering_index b → test b ≡ true → test a ≡ true

pub is_lt-Falls : Falls is_lt
is_lt-Falls Less b le h = refl
is_lt-Falls Equal Less le h = absurd (omega arith)
is_lt-Falls Equal Equal le h = h
is_lt-Falls Equal Greater le h = h
is_lt-Falls Greater Less le h = absurd (omega arith)
is_lt-Falls Greater Equal le h = h
is_lt-Falls Greater Greater le h = h

pub is_le-Falls : Falls is_le
is_le-Falls Less b le h = refl
is_le-Falls Equal b le h = refl
is_le-Falls Greater Less le h = absurd (omega arith)
is_le-Falls Greater Equal le h = absurd (omega arith)
is_le-Falls Greater Greater le h = h

pub rises : (pairs : List KeyValue) (order : List ℕ) (key : Text) → IsKeyOrder pairs order
    → IsNonDecreasingBy (λ index. ordering_index (compared_at pairs key index)) order
rises pairs order key ordered = searchable_from_sorted (options_total keys_total) (key_at pairs) order (Some key) ordered.sorted

pub splits : (test : Ordering → Bool) → Falls test → (pairs : List KeyValue) (indices : List ℕ) (key : Text)
    → IsNonDecreasingBy (λ index. ordering_index (compared_at pairs key index)) indices → IsPartitionedBy (λ index. test (compared_at pairs key index)) indices
splits test falls pairs indices key rise i j d le below h = falls _ _ (rise i j d le below) h

-- if the element at a place fails such a test, all from there on fail it
pub none_past : (test : ℕ → Bool) (xs : List ℕ) (i : ℕ) → IsPartitionedBy test xs → (i < length xs → test (get_or xs i 0) ≡ false)
    → AllWithin (λ x. test x ≡ false) xs i (length xs)
none_past test xs i splits fails k d from below = by_value (test (get_or xs k d)) refl
  where
    by_value : (b : Bool) → test (get_or xs k d) ≡ b → test (get_or xs k d) ≡ false
    by_value false h = h
    by_value true h =
        let within : i < length xs = omega arith in
        let clash : true ≡ false = sym (splits i k d from below h) ∙ ap test (get_or_default xs i d 0 within) ∙ fails within in
        absurd (cc)

-- if the first element of a list passes a test, all before the second do
pub first_alone : (test : ℕ → Bool) (xs : List ℕ) → 0 < length xs → test (get_or xs 0 0) ≡ true → AllWithin (λ x. test x ≡ true) xs 0 1
first_alone test xs within passes k d from below = grind (arith, common_steps)

-- ---- the indices of a key

abbrev SplitsAt : (Ordering → Bool) → List KeyValue → Text → List ℕ → ℕ → Type 0
SplitsAt test pairs key = IsPartitionPoint (λ index. test (compared_at pairs key index) ≡ true) (λ index. test (compared_at pairs key index) ≡ false)

neither : (o : Ordering) → is_lt o ≡ false → is_le o ≡ true → is_eq o ≡ true
neither o lt le = grind (arith, common_steps)

passes_equal : (other : Option Text) (key : Text) → option_map_or (bytes_eq key) other false ≡ is_eq (compared other (Some key))
passes_equal other key = grind (arith, nat_list_eq_equiv, is_eq-compared_keys)

within_pairs : (pairs : List KeyValue) (key : Text) (index : ℕ) → is_eq (compared_at pairs key index) ≡ true → index < length pairs
within_pairs pairs key index equal = grind (arith, slice_get_past, length-map)

pub has_key_equal : (pairs : List KeyValue) (key : Text) (index : ℕ) → has_key_at key pairs index ≡ is_eq (compared_at pairs key index)
has_key_equal pairs key index = grind (arith, is_eq-compared_keys)

-- the indices that a filter of the whole order keeps
pub run_is : (pairs : List KeyValue) (order : List ℕ) (key : Text) (start count : ℕ) → start ≤ length order → count ≤ length (drop start order)
    → SplitsAt is_lt pairs key order start → SplitsAt is_le pairs key (drop start order) count
    → take count (drop start order) ≡ filter (has_key_at key pairs) order
run_is pairs order key start count few fewer lt le =
    let p = has_key_at key pairs in
    let rest = drop start order in
    let left = length-drop start order in
    let before : filter p (take start order) ≡ [] = grind (arith, filter_none, length-take-le, get_or-take, has_key_equal) in
    let within : filter p (take count rest) ≡ take count rest =
    grind (arith, filter_all, length-take-le, get_or-take, get_or-drop, has_key_equal) in
    let after : filter p (drop count rest) ≡ [] = grind (arith, filter_none, length-drop, get_or-drop, has_key_equal) in
    sym (ap (filter p) (sym (take-append-drop start order)) ∙ filter-append p (take start order) rest ∙ ap (λ xs. xs ++ filter p rest) before
    ∙ ap (filter p) (sym (take-append-drop count rest)) ∙ filter-append p (take count rest) (drop count rest)
    ∙ ap (λ xs. xs ++ filter p (drop count rest)) within ∙ ap (λ xs. take count rest ++ xs) after ∙ append-nil (take count rest))

pub found : (pairs : List KeyValue) (order : List ℕ) (key : Text) (start count : ℕ) → IsKeyOrder pairs order → start ≤ length order
    → count ≤ length (drop start order)
    → SplitsAt is_lt pairs key order start → SplitsAt is_le pairs key (drop start order) count
    → (index : ℕ) → has_index index (take count (drop start order)) ≡ passes_at (bytes_eq key) pairs index
found pairs order key start count ordered few fewer lt le index =
    both_ways _ _ (λ h. passes_equal (key_at pairs index) key ∙ forwards h) (λ h. backwards (sym (passes_equal (key_at pairs index) key) ∙ h))
  where
    run : List ℕ
    run = take count (drop start order)

    run_length : length run ≡ count
    run_length = length-take-le count (drop start order) fewer

    at_run : (k d : ℕ) → k < count → get_or run k d ≡ get_or order (start + k) d
    at_run k d below = get_or-take count (drop start order) k d below ∙ get_or-drop start order k d

    forwards : has_index index run ≡ true → is_eq (compared_at pairs key index) ≡ true
    forwards h =
        let any = Any-from_list_any (λ other. other == index) run h in
        let k = any.0 in
        let x = any.1 in
        let below : k < count = let b = any.2 in let l = run_length in omega arith in
        let is : x ≡ index = eqb-true x index any.4 in
        let rest = length-drop start order in
        let here : get_or order (start + k) x ≡ index = sym (at_run k x below) ∙ any.3 ∙ is in
        let not_lt : is_lt (compared_at pairs key index) ≡ false = grind (arith, here) in
        let is_le : is_le (compared_at pairs key index) ≡ true = grind (arith, get_or-drop, here, below) in
        neither _ not_lt is_le

    backwards : is_eq (compared_at pairs key index) ≡ true → has_index index run ≡ true
    backwards equal =
        let any = Any-from_list_any (λ other. other == index) order (ordered.every index (within_pairs pairs key index equal)) in
        let j = any.0 in
        let x = any.1 in
        let within = any.2 in
        let rest = length-drop start order in
        let here : get_or order j x ≡ index = any.3 ∙ eqb-true x index any.4 in
        let from : start ≤ j = grind (arith, common_steps) in
        let k = j - start in
        let place : start + k ≡ j = omega arith in
        let there : get_or (drop start order) k x ≡ index = get_or-drop start order k x ∙ ap (λ i. get_or order i x) place ∙ here in
        let below : k < count = grind (arith, there, cases_lt) in
        let l = run_length in
        list_any_at (λ other. other == index) run k x (omega arith) (eq-eqb (get_or run k x) index (get_or-take count (drop start order) k x below ∙ there))
