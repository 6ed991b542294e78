-- In the order of the keys, a pair whose key came before is directly after another pair with the same key.
use Rattle.std.proofs.Common.{◌≡◌, ℕ, suc, ◌≤◌, ◌<◌, true, List, length, take, get_or, bytes_eq, refl, sym, ap, ◌∙◌, arith}
use Rattle.std.proofs.lemmas.List.{get_or-take, get_or-map, length-map, length-take-le}
use Rattle.std.proofs.lemmas.Slice.Eq.{bytes_eq-Decides}
use Rattle.std.proofs.lemmas.List.Folds.{Any-from_list_any, list_any_at}
use Rattle.std.specs.Cmp.{both_ways}
use Rattle.std.specs.List.{list_any}
use Rattle.std.specs.Ordering.{is_eq, ordering_index}
use Rattle.std.specs.declared.cmp.Ordering.{Ordering}
use Rattle.std.proofs.lemmas.Grind.{common_steps}
use Rattle.text_model.specs.Texts.{Text}
use Rattle.kev_read.specs.Pairs.{KeyValue, has_key}
use Rattle.kev_read.specs.Private.KeyOrder.{IsKeyOrder, pair_at, pairs_at}
use Rattle.kev_read.proofs.KeyOrders.{compared_at, has_key_equal, rises}
use Rattle.kev_read.proofs.PairsByKey.{no_pair, same_test}

index_of_equal : (o : Ordering) → is_eq o ≡ true → ordering_index o ≡ 1
index_of_equal o eq = grind (arith, common_steps)

equal_of_index : (o : Ordering) → ordering_index o ≡ 1 → is_eq o ≡ true
equal_of_index o is = grind (arith, common_steps)

module _ (pairs : List KeyValue) (order : List ℕ) (ordered : IsKeyOrder pairs order) where
  abbrev at : ℕ → KeyValue
  at i = pair_at pairs (get_or order i 0)

  -- the test of a key at a place of the order
  key_test : (key : Text) (i : ℕ) → i < length order → has_key key (at i) ≡ is_eq (compared_at pairs key (get_or order i 0))
  key_test key i within = grind (arith, same_test, has_key_equal)

  at_place : (i : ℕ) → i < length order → get_or (pairs_at pairs order) i no_pair ≡ at i
  at_place i within = get_or-map (pair_at pairs) order i 0 no_pair within

  pub before_is_same : (m : ℕ) → suc m < length order → list_any (has_key (at (suc m)).key) (take (suc m) (pairs_at pairs order))
      ≡ bytes_eq (at m).key (at (suc m)).key
  before_is_same m within = both_ways _ _ forwards backwards
    where
      key : Text
      key = (at (suc m)).key

      many : length (pairs_at pairs order) ≡ length order
      many = length-map order (pair_at pairs)

      size : length (take (suc m) (pairs_at pairs order)) ≡ suc m
      size = length-take-le (suc m) (pairs_at pairs order) (omega (arith, many, within))

      forwards : list_any (has_key key) (take (suc m) (pairs_at pairs order)) ≡ true → bytes_eq (at m).key key ≡ true
      forwards some =
          let any = Any-from_list_any (has_key key) (take (suc m) (pairs_at pairs order)) some in
          let k = any.0 in
          let below : k < suc m = let b = any.2 in omega (arith, b, size) in
          let is : at k ≡ any.1 =
          sym (get_or-map (pair_at pairs) order k 0 any.1 (omega (arith, below, within))) ∙ sym (get_or-take (suc m) (pairs_at pairs order) k any.1 below)
          ∙ any.3 in
          let first : has_key key (at k) ≡ true = ap (has_key key) is ∙ any.4 in
          let index : ℕ → ℕ = λ i. ordering_index (compared_at pairs key (get_or order i 0)) in
          let at_first : index k ≡ 1 = index_of_equal _ (sym (key_test key k (omega (arith, below, within))) ∙ first) in
          let at_last : index (suc m) ≡ 1 = index_of_equal _ (sym (key_test key (suc m) within) ∙ itself) in
          let low : index k ≤ index m = rises pairs order key ordered k m 0 (omega (arith, below)) (omega (arith, within)) in
          let high : index m ≤ index (suc m) = rises pairs order key ordered m (suc m) 0 (omega arith) within in
          key_test key m (omega (arith, within)) ∙ equal_of_index _ (omega (arith, low, high, at_first, at_last))
        where
          itself : bytes_eq key key ≡ true
          itself = (bytes_eq-Decides key key).1 refl

      backwards : bytes_eq (at m).key key ≡ true → list_any (has_key key) (take (suc m) (pairs_at pairs order)) ≡ true
      backwards same =
          list_any_at (has_key key) (take (suc m) (pairs_at pairs order)) m no_pair (omega (arith, size))
          (ap (has_key key) (get_or-take (suc m) (pairs_at pairs order) m no_pair (omega arith) ∙ at_place m (omega (arith, within))) ∙ same)
