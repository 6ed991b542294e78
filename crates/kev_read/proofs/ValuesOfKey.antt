-- The values of one key.
use Rattle.std.proofs.Common.{◌≡◌, ℕ, ◌+◌, ◌≤◌, true, false, List, ◌∷◌, length, drop, Some, slice_get, refl, ap, ◌∙◌}
use Rattle.std.proofs.lemmas.List.{length-map, drop_more}
use Rattle.std.proofs.lemmas.List.Sums.{length-filter, count_by-le-length}
use Rattle.std.proofs.lemmas.Option.{slice_get_within, get_or_from_slice_get}
use Rattle.text_model.specs.Texts.{Text}
use Rattle.kev_read.specs.Pairs.{KeyValue, has_key, all_of}

-- a key has no more values than there are pairs
pub all_of_few : (pairs : List KeyValue) (key : Text) → length (all_of pairs key) ≤ length pairs
all_of_few pairs key = rw (length-map, length-filter) (count_by-le-length (has_key key) pairs)

-- ---- the pair at an index, and those after it

from_index : (pairs : List KeyValue) (index : ℕ) (pair : KeyValue) → slice_get pairs index ≡ Some pair → drop index pairs ≡ pair ∷ drop (index + 1) pairs
from_index pairs index pair is =
    drop_more pairs index pair (slice_get_within pairs index pair is) ∙ ap (λ p. p ∷ drop (index + 1) pairs) (get_or_from_slice_get pairs index pair pair is)

pub all_of_this_key : (pairs : List KeyValue) (key : Text) (index : ℕ) (pair : KeyValue) → slice_get pairs index ≡ Some pair → has_key key pair ≡ true
    → all_of (drop index pairs) key ≡ pair.value ∷ all_of (drop (index + 1) pairs) key
all_of_this_key pairs key index pair is same = ap (λ ps. all_of ps key) (from_index pairs index pair is) ∙ rw same refl

pub all_of_other_key : (pairs : List KeyValue) (key : Text) (index : ℕ) (pair : KeyValue) → slice_get pairs index ≡ Some pair → has_key key pair ≡ false
    → all_of (drop index pairs) key ≡ all_of (drop (index + 1) pairs) key
all_of_other_key pairs key index pair is other = ap (λ ps. all_of ps key) (from_index pairs index pair is) ∙ rw other refl
