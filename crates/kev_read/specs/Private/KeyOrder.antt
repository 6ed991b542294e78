-- The order of the pairs of a request by their keys.
use Rattle.std.specs.Prelude.{◌≡◌, ℕ, ◌<◌, ◌≤◌, ◌+◌, ◌==◌, Bool, true, false, List, [], All, filter, get_or, length, map, take, drop, sum_by, Option, slice_get}
use Rattle.std.specs.declared.cmp.Ordering.{Ordering}
use Rattle.std.specs.Ordering.{is_lt}
use Rattle.std.specs.Option.{option_cmp, option_map_or}
use Rattle.std.specs.List.{list_any, range_with_len}
use Rattle.std.specs.List.Sorted.{IsSortedBy}
use Rattle.std.specs.Str.{bytes_eq}
use Rattle.text_model.specs.Texts.{Text}
use Rattle.kev_read.specs.Pairs.{KeyValue}
use Rattle.kev_read.specs.Private.KeyMarks.{compared_keys}

-- the key of the pair at the index, if there is one
abbrev pub key_at : List KeyValue → ℕ → Option Text
key_at pairs index = slice_get (map (λ pair. pair.key) pairs) index

-- there is a pair at the index, and its key passes the test
abbrev pub passes_at : (Text → Bool) → List KeyValue → ℕ → Bool
passes_at test pairs index = option_map_or test (key_at pairs index) false

-- how keys compare; no key comes before every key
abbrev pub compared : Option Text → Option Text → Ordering
compared = option_cmp compared_keys

abbrev pub has_index : ℕ → List ℕ → Bool
has_index index indices = list_any (λ other. other == index) indices

-- the pair at the index; without one, a pair of empty texts
abbrev pub pair_at : List KeyValue → ℕ → KeyValue
pair_at pairs index = get_or pairs index (record { key = []; value = [] })

-- the pairs at the indices
abbrev pub pairs_at : List KeyValue → List ℕ → List KeyValue
pairs_at pairs indices = map (pair_at pairs) indices

-- there is a pair at the index, and it has the key
abbrev pub has_key_at : Text → List KeyValue → ℕ → Bool
has_key_at key pairs index = passes_at (λ other. bytes_eq other key) pairs index

-- the indices of all pairs, in the order of their keys; pairs with the same key are in the order of the query
pub record IsKeyOrder (pairs : List KeyValue) (order : List ℕ) : Type 0 where
  pub sorted : IsSortedBy (λ a b. is_lt (compared (key_at pairs a) (key_at pairs b))) order
  pub every : (index : ℕ) → index < length pairs → has_index index order ≡ true
  pub within : All (λ index. index < length pairs) order
  pub once : (weight : ℕ → ℕ) → sum_by weight order ≡ sum_by weight (range_with_len 0 (length pairs))
  pub stable : (key : Text) → filter (has_key_at key pairs) order ≡ filter (has_key_at key pairs) (range_with_len 0 (length pairs))

-- the indices of the pairs that have the key are those from a place in the order on, and this is how many there are
pub record IsKeyRun (pairs : List KeyValue) (order : List ℕ) (key : Text) (first count : ℕ) : Type 0 where
  pub within : first + count ≤ length order
  pub are : take count (drop first order) ≡ filter (has_key_at key pairs) order
  pub found : (index : ℕ) → has_index index (take count (drop first order)) ≡ passes_at (bytes_eq key) pairs index
