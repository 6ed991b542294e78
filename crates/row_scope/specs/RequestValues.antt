-- The values that a request has under its keys.
use Rattle.std.specs.Prelude.{◌≡◌, ℕ, ◌+◌, ◌*◌, ◌≤◌, Bool, true, false, [], is_some, List, All, length, map, take, drop, sum_by, if◌then◌else◌}
use Rattle.std.specs.List.{list_any}
use Rattle.text_model.specs.Texts.{Text}
use Rattle.environment_model.specs.Environment.{members_of}
use Rattle.target_vars.specs.EnvValue.{EnvValue, IsWithin, piece_at}
use Rattle.kev_read.specs.Pairs.{KeyValue, all_of, value_bytes}
use Rattle.kbart_rows.specs.Cells.{Row, column_of}
use Rattle.kbart_rows.specs.NameSets.{has}
use Rattle.kev_read.specs.declared.read.TheConstants.{MAX_PAIRS, MAX_QUERY_BYTES}
use Rattle.row_laws.specs.Shadowing.{first_bytes}

-- the pairs of a request, an environment in which each key is the name of the list of its values, and whether a key may be
-- the name of a column of some table
pub record RequestValue : Type 0 where
  pub pairs : List KeyValue
  pub values : EnvValue
  pub meets : Bool

-- the header's names are among those of all columns
abbrev pub AreAmong : List Text → Row → Type 0
AreAmong columns header = (name : Text) → is_some (column_of header name) ≡ true → has columns name ≡ true

-- a key of the request is the name of a column
abbrev pub has_key_among : List Text → List KeyValue → Bool
has_key_among columns pairs = list_any (λ pair. has columns pair.key) pairs

-- if `meets` is false, the request has no key with one of these names
abbrev pub IsApart : RequestValue → (Text → Bool) → Type 0
IsApart request names = request.meets ≡ false → (name : Text) → names name ≡ true → all_of request.pairs name ≡ []

-- if `meets` is false, the request has no key that is a name in the header
abbrev pub IsApartFrom : RequestValue → Row → Type 0
IsApartFrom request header = IsApart request (λ name. is_some (column_of header name))

-- the values of the key are at `count` spans from `first` on, in their order
pub record AreValuesAt (request : RequestValue) (key : Text) (first count : ℕ) : Type 0 where
  pub within : first + count ≤ length request.values.spans
  pub are : all_of request.pairs key ≡ map (piece_at request.values.buffer) (take count (drop first request.values.spans))

-- the bytes and the members that a request has under a key: all values of a list, the first value of a text
abbrev pub bytes_of_key : List KeyValue → Bool → Text → ℕ
bytes_of_key pairs list key = if list then sum_by length (all_of pairs key) else first_bytes (all_of pairs key)

abbrev pub members_of_key : List KeyValue → Bool → Text → ℕ
members_of_key pairs list key = if list then length (all_of pairs key) else 0

-- the environment has each key's values, within the limits of a request
pub record AreValues (request : RequestValue) : Type 0 where
  pub lists : (key : Text) → members_of request.values.entries key ≡ all_of request.pairs key
  pub short : length request.values.buffer ≤ 3 * MAX_QUERY_BYTES
  pub few : length request.values.spans ≤ MAX_PAIRS
  pub inside : All (IsWithin request.values) request.values.spans
  pub small : value_bytes request.pairs ≤ 3 * MAX_QUERY_BYTES
  pub few_pairs : length request.pairs ≤ MAX_PAIRS
