-- How a table finds the rows of an identifier: an index of hashes and rows, in order.
use Rattle.std.specs.Prelude.{◌≡◌, ℕ, ◌==◌, if◌then◌else◌, ◌+◌, ◌*◌, ◌/◌, ◌^◌, ◌≤◌, ◌<◌, List, [], All, length, get_or, Option, None, Some, true, false}
use Rattle.std.specs.List.{Contains, slice_get}
use Rattle.std.specs.List.Sorted.{IsNonDecreasingBy}
use Rattle.std.specs.Option.{option_and_then, option_map_or}
use Rattle.text_model.specs.Texts.{Text}
use Rattle.kbart_rows.specs.Cells.{Row}
use Rattle.kbart_rows.specs.Hashing.{hash_of}
use Rattle.kbart_rows.specs.Identifiers.{has_identifier}
use Rattle.kbart_rows.specs.declared.index.Entry.{Entry}
use Rattle.kbart_rows.specs.declared.runs.Run.{Run}
use Rattle.kbart_rows.specs.declared.keys.Keys.{Keys}

-- the upper half of an identifier's hash
abbrev pub half_of : ℕ → ℕ
half_of hash = hash / 4294967296

abbrev pub entry_for : Keys → ℕ → Text → Entry
entry_for keys row id = record { hash = half_of (hash_of keys id); row = row }

-- entries are ordered by hash, and those of one hash by row
abbrev pub key_of : ℕ → ℕ → ℕ
key_of hash row = hash * 4294967296 + row

abbrev pub entry_key : Entry → ℕ
entry_key entry = key_of entry.hash entry.row

abbrev pub IsOrdered : List Entry → Type 0
IsOrdered entries = IsNonDecreasingBy entry_key entries

-- no row is too large for an order of entries by their keys
abbrev pub AreSmall : List Entry → Type 0
AreSmall entries = All (λ entry. entry.row < 4294967296) entries

-- each identifier of each row has its entry
abbrev pub HasEntries : Keys → List (Option ℕ) → List Row → List Entry → Type 0
HasEntries keys columns rows entries = (row : ℕ) (id : Text) → has_identifier columns id (get_or rows row []) ≡ true
    → Contains entries (entry_for keys row id)

-- ---- the buckets of hashes

-- the bucket of a hash
abbrev pub bucket_of : ℕ → ℕ → ℕ
bucket_of shift hash = hash / 2 ^ shift

-- of each bucket, and of one past the last, where its entries start
pub record AreStarts (shift : ℕ) (entries : List Entry) (starts : List ℕ) : Type 0 where
  pub all : length starts ≡ bucket_of shift 4294967295 + 2
  pub before : (bucket k : ℕ) (d : Entry) → bucket < length starts → k < get_or starts bucket 0 → k < length entries
      → bucket_of shift (get_or entries k d).hash < bucket
  pub after : (bucket k : ℕ) (d : Entry) → bucket < length starts → get_or starts bucket 0 ≤ k → k < length entries
      → bucket ≤ bucket_of shift (get_or entries k d).hash
  pub within : (bucket : ℕ) → bucket < length starts → get_or starts bucket 0 ≤ length entries

-- entries in order, and the starts of their buckets
pub record IsIndex (shift : ℕ) (entries : List Entry) (starts : List ℕ) : Type 0 where
  pub fits : shift < 32
  pub order : IsOrdered entries
  pub small : AreSmall entries
  pub starting : AreStarts shift entries starts

-- ---- the entries of one hash

-- the row of the entry that a run has reached, if it is of the run's hash
abbrev pub row_at : ℕ → Entry → Option ℕ
row_at hash entry = if entry.hash == hash then Some entry.row else None

abbrev pub head_of : List Entry → Run → Option ℕ
head_of entries run = option_and_then (row_at run.hash) (slice_get entries run.at)

-- the run after a row, if it has reached that row
abbrev pub passed : List Entry → ℕ → Run → Run
passed entries row run = if option_map_or (λ other. other == row) (head_of entries run) false then record { hash = run.hash; at = run.at + 1 } else run

-- the run of a hash has all its entries with these rows before it
pub record IsAhead (entries : List Entry) (from wanted : ℕ) (run : Run) : Type 0 where
  pub hash : run.hash ≡ wanted
  pub low : (k : ℕ) (d : Entry) → run.at ≤ k → k < length entries → wanted ≤ (get_or entries k d).hash
  pub ahead : (k : ℕ) (d : Entry) → k < length entries → (get_or entries k d).hash ≡ wanted → from ≤ (get_or entries k d).row → run.at ≤ k
