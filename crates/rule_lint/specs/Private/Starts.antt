-- Where a search for a name that resembles another can begin.
use Rattle.std.specs.Prelude.{ℕ, ◌+◌, ◌*◌, ◌^◌, ◌%◌, ◌<◌, ◌≤◌, List, [], ◌++◌, codes, length, get_or, take, drop, map, fold, nat_eq, unwrap_or}
use Rattle.std.specs.Char.{to_ascii_lowercase}
use Rattle.std.specs.HashMap.{HashMap, get}
use Rattle.text_model.specs.Texts.{Text}
use Rattle.kbart_rows.specs.declared.keys.Keys.{Keys}

-- the hash of a text with one more byte, or of a key with one more number
abbrev pub next_hash : ℕ → ℕ → ℕ → ℕ
next_hash m hash n = (((hash % 4294967087) * (m % 4294967087)) % 2 ^ 64 + n) % 2 ^ 64

abbrev pub name_hash : ℕ → Text → ℕ
name_hash m text = fold (next_hash m) 0 text

abbrev pub lower_case : Text → Text
lower_case text = map to_ascii_lowercase text

-- the text without this byte
abbrev pub without : Text → ℕ → Text
without text i = take i text ++ drop (i + 1) text

-- ---- keys

-- the key of a hash, of one kind, at a place
abbrev pub key_at : ℕ → ℕ → ℕ → ℕ → ℕ
key_at m hash kind i = next_hash m (next_hash m hash kind) i

abbrev pub whole_key : ℕ → Text → ℕ
whole_key m text = key_at m (name_hash m text) 0 0

abbrev pub lowered_key : ℕ → Text → ℕ
lowered_key m text = key_at m (name_hash m (lower_case text)) 1 0

-- the text is left if a name loses a byte at this place
abbrev pub shorter_key : ℕ → Text → ℕ → ℕ
shorter_key m text i = key_at m (name_hash m text) 2 i

-- the text is left if a name loses this byte at this place
abbrev pub exchanged_key : ℕ → Text → ℕ → ℕ → ℕ
exchanged_key m text b i = key_at m (next_hash m (name_hash m text) b) 3 i

-- the first name that has the key, or the largest number
abbrev pub first_with : HashMap ℕ ℕ Keys → ℕ → ℕ
first_with firsts key = unwrap_or (get nat_eq firsts key) 18446744073709551615

-- ---- the keys of a name

-- for each key of the name, the first name that has it is at most at this place
pub record IsMarked (m : ℕ) (firsts : HashMap ℕ ℕ Keys) (place : ℕ) (name : Text) : Type 0 where
  pub whole : first_with firsts (whole_key m name) ≤ place
  pub lowered : first_with firsts (lowered_key m name) ≤ place
  pub shorter : (i : ℕ) → i < length name → first_with firsts (shorter_key m (without name i) i) ≤ place
  pub exchanged : (i : ℕ) → i < length name → first_with firsts (exchanged_key m (without name i) (get_or name i 0) i) ≤ place

abbrev pub AreSearchStarts : ℕ → HashMap ℕ ℕ Keys → List Text → Type 0
AreSearchStarts m firsts names = (k : ℕ) → k < length names → IsMarked m firsts k (get_or names k [])

-- the start is at most the first name that has one of the keys of the names that resemble this one
pub record IsStart (m : ℕ) (firsts : HashMap ℕ ℕ Keys) (name : Text) (start : ℕ) : Type 0 where
  pub lowered : start ≤ first_with firsts (lowered_key m name)
  pub prefixed : start ≤ first_with firsts (whole_key m (codes "rft." ++ name))
  pub longer : (i : ℕ) → i ≤ length name → start ≤ first_with firsts (shorter_key m name i)
  pub shorter : (i : ℕ) → i < length name → start ≤ first_with firsts (whole_key m (without name i))
  pub replaced : (i : ℕ) → i < length name → start ≤ first_with firsts (shorter_key m (without name i) i)
  pub exchanged : (i : ℕ) → i < length name → start ≤ first_with firsts (exchanged_key m (without name i) (get_or name i 0) (i + 1))
