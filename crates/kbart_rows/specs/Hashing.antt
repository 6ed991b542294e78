-- How the keys of a table initialise each hasher, and the hash of an identifier.
use Rattle.std.specs.Prelude.{ℕ, refl}
use Rattle.std.specs.Hash.DefaultHasher.{finish, write}
use Rattle.std.specs.declared.hash.DefaultHasher.{DefaultHasher}
use Rattle.text_model.specs.Texts.{Text}
use Rattle.kbart_rows.specs.declared.keys.Keys.{Keys}
pub use Rattle.kbart_rows.specs.KeyedHasher.{keyed}

-- the keys that are made of two numbers
abbrev pub keys_of : ℕ → ℕ → Keys
keys_of first second = record { first = first; second = second; hasher = keyed first second; begins = refl }

-- the state in which each hasher begins
abbrev pub hasher_at_start : Keys → DefaultHasher
hasher_at_start keys = keys.hasher

-- the hash of a text's bytes
abbrev pub hash_of : Keys → Text → ℕ
hash_of keys text = finish (write (hasher_at_start keys) text)
