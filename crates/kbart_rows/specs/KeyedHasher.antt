-- The hasher that two numbers key.
use Rattle.std.specs.Prelude.{ℕ, fold}
use Rattle.std.specs.Hash.{u64}
use Rattle.std.specs.Hash.DefaultHasher.{initial, write}
use Rattle.std.specs.declared.hash.DefaultHasher.{DefaultHasher}

-- the hasher after it has hashed the two numbers, one after the other
abbrev pub keyed : ℕ → ℕ → DefaultHasher
keyed first second = fold write (fold write initial (u64 first)) (u64 second)
