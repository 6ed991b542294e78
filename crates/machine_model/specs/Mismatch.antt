-- Where a table does not meet the needs of a code, and the first such place.
use Rattle.std.specs.Prelude.{◌≡◌, ℕ, List, [], ◌∷◌, Option, Some, None, if◌then◌else◌, length}
use Rattle.code_model.specs.Code.{Code}
use Rattle.machine_model.specs.First.{Located, first_below}
use Rattle.machine_model.specs.Kinds.{kind_le, Kinds, Need, needs_at}
use Rattle.machine_model.specs.Typable.{Table, IsLeast}

-- the register of the first need that is not met
abbrev pub first_unmet : Kinds → List Need → Option ℕ
first_unmet ks [] = None
first_unmet ks (n ∷ ns) = if kind_le (ks n.register) n.kind then first_unmet ks ns else Some n.register

-- a place without kinds needs nothing
abbrev pub unmet_in : List Need → Option Kinds → Option ℕ
unmet_in ns None = None
unmet_in ns (Some ks) = first_unmet ks ns

-- the register of the first need at a place that the table does not meet, if there is one
unfoldable pub mismatch_at : Code → Table → ℕ → Option ℕ
mismatch_at c t p = unmet_in (needs_at c p) (t p)

-- the first place with a need that the table does not meet, and the register
abbrev pub first_mismatch : Code → Table → Option (Located ℕ)
first_mismatch c t = first_below (mismatch_at c t) (length c.instrs)

-- the first mismatch of a code is that of its least table
abbrev pub IsFirstMismatch : Code → Located ℕ → Type 0
IsFirstMismatch c m = (t : Table) × IsLeast c t × (first_mismatch c t ≡ Some m)
