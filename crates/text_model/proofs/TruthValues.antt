-- Truth values: what several crates use and the library lacks.
use Rattle.std.proofs.Common.{◌≡◌, ℕ, ◌<◌, ◌≤◌, Bool, true, false, ◌||◌, if◌then◌else◌, sym, arith}
use Rattle.std.proofs.lemmas.Bool.{false≢true}

pub or_other : (a b : Bool) → (a || b) ≡ true → a ≡ false → b ≡ true
or_other true b holds fails = absurd (false≢true (sym fails))
or_other false b holds fails = holds

-- below one of two limits, so below the larger
pub if_below : (b : Bool) (n large small : ℕ) → small ≤ large → n < (if b then large else small) → n < large
if_below true n large small order below = below
if_below false n large small order below = omega (arith, order, below)
