use Rattle.std.proofs.Common.{ℕ, ◌<◌, ◌≤◌, ◌-◌, length}
use Rattle.std.specs.Prelude.{slice_index}
use Rattle.kev_read.specs.Private.Ordinary.{IsOrdinary}
use Rattle.kev_read.proofs.ordinary.ordinary_len.Given as goal

-- the bytes so far are ordinary
abbrev pub invariant-loop-len : goal.invariant-loop-len
invariant-loop-len l = record { within : l.len ≤ length l.bytes; ordinary : (k : ℕ) → k < l.len → IsOrdinary (slice_index l.bytes k) }

abbrev pub decreases-loop-len : goal.decreases-loop-len
decreases-loop-len l = length l.bytes - l.len

abbrev pub invariant-loop-len-2 : goal.invariant-loop-len-2
invariant-loop-len-2 l = record { within : l.len ≤ length l.bytes; ordinary : (k : ℕ) → k < l.len → IsOrdinary (slice_index l.bytes k) }

abbrev pub decreases-loop-len-2 : goal.decreases-loop-len-2
decreases-loop-len-2 l = length l.bytes - l.len
