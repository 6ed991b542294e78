use Rattle.std.proofs.Common.{◌≡◌, ℕ, ◌||◌, false, slice_index_or, take}
use Rattle.kev_read.specs.Private.KeyOrder.{has_index}
use Rattle.kev_read.proofs.list_keys.mark.Given as goal

-- the indices so far were marked
abbrev pub invariant-loop-index : goal.invariant-loop-index
invariant-loop-index l = (i : ℕ) → slice_index_or l.marks i false ≡ (slice_index_or l.fn.marks i false || has_index i (take l.index-index l.indices))
