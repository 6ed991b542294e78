use Rattle.std.proofs.Common.{◌≡◌, take, fold}
use Rattle.kev_read.specs.Private.KeyMarks.{next_mark}
use Rattle.kev_read.proofs.marked_key.mark.Given as goal

-- the mark of the bytes so far
abbrev pub invariant-loop-byte : goal.invariant-loop-byte
invariant-loop-byte l = l.mark ≡ fold next_mark 0 (take l.byte-index l.key)
