use Rattle.std.proofs.Common.{◌≡◌, [], take}
use Rattle.environment_model.specs.Environment.{byte_count, member_count}
use Rattle.kev_read.specs.Filling.{filled}
use Rattle.kev_read.specs.Private.KeyOrder.{pairs_at}
use Rattle.kev_read.proofs.key_sums.sums.Given as goal

-- the sums of the pairs so far
abbrev pub invariant-loop-place : goal.invariant-loop-place
invariant-loop-place l = record {
  bytes : l.bytes ≡ byte_count (filled [] [] (take l.place (pairs_at l.pairs l.order)));
  members : l.members ≡ member_count (filled [] [] (take l.place (pairs_at l.pairs l.order)));
}
