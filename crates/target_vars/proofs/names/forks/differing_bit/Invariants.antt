use Rattle.std.proofs.Common.{◌≢◌, ◌/◌, ◌^◌, ◌<◌, ◌-◌}
use Rattle.target_vars.proofs.names.forks.differing_bit.Given as goal

-- the bits that are left differ
abbrev pub invariant-loop-bit : goal.invariant-loop-bit
invariant-loop-bit l = record {
  few : l.bit < 16;
  differ : l.code / 2 ^ l.bit ≢ l.other / 2 ^ l.bit;
}

abbrev pub decreases-loop-bit : goal.decreases-loop-bit
decreases-loop-bit l = 16 - l.bit
