use Rattle.std.proofs.Common.{◌≤◌, ◌-◌, length, take}
use Rattle.http_streams.specs.Streams.{Sends}
use Rattle.http_streams.proofs.write.write_all.Given as goal

-- the first bytes were written, and no write has failed
abbrev pub invariant-loop-sent : goal.invariant-loop-sent
invariant-loop-sent g l = record {
  within : l.sent ≤ length l.bytes;
  output_state : Sends (g.O.Output.output_state l.fn.output) (take l.sent l.bytes) l.sent (g.O.Output.output_state l.output);
}

abbrev pub decreases-loop-sent : goal.decreases-loop-sent
decreases-loop-sent g l = length l.bytes - l.sent
