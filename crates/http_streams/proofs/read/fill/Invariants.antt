use Rattle.std.proofs.Common.{◌≡◌, ◌≤◌, ◌-◌, ℕ, List, ◌++◌, length, take}
use Rattle.std.specs.Prelude.{vec_capacity}
use Rattle.http_streams.specs.Closing.{is_closed}
use Rattle.http_streams.specs.Private.Progress.{closes_with}
use Rattle.http_streams.specs.Streams.{Receives}
use Rattle.http_streams.proofs.read.fill.Given as goal

-- the first bytes of the buffer were read, no read has failed, and the progress says which further bytes close the head
abbrev pub invariant-loop-filled : goal.invariant-loop-filled
invariant-loop-filled g l = record {
  within : l.filled ≤ length l.room.items;
  room : length l.room.items ≤ l.most;
  capacity : l.most ≤ vec_capacity l.room;
  read : Receives (g.I.Input.input_state l.fn.input) (take l.filled l.room.items) l.filled (g.I.Input.input_state l.input);
  progress : (more : List ℕ) → closes_with l.progress more ≡ is_closed (take l.filled l.room.items ++ more);
}

abbrev pub decreases-loop-filled : goal.decreases-loop-filled
decreases-loop-filled g l = l.most - l.filled
