-- What is known about a stream over a socket.
use Rattle.std.specs.Prelude.{ℕ, Option, None}
use Rattle.http_streams.specs.Streams.{InputState, OutputState}
use Rattle.http_streams.specs.declared.tally.Tally.{Tally}

-- how many bytes it has moved and how many calls have failed, and the nanoseconds that a call may take, if that is known
pub record WireValue : Type 0 where
  pub tally : Tally
  pub wait : Option ℕ

-- its bytes are unknown
abbrev pub input_state_on : WireValue → InputState
input_state_on wire = record { left = None; taken = wire.tally.moved; failures = wire.tally.failures; wait = wire.wait }

abbrev pub output_state_on : WireValue → OutputState
output_state_on wire = record { written = None; sent = wire.tally.moved; failures = wire.tally.failures; wait = wire.wait }
