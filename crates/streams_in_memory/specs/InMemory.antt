-- The state of streams over memory.
use Rattle.std.specs.Prelude.{ℕ, ◌-◌, ◌==◌, List, Option, Some, None, if◌then◌else◌}
use Rattle.http_streams.specs.Streams.{InputState, OutputState}
use Rattle.http_streams.specs.declared.tally.Tally.{Tally}

-- what is known about an input with these bytes left to read and these calls counted, and about an output with these bytes written
abbrev pub input_with : List ℕ → Tally → Option ℕ → InputState
input_with left tally wait = record { left = Some left; taken = tally.moved; failures = tally.failures; wait = wait }

abbrev pub output_with : List ℕ → Tally → Option ℕ → OutputState
output_with written tally wait = record { written = Some written; sent = tally.moved; failures = tally.failures; wait = wait }

-- the counts of a stream that has had no calls
abbrev pub no_calls : Tally
no_calls = record { moved = 0; failures = 0 }

-- a tape: what is left to read, what was written, and what its reads and its writes have counted
pub record TapeValue : Type 0 where
  pub left : List ℕ
  pub written : List ℕ
  pub reads : Tally
  pub writes : Tally

-- an input that returns at most a piece in each read; the number of calls before the one that fails, if it has not been made yet; and the nanoseconds that a
-- call may take, if they are known
pub record PieceInValue : Type 0 where
  pub left : List ℕ
  pub piece : ℕ
  pub fails_after : Option ℕ
  pub tally : Tally
  pub wait : Option ℕ

-- an output that accepts at most a piece in each write, with the same further fields
pub record PieceOutValue : Type 0 where
  pub written : List ℕ
  pub piece : ℕ
  pub fails_after : Option ℕ
  pub tally : Tally
  pub wait : Option ℕ

-- ---- what is known about them

-- a tape is both an input and an output
abbrev pub tape_as_input : TapeValue → InputState
tape_as_input tape = input_with tape.left tape.reads None

abbrev pub tape_as_output : TapeValue → OutputState
tape_as_output tape = output_with tape.written tape.writes None

abbrev pub pieces_as_input : PieceInValue → InputState
pieces_as_input stream = input_with stream.left stream.tally stream.wait

abbrev pub pieces_as_output : PieceOutValue → OutputState
pieces_as_output stream = output_with stream.written stream.tally stream.wait

-- ---- calls that fail

-- the number of calls before the one that fails, after one more call
abbrev pub after_call : Option ℕ → Option ℕ
after_call None = None
after_call (Some calls) = if calls == 0 then None else Some (calls - 1)
