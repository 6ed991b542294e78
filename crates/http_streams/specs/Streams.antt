-- What is known about a stream, and what a call of it changes.
use Rattle.std.specs.Prelude.{◌≡◌, ℕ, ◌+◌, ◌-◌, ◌^◌, List, [], ◌++◌, Option, Some, None, min}

-- a count that is raised by that many; it stops at the largest number of 64 bits
unfoldable pub raised : ℕ → ℕ → ℕ
raised count more = count + min more (2 ^ 64 - 1 - count)

-- ---- what is known about a stream

-- of an input: the bytes that are left to read, if they are known; how many bytes were read and how many reads have failed; and the nanoseconds that a read may
-- take, if they are known
pub record InputState : Type 0 where
  pub left : Option (List ℕ)
  pub taken : ℕ
  pub failures : ℕ
  pub wait : Option ℕ

-- of an output: the bytes that were written, if they are known; how many there are and how many writes have failed; and the nanoseconds that a write may take,
-- if they are known
pub record OutputState : Type 0 where
  pub written : Option (List ℕ)
  pub sent : ℕ
  pub failures : ℕ
  pub wait : Option ℕ

-- ---- bytes, if they are known

-- the bytes were read: what was left before is these bytes, followed by what is left now
abbrev pub Reads : Option (List ℕ) → List ℕ → Option (List ℕ) → Type 0
Reads (Some old) bytes (Some new) = old ≡ bytes ++ new
Reads (Some old) bytes None = ⊥
Reads None bytes (Some new) = ⊥
Reads None bytes None = Unit {0}

-- the bytes were written: what is written now is what was written before, followed by these bytes
abbrev pub Writes : Option (List ℕ) → List ℕ → Option (List ℕ) → Type 0
Writes (Some old) bytes (Some new) = new ≡ old ++ bytes
Writes (Some old) bytes None = ⊥
Writes None bytes (Some new) = ⊥
Writes None bytes None = Unit {0}

-- nothing is left, if the bytes are known
abbrev pub IsAtEnd : Option (List ℕ) → Type 0
IsAtEnd (Some left) = left ≡ []
IsAtEnd None = Unit {0}

-- nothing was written, if the bytes are known
abbrev pub IsBlank : Option (List ℕ) → Type 0
IsBlank (Some written) = written ≡ []
IsBlank None = Unit {0}

-- ---- calls

-- these bytes were read, `count` of them, and no read failed
pub record Receives (old : InputState) (bytes : List ℕ) (count : ℕ) (new : InputState) : Type 0 where
  pub left : Reads old.left bytes new.left
  pub taken : new.taken ≡ raised old.taken count
  pub failures : new.failures ≡ old.failures
  pub wait : new.wait ≡ old.wait

-- a read failed, and changed nothing else
abbrev pub after_failed_read : InputState → InputState
after_failed_read input_state = record input_state { failures = raised input_state.failures 1 }

-- these bytes were written, `count` of them, and no write failed
pub record Sends (old : OutputState) (bytes : List ℕ) (count : ℕ) (new : OutputState) : Type 0 where
  pub written : Writes old.written bytes new.written
  pub sent : new.sent ≡ raised old.sent count
  pub failures : new.failures ≡ old.failures
  pub wait : new.wait ≡ old.wait

-- a write failed, and changed nothing else
abbrev pub after_failed_write : OutputState → OutputState
after_failed_write output_state = record output_state { failures = raised output_state.failures 1 }

-- these bytes were written, `count` of them, and then a write failed
pub record SendsInPart (old : OutputState) (bytes : List ℕ) (count : ℕ) (new : OutputState) : Type 0 where
  pub before : OutputState
  pub output_state : Sends old bytes count before
  pub failed : new ≡ after_failed_write before

-- ---- connections

-- the streams of a new connection, each of whose calls may take that many nanoseconds
pub record AreFresh (wait : ℕ) (input_state : InputState) (output_state : OutputState) : Type 0 where
  pub nothing_read : input_state.taken ≡ 0
  pub no_failed_read : input_state.failures ≡ 0
  pub read_wait : input_state.wait ≡ Some wait
  pub nothing_written : IsBlank output_state.written
  pub nothing_sent : output_state.sent ≡ 0
  pub no_failed_write : output_state.failures ≡ 0
  pub write_wait : output_state.wait ≡ Some wait
