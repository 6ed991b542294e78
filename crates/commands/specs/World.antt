-- What the implementers of the traits over files, keys and ports say about their calls, as one record.
use Rattle.std.specs.Prelude.{ℕ, Option}
use Rattle.text_model.specs.Texts.{Text}
use Rattle.files.specs.Found.{Disk}
use Rattle.files.specs.Modes.{Modes}
use Rattle.files.specs.declared.call.FileCall.{FileCall}
use Rattle.http_streams.specs.Streams.{InputState, OutputState}

pub record Told (System : Type 0) : Type 1 where
  -- files: what is at each path, the mode of the file there, and between which states a call at a path failed or ran out of memory
  pub FileState : Type 0
  pub files : System → FileState
  pub at : FileState → Disk
  pub mode_at : FileState → Modes
  pub fails : FileState → FileCall → Text → FileState → Type 0
  pub runs_out : FileState → FileCall → Text → FileState → Type 0
  -- keys: between which states two numbers were drawn, or none could be drawn
  pub KeyState : Type 0
  pub keys : System → KeyState
  pub draws : KeyState → ℕ → ℕ → KeyState → Type 0
  pub no_keys : KeyState → KeyState → Type 0
  -- ports, the listeners that are bound to them, and the streams of their connections
  pub PortState : Type 0
  pub ports : System → PortState
  pub Listener : Type 0
  pub In : Type 0
  pub Out : Type 0
  pub binds : PortState → ℕ → Listener × ℕ → PortState → Type 0
  pub no_port : PortState → ℕ → PortState → Type 0
  pub gives : Listener → Option (In × Out) → Listener → Type 0
  pub closes : Listener → In × Out → Listener → Type 0
  pub no_more : Listener → Listener → Type 0
  pub input_state : In → InputState
  pub output_state : Out → OutputState
