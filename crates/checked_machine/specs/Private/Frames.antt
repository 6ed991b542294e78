-- The states and moves of the machine that the program's frames and moves denote.
use Rattle.std.specs.Prelude.{ℕ, Option, Some, None, option_map, slice_index_or, string_bytes}
use Rattle.machine_model.specs.Values as value
use Rattle.machine_model.specs.States as state
use Rattle.machine_model.specs.Step as step
use Rattle.checked_machine.specs.declared.value.Value.TheVariants.{Nothing}
use Rattle.checked_machine.specs.declared.registers.Registers.{Registers}
use Rattle.checked_machine.specs.declared.frame.Loop.{Loop}
use Rattle.checked_machine.specs.declared.frame.Frame.{Frame}
use Rattle.checked_machine.specs.declared.frame.Move.{Move}
use Rattle.checked_machine.specs.declared.frame.Move.TheVariants as move
use Rattle.checked_machine.specs.declared.step.Stepped.{Stepped}
use Rattle.checked_machine.specs.declared.step.Stepped.TheVariants as after
use Rattle.target_vars.specs.Members.{members_left}
use Rattle.checked_machine.specs.Private.Values.{value_of}

abbrev pub registers_of : Registers → ℕ → value.Value
registers_of held r = value_of (slice_index_or held.values r Nothing)

abbrev pub loop_of : Loop → state.Loop
loop_of l = record { start = l.start; end = l.end; element = l.element.number; left = members_left l.left; first = l.first }

abbrev pub frame_of : Frame → state.Frame
frame_of s = record { place = s.place; registers = registers_of s.registers; loop = option_map loop_of s.running; output = string_bytes s.output }

-- the machine's move that a move of the program denotes, with the frame after it
abbrev pub move_in : state.Frame → Move → step.Move
move_in s move.Link = step.Ends (state.Link s.output)
move_in s move.NoLink = step.Ends state.NoLink
move_in s (move.MovesTo d) = step.MovesTo (state.at d s)
move_in s (move.Returns d) = step.Returns (state.at d s)

abbrev pub moves : state.Frame → Option Move → Option step.Move
moves s m = option_map (move_in s) m

-- the state after a step, if this is the program's frame after it
abbrev pub stepped : Frame → Stepped → Option state.State
stepped s after.Onward = Some (state.Running (frame_of s))
stepped s after.Link = Some (state.Ended (state.Link (string_bytes s.output)))
stepped s after.NoLink = Some (state.Ended state.NoLink)
stepped s (after.Stuck place) = None
