-- The order of the checks of form: if two fail at a place, the earlier one is its error.
use Rattle.std.proofs.Common.{◌≡◌, ℕ, List, [], ◌∷◌, Option, Some, refl}
use Rattle.std.specs.Prelude.{map}
use Rattle.code_model.specs.Code.{row, reading}
use Rattle.code_model.specs.declared.code.Instr.{Instr}
use Rattle.code_model.specs.declared.code.Instruction.TheVariants as instruction
use Rattle.machine_model.specs.declared.form.FormFault.{FormFault}
use Rattle.machine_model.specs.declared.form.FormFault.TheVariants as fault
use Rattle.machine_model.specs.First.{Located, first_below}
use Rattle.machine_model.specs.Form.{body_at, fault_at, first_form_fault}
use Rattle.machine_model.proofs.Listings.{list_code, sample, with_fields}

-- the list code with other fields at a place; its EACH is at 1, its body is 2 to 4, and its last place 5
record Case : Type 0 where
  place : ℕ
  fields : Instr
  fault : FormFault

abbrev case : ℕ → Instr → FormFault → Case
case p fields f = record { place = p; fields = fields; fault = f }

abbrev first : Case → Option (Located FormFault)
first x = first_form_fault (with_fields x.place x.fields list_code)

abbrev expected : Case → Option (Located FormFault)
expected x = Some (record { place = x.place; what = x.fault })

-- a field is wrong, and also a register, an index, an entry's kind, each check of jumps and loops, the end
abbrev fields_first : List Case
fields_first =
    case 5 (row 19 16 9 9 0) fault.UnknownOp
    ∷ case 0 (row 5 16 0 1 0) fault.BadField
    ∷ case 0 (row 14 16 0 2 0) fault.BadField
    ∷ case 0 (row 15 16 0 0 0) fault.BadField
    ∷ case 0 (row 5 0 1 1 0) fault.BadField
    ∷ case 0 (row 4 0 0 1 0) fault.BadField
    ∷ case 0 (row 3 1 0 0 0) fault.BadField
    ∷ case 0 (row 3 1 0 0 6) fault.BadField
    ∷ case 0 (row 3 1 0 0 3) fault.BadField
    ∷ case 2 (row 16 2 0 1 5) fault.BadField
    ∷ case 1 (row 16 1 0 1 4) fault.BadField
    ∷ case 5 (row 18 1 0 0 0) fault.BadField
    ∷ case 0 (row 17 1 0 0 0) fault.BadField
    ∷ case 5 (row 13 1 0 0 0) fault.BadField
    ∷ []

-- a register is wrong, and also what comes later
abbrev registers_first : List Case
registers_first =
    case 0 (row 5 16 1 0 0) fault.BadRegister
    ∷ case 0 (row 4 16 0 0 0) fault.BadRegister
    ∷ case 0 (row 9 16 0 0 0) fault.BadRegister
    ∷ case 0 (row 9 16 0 0 6) fault.BadRegister
    ∷ case 0 (row 9 16 0 0 3) fault.BadRegister
    ∷ case 2 (row 16 2 16 0 5) fault.BadRegister
    ∷ case 1 (row 16 1 16 0 4) fault.BadRegister
    ∷ case 5 (row 14 16 0 0 0) fault.BadRegister
    ∷ []

-- an entry is wrong, and the SEP is in no body, or the last instruction does not end the run
abbrev entries_first : List Case
entries_first =
    case 0 (row 17 0 1 0 0) fault.BadIndex
    ∷ case 5 (row 13 0 1 0 0) fault.BadIndex
    ∷ case 5 (row 4 0 0 0 0) fault.WrongTableKind
    ∷ []

-- a jump goes back or out, and also crosses a body's end, begins a loop in a body or without a NEXT, or is last
abbrev jumps_first : List Case
jumps_first =
    case 3 (row 3 0 0 0 1) fault.JumpNotForward
    ∷ case 2 (row 16 2 0 0 1) fault.JumpNotForward
    ∷ case 1 (row 16 1 0 0 1) fault.JumpNotForward
    ∷ case 5 (row 3 0 0 0 0) fault.JumpNotForward
    ∷ case 2 (row 3 0 0 0 9) fault.JumpOut
    ∷ case 2 (row 16 2 0 0 9) fault.JumpOut
    ∷ case 1 (row 16 1 0 0 6) fault.JumpOut
    ∷ case 5 (row 3 0 0 0 6) fault.JumpOut
    ∷ []

-- a loop in a body has no NEXT; what ends no body, or is in none, is last
abbrev loops_first : List Case
loops_first =
    case 2 (row 16 2 0 0 4) fault.NestedLoop
    ∷ case 5 (row 18 0 0 0 0) fault.StrayNext
    ∷ case 5 (row 17 0 0 0 0) fault.StraySep
    ∷ []

fields_first_hold : map first fields_first ≡ map expected fields_first
unfolding first_below fault_at body_at reading
fields_first_hold = refl

registers_first_hold : map first registers_first ≡ map expected registers_first
unfolding first_below fault_at body_at reading
registers_first_hold = refl

entries_first_hold : map first entries_first ≡ map expected entries_first
unfolding first_below fault_at body_at reading
entries_first_hold = refl

jumps_first_hold : map first jumps_first ≡ map expected jumps_first
unfolding first_below fault_at body_at reading
jumps_first_hold = refl

loops_first_hold : map first loops_first ≡ map expected loops_first
unfolding first_below fault_at body_at reading
loops_first_hold = refl

-- a SEP outside of bodies, with a comparison text instead of a link text
wrong_separator : first_form_fault (sample (instruction.Sep 1 ∷ instruction.Halt ∷ [])) ≡ Some (record { place = 0; what = fault.WrongTableKind })
unfolding first_below fault_at body_at reading
wrong_separator = refl
