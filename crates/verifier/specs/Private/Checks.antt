-- The checks of form, in four parts.
use Rattle.std.specs.Prelude.{ℕ, ◌+◌, ◌-◌, List, [], ◌∷◌, Option, Some, ◌&&◌, ◌||◌, not, nat_lt, length, option_map}
use Rattle.std.specs.List.{list_all}
use Rattle.code_model.specs.Code.{Code, is_same_instr, spelling, reading_at}
use Rattle.code_model.specs.Operands.{operands, is_in_range}
use Rattle.code_model.specs.declared.code.Instr.{Instr}
use Rattle.code_model.specs.declared.code.Instruction.{Instruction}
use Rattle.machine_model.specs.declared.form.FormFault.TheVariants as fault
use Rattle.machine_model.specs.First.{Located}
use Rattle.machine_model.specs.Operands.{is_register, is_in_table, has_table_kind}
use Rattle.machine_model.specs.Form.{body_at, is_in_body, is_same_body, ends_body, target, goes_to, is_each, is_next, is_sep, ends_run, Check, check}

-- the checks of the fields
abbrev pub operand_checks : Code → Instr → Instruction → List Check
operand_checks c fields i =
    check (is_same_instr fields (spelling i) && list_all is_in_range (operands i)) fault.BadField
    ∷ check (list_all (is_register c) (operands i)) fault.BadRegister
    ∷ check (list_all (is_in_table c) (operands i)) fault.BadIndex
    ∷ check (list_all (has_table_kind c) (operands i)) fault.WrongTableKind
    ∷ []

-- the checks of a jump
abbrev pub jump_checks : Code → ℕ → Instruction → List Check
jump_checks c place i =
    check (goes_to (λ d. nat_lt place d) (target i)) fault.JumpNotForward
    ∷ check (goes_to (λ d. nat_lt d (length c.instrs)) (target i)) fault.JumpOut
    ∷ check (is_each i || goes_to (λ d. is_same_body (body_at c place) (body_at c d)) (target i)) fault.CrossesLoop
    ∷ []

-- the checks of an EACH
abbrev pub each_checks : Code → ℕ → Instruction → List Check
each_checks c place i =
    check (not (is_each i && is_in_body (body_at c place))) fault.NestedLoop
    ∷ check (not (is_each i) || goes_to (λ d. is_next (reading_at c (d - 1))) (target i)) fault.BadLoop
    ∷ []

-- the checks of the position of an instruction
abbrev pub order_checks : Code → ℕ → Instruction → List Check
order_checks c place i =
    check (not (is_next (Some i)) || ends_body place (body_at c place)) fault.StrayNext
    ∷ check (not (is_sep i) || is_in_body (body_at c place)) fault.StraySep
    ∷ check (nat_lt (place + 1) (length c.instrs) || ends_run i) fault.FallsOff
    ∷ []

-- a place, and what is found there
abbrev pub located_of : {X : Type 0} → Option (X × ℕ) → Option (Located X)
located_of found = option_map (λ f. record { place = f.1; what = f.0 }) found
