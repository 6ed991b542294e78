-- Where no step is possible.

use Rattle.std.proofs.Common.{◌≡◌, List, [], ◌∷◌, refl, ap, arith}
use Rattle.std.specs.Prelude.{codes, map}
use Rattle.text_model.specs.Texts.{is_unreserved}
use Rattle.text_model.specs.Writing.{written_u}
use Rattle.text_model.specs.Cut.{code_points}
use Rattle.text_model.specs.Number.{leading_number}
use Rattle.code_model.specs.Code.{row, reading}
use Rattle.environment_model.specs.Environment.{look_up}
use Rattle.code_model.specs.declared.code.Instruction.TheVariants as instruction
use Rattle.machine_model.specs.Operands.{has_right_operands}
use Rattle.machine_model.specs.States.{Link, NoLink, Running, Ended, start, printing}
use Rattle.machine_model.specs.Runs as outcome
use Rattle.machine_model.specs.Next.{Course, course, course_from, course_of}
use Rattle.machine_model.specs.Safe.{output_of}
use Rattle.machine_model.proofs.Listings.{list_code, sample, with_fields, with_instruction, colours}
use Rattle.machine_model.proofs.RunExamples.{Case, case, computed, expected, given, linked}

abbrev missing_values : List Case
missing_values =
    given (instruction.Put 0 0 ∷ instruction.Halt ∷ []) 0 (outcome.Stuck 0)
    ∷ given (instruction.Undef 0 1 ∷ instruction.Halt ∷ []) 0 (outcome.Stuck 0)
    ∷ given (instruction.List 0 0 ∷ instruction.Undef 0 2 ∷ instruction.Halt ∷ []) 1 (outcome.Stuck 1)
    ∷ given (instruction.Text 0 1 ∷ instruction.Empty 0 2 ∷ instruction.Halt ∷ []) 1 (outcome.Stuck 1)
    ∷ given (instruction.Text 0 1 ∷ instruction.NoList 0 2 ∷ instruction.Halt ∷ []) 1 (outcome.Stuck 1)
    ∷ given (instruction.Text 0 1 ∷ instruction.Number 1 0 2 ∷ instruction.Halt ∷ []) 1 (outcome.Stuck 1)
    ∷ given (instruction.Const 0 1 ∷ instruction.Differ 0 1 2 ∷ instruction.Halt ∷ []) 1 (outcome.Stuck 1)
    ∷ given (instruction.Const 1 1 ∷ instruction.Differ 0 1 2 ∷ instruction.Halt ∷ []) 1 (outcome.Stuck 1)
    ∷ given (instruction.Const 0 1 ∷ instruction.Less 0 0 2 ∷ instruction.Halt ∷ []) 1 (outcome.Stuck 1)
    ∷ given (instruction.Text 0 1 ∷ instruction.Cut 0 1 0 ∷ instruction.Halt ∷ []) 1 (outcome.Stuck 1)
    ∷ given (instruction.Const 0 1 ∷ instruction.Each 1 0 3 ∷ instruction.Next ∷ instruction.Halt ∷ []) 1 (outcome.Stuck 1)
    ∷ []

missing_values_hold : computed missing_values ≡ expected missing_values
unfolding course_from reading has_right_operands look_up is_unreserved written_u leading_number
missing_values_hold = refl

abbrev loops : List Case
loops =
    -- EACH, its place + 1 and the length of the code
    given (instruction.List 0 0 ∷ instruction.Each 1 0 2 ∷ instruction.Halt ∷ []) 1 (outcome.Stuck 1)
    ∷ case (sample (instruction.List 0 0 ∷ instruction.Each 1 0 2 ∷ instruction.Halt ∷ [])) [] 1 (outcome.Stuck 1)
    ∷ given (instruction.List 0 0 ∷ instruction.Each 1 0 9 ∷ instruction.Put 1 0 ∷ instruction.Halt ∷ []) 4 (linked (codes "red"))
    ∷ case (sample (instruction.List 0 0 ∷ instruction.Each 1 0 9 ∷ instruction.Put 1 0 ∷ instruction.Halt ∷ [])) [] 1 (outcome.Stuck 1)
    ∷ case (sample (instruction.List 0 0 ∷ instruction.Each 1 0 3 ∷ instruction.Next ∷ instruction.Put 1 0 ∷ instruction.Halt ∷ [])) [] 2 (outcome.Stuck 3)
    -- a loop in a running loop, a SEP without one, a NEXT without one or before its last place
    ∷ given (instruction.List 0 0 ∷ instruction.Each 1 0 4 ∷ instruction.Each 2 0 4 ∷ instruction.Next ∷ instruction.Halt ∷ []) 2 (outcome.Stuck 2)
    ∷ given (instruction.Sep 0 ∷ instruction.Halt ∷ []) 0 (outcome.Stuck 0)
    ∷ given (instruction.Next ∷ instruction.Halt ∷ []) 0 (outcome.Stuck 0)
    ∷ given (instruction.List 0 0 ∷ instruction.Each 1 0 4 ∷ instruction.Next ∷ instruction.Next ∷ instruction.Halt ∷ []) 2 (outcome.Stuck 2)
    -- the body ends before the place of the step
    ∷ given (instruction.List 0 0 ∷ instruction.Each 1 0 4 ∷ instruction.Jump 4 ∷ instruction.Next ∷ instruction.Halt ∷ []) 2 (outcome.Stuck 2)
    ∷ given (instruction.List 0 0 ∷ instruction.Each 1 0 3 ∷ instruction.Emit 0 ∷ instruction.Halt ∷ []) 2 (outcome.Stuck 2)
    -- a jump inside the body; one into a body finds no loop there; a loop after a loop
    ∷ case (with_instruction 2 (instruction.Jump 4) list_code) colours 9 (linked [])
    ∷ case (with_instruction 0 (instruction.Jump 4) list_code) colours 1 (outcome.Stuck 4)
    ∷ given (instruction.List 0 0 ∷ instruction.Each 1 0 3 ∷ instruction.Next ∷ instruction.Each 2 0 6 ∷ instruction.Sep
    0 ∷ instruction.Next ∷ instruction.Halt ∷ []) 13 (linked (codes "//"))
    -- the target of a jump that is not taken does not matter
    ∷ given (instruction.Const 0 1 ∷ instruction.Empty 0 0 ∷ instruction.Halt ∷ []) 3 (linked [])
    ∷ given (instruction.Const 0 1 ∷ instruction.Empty 0 99 ∷ instruction.Halt ∷ []) 3 (linked [])
    -- HALT may be in a body, and NEXT at the last place of the code
    ∷ given (instruction.List 0 0 ∷ instruction.Each 1 0 4 ∷ instruction.Halt ∷ instruction.Next ∷ []) 3 (linked [])
    ∷ given (instruction.List 0 0 ∷ instruction.Each 1 0 3 ∷ instruction.Next ∷ []) 4 (outcome.Stuck 2)
    ∷ []

loops_hold : computed loops ≡ expected loops
unfolding course_from reading has_right_operands look_up is_unreserved written_u leading_number
loops_hold = refl

abbrev operands : List Case
operands =
    -- no such register, no such entry, an entry of the other kind
    given (instruction.Const 16 1 ∷ instruction.Halt ∷ []) 0 (outcome.Stuck 0)
    ∷ given (instruction.Const 0 7 ∷ instruction.Halt ∷ []) 0 (outcome.Stuck 0)
    ∷ given (instruction.Text 0 2 ∷ instruction.Halt ∷ []) 0 (outcome.Stuck 0)
    ∷ given (instruction.Text 0 0 ∷ instruction.Halt ∷ []) 0 (outcome.Stuck 0)
    ∷ given (instruction.List 0 1 ∷ instruction.Halt ∷ []) 0 (outcome.Stuck 0)
    ∷ given (instruction.Const 0 0 ∷ instruction.Halt ∷ []) 0 (outcome.Stuck 0)
    ∷ given (instruction.Emit 1 ∷ instruction.Halt ∷ []) 0 (outcome.Stuck 0)
    ∷ given (instruction.Emit 7 ∷ instruction.Halt ∷ []) 0 (outcome.Stuck 0)
    ∷ given (instruction.List 0 0 ∷ instruction.Each 1 0 4 ∷ instruction.Sep 1 ∷ instruction.Next ∷ instruction.Halt ∷ []) 2 (outcome.Stuck 2)
    ∷ []

operands_hold : computed operands ≡ expected operands
unfolding course_from reading has_right_operands look_up is_unreserved written_u leading_number
operands_hold = refl

abbrev fields : List Case
fields =
    -- a mode above 1, a count of 0 or 10,000, an unknown operation, an unused field that is not 0
    given (instruction.Const 0 1 ∷ instruction.Put 0 2 ∷ instruction.Halt ∷ []) 1 (outcome.Stuck 1)
    ∷ given (instruction.Const 0 1 ∷ instruction.Cut 0 0 0 ∷ instruction.Halt ∷ []) 1 (outcome.Stuck 1)
    ∷ given (instruction.Const 0 1 ∷ instruction.Cut 0 10000 0 ∷ instruction.Halt ∷ []) 1 (outcome.Stuck 1)
    ∷ given (instruction.Const 0 1 ∷ instruction.Cut 0 9999 0 ∷ instruction.Halt ∷ []) 3 (linked (codes "12"))
    ∷ case (with_fields 0 (row 19 0 0 0 0) list_code) colours 0 (outcome.Stuck 0)
    ∷ case (with_fields 0 (row 0 0 0 0 0) list_code) colours 0 (outcome.Stuck 0)
    ∷ case (with_fields 0 (row 1 1 0 0 0) list_code) colours 0 (outcome.Stuck 0)
    ∷ case (with_fields 0 (row 1 0 1 0 0) list_code) colours 0 (outcome.Stuck 0)
    ∷ case (with_fields 0 (row 1 0 0 1 0) list_code) colours 0 (outcome.Stuck 0)
    ∷ case (with_fields 0 (row 1 0 0 0 1) list_code) colours 0 (outcome.Stuck 0)
    ∷ []

fields_hold : computed fields ≡ expected fields
unfolding course_from reading has_right_operands look_up is_unreserved written_u code_points
fields_hold = refl

-- ---- outputs

outputs : map output_of (Ended (Link (codes "a")) ∷ Ended NoLink ∷ Running (printing (codes "b") start) ∷ []) ≡ codes "a" ∷ [] ∷ codes "b" ∷ []
outputs = refl

-- ---- what must not hold

-- no member is lost
not_early : course_of list_code colours ≡ course 9 (linked (codes "red,green")) → ⊥
unfolding course_from reading has_right_operands look_up is_unreserved written_u
not_early e = let steps : 12 ≡ 9 = ap (λ (x : Course). x.steps) e in absurd (omega (arith, steps))
