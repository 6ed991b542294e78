-- The errors of form of small codes.
use Rattle.std.proofs.Common.{◌≡◌, ℕ, List, [], ◌∷◌, Option, Some, None, refl}
use Rattle.std.specs.Prelude.{map}
use Rattle.code_model.specs.Code.{Code, row, reading, upgraded}
use Rattle.code_model.specs.declared.code.Instruction.{Instruction}
use Rattle.code_model.specs.declared.code.Instruction.TheVariants as instruction
use Rattle.machine_model.specs.declared.form.Body.{Body}
use Rattle.machine_model.specs.declared.form.FormFault.{FormFault}
use Rattle.machine_model.specs.declared.form.FormFault.TheVariants as fault
use Rattle.machine_model.specs.First.{Located, first_below}
use Rattle.machine_model.specs.Form.{body_at, fault_at, first_form_fault}
use Rattle.machine_model.proofs.Listings.{list_code, issn_code, x_code, sample, second, with_fields, with_instruction}

-- a code, and its first error
record Case : Type 0 where
  code : Code
  first : Option (Located FormFault)

abbrev faulty : Code → ℕ → FormFault → Case
faulty c p f = record { code = c; first = Some (record { place = p; what = f }) }

abbrev good : Code → Case
good c = record { code = c; first = None }

abbrev computed : List Case → List (Option (Located FormFault))
computed cases = map (λ x. first_form_fault x.code) cases

abbrev expected : List Case → List (Option (Located FormFault))
expected cases = map (λ x. x.first) cases

abbrev changed_lists : List Case
changed_lists =
    good list_code
    ∷ good issn_code
    ∷ good x_code
    ∷ faulty (with_instruction 0 (instruction.Jump 3) list_code) 0 fault.CrossesLoop
    ∷ faulty (with_instruction 0 (instruction.Jump 0) list_code) 0 fault.JumpNotForward
    ∷ faulty (with_instruction 0 (instruction.Jump 6) list_code) 0 fault.JumpOut
    ∷ faulty (with_instruction 5 (instruction.Emit 0) list_code) 5 fault.FallsOff
    ∷ faulty (with_fields 2 (row 19 0 0 0 0) list_code) 2 fault.UnknownOp
    ∷ faulty (with_fields 4 (row 18 1 0 0 0) list_code) 4 fault.BadField
    ∷ faulty (with_instruction 0 (instruction.List 16 0) list_code) 0 fault.BadRegister
    ∷ faulty (with_instruction 0 (instruction.List 0 1) list_code) 0 fault.BadIndex
    ∷ faulty (with_instruction 0 (instruction.Text 0 0) list_code) 0 fault.WrongTableKind
    ∷ faulty (with_instruction 0 (instruction.Sep 0) list_code) 0 fault.StraySep
    ∷ faulty (with_instruction 1 (instruction.Each 1 0 4) list_code) 1 fault.BadLoop
    ∷ faulty (with_instruction 2 (instruction.Each 2 0 5) list_code) 2 fault.NestedLoop
    ∷ faulty (with_instruction 5 instruction.Next list_code) 5 fault.StrayNext
    ∷ []

changed_lists_hold : computed changed_lists ≡ expected changed_lists
unfolding first_below fault_at body_at reading
changed_lists_hold = refl

-- ---- fields

abbrev fields : List Case
fields =
    good (sample (instruction.Const 15 1 ∷ instruction.Cut 15 9999 1 ∷ instruction.Halt ∷ []))
    ∷ faulty (sample (instruction.Put 0 2 ∷ instruction.Halt ∷ [])) 0 fault.BadField
    ∷ faulty (sample (instruction.Cut 0 0 0 ∷ instruction.Halt ∷ [])) 0 fault.BadField
    ∷ faulty (sample (instruction.Cut 0 10000 0 ∷ instruction.Halt ∷ [])) 0 fault.BadField
    ∷ faulty (sample (instruction.Cut 0 1 2 ∷ instruction.Halt ∷ [])) 0 fault.BadField
    ∷ faulty (sample (instruction.Differ 0 16 2 ∷ instruction.Halt ∷ instruction.Halt ∷ [])) 0 fault.BadRegister
    ∷ faulty (sample (instruction.Text 0 2 ∷ instruction.Halt ∷ [])) 0 fault.BadIndex
    ∷ faulty (sample (instruction.Const 0 7 ∷ instruction.Halt ∷ [])) 0 fault.BadIndex
    ∷ faulty (sample (instruction.Emit 7 ∷ instruction.Halt ∷ [])) 0 fault.BadIndex
    ∷ faulty (sample (instruction.List 0 1 ∷ instruction.Halt ∷ [])) 0 fault.WrongTableKind
    ∷ faulty (sample (instruction.Const 0 0 ∷ instruction.Halt ∷ [])) 0 fault.WrongTableKind
    ∷ faulty (sample (instruction.Emit 1 ∷ instruction.Halt ∷ [])) 0 fault.WrongTableKind
    -- the earlier of two checks that fail, and the earlier place
    ∷ faulty (with_fields 0 (row 5 16 0 1 0) list_code) 0 fault.BadField
    ∷ faulty (with_instruction 0 (instruction.List 16 1) list_code) 0 fault.BadRegister
    ∷ faulty (with_instruction 0 (instruction.List 16 1) (with_instruction 5 (instruction.Emit 0) list_code)) 0 fault.BadRegister
    ∷ []

fields_hold : computed fields ≡ expected fields
unfolding first_below fault_at body_at reading
fields_hold = refl

-- ---- registers: each that an instruction names

abbrev past_registers : List Instruction
past_registers =
    instruction.Text 16 1
    ∷ instruction.List 16 0
    ∷ instruction.Const 16 1
    ∷ instruction.Number 16 0 1
    ∷ instruction.Number 0 16 1
    ∷ instruction.Undef 16 1
    ∷ instruction.Empty 16 1
    ∷ instruction.NoList 16 1
    ∷ instruction.Differ 16 0 1
    ∷ instruction.Differ 0 16 1
    ∷ instruction.Less 16 0 1
    ∷ instruction.Less 0 16 1
    ∷ instruction.Put 16 0
    ∷ instruction.Cut 16 1 0
    ∷ instruction.Each 16 0 1
    ∷ instruction.Each 0 16 1
    ∷ []

past_registers_hold : map (λ i. first_form_fault (sample (i ∷ instruction.Halt ∷ []))) past_registers ≡
    map (λ i. Some (record { place = 0; what = fault.BadRegister })) past_registers
unfolding first_below fault_at body_at reading
past_registers_hold = refl

-- ---- the second version: one more operation, and 64 registers

abbrev second_version : List Case
second_version =
    good (upgraded list_code)
    ∷ good (second (instruction.Const 63 1 ∷ instruction.Cut 63 9999 1 ∷ instruction.Halt ∷ []))
    ∷ good (second (instruction.List 0 0 ∷ instruction.Count 63 0 ∷ instruction.Halt ∷ []))
    ∷ faulty (sample (instruction.List 0 0 ∷ instruction.Count 1 0 ∷ instruction.Halt ∷ [])) 1 fault.UnknownOp
    ∷ faulty (with_fields 0 (row 20 0 0 0 0) (upgraded list_code)) 0 fault.UnknownOp
    ∷ faulty (with_fields 0 (row 19 1 0 1 0) (upgraded list_code)) 0 fault.BadField
    ∷ faulty (with_fields 0 (row 19 1 0 0 1) (upgraded list_code)) 0 fault.BadField
    ∷ faulty (upgraded (with_instruction 0 (instruction.List 64 0) list_code)) 0 fault.BadRegister
    ∷ faulty (second (instruction.Count 64 0 ∷ instruction.Halt ∷ [])) 0 fault.BadRegister
    ∷ faulty (second (instruction.Count 0 64 ∷ instruction.Halt ∷ [])) 0 fault.BadRegister
    ∷ faulty (second (instruction.Count 0 0 ∷ [])) 0 fault.FallsOff
    ∷ []

second_version_holds : computed second_version ≡ expected second_version
unfolding first_below fault_at body_at reading
second_version_holds = refl

-- instructions that version 1 rejects for their registers, and version 2 accepts
past_registers_kept : map (λ i. fault_at (second (i ∷ instruction.Halt ∷ [])) 0) past_registers ≡
    None
    ∷ None
    ∷ None
    ∷ None
    ∷ None
    ∷ None
    ∷ None
    ∷ None
    ∷ None
    ∷ None
    ∷ None
    ∷ None
    ∷ None
    ∷ None
    ∷ Some fault.BadLoop
    ∷ Some fault.BadLoop
    ∷ []
unfolding first_below fault_at body_at reading
past_registers_kept = refl

-- ---- jumps and loops

abbrev jumps : List Case
jumps =
    -- within a body, over a body, into it, out of it to the place after it
    good (with_instruction 2 (instruction.Jump 4) list_code)
    ∷ good (sample (instruction.List 0 0 ∷ instruction.NoList 0 4 ∷ instruction.Each 1 0 4 ∷ instruction.Next ∷ instruction.Halt ∷ []))
    ∷ faulty (sample (instruction.List 0 0 ∷ instruction.NoList 0 3 ∷ instruction.Each 1 0 4 ∷ instruction.Next ∷ instruction.Halt ∷ [])) 1 fault.CrossesLoop
    ∷ faulty (with_instruction 2 (instruction.Jump 5) list_code) 2 fault.CrossesLoop
    -- from one body into another
    ∷ faulty (sample (instruction.List 0 0 ∷ instruction.Each 1 0 4 ∷ instruction.Jump 6 ∷ instruction.Next ∷ instruction.Each 1 0 7 ∷ instruction.Sep
    0 ∷ instruction.Next ∷ instruction.Halt ∷ [])) 2 fault.CrossesLoop
    ∷ faulty (with_instruction 2 (instruction.Jump 9) list_code) 2 fault.JumpOut
    ∷ faulty (with_instruction 2 (instruction.Each 2 0 4) list_code) 2 fault.NestedLoop
    ∷ faulty (with_instruction 1 (instruction.Each 1 0 6) list_code) 1 fault.JumpOut
    ∷ faulty (with_instruction 1 (instruction.Each 1 0 1) list_code) 1 fault.JumpNotForward
    ∷ faulty (with_instruction 1 (instruction.Each 1 0 2) list_code) 1 fault.BadLoop
    ∷ faulty (with_instruction 1 instruction.Next list_code) 1 fault.StrayNext
    ∷ faulty (with_instruction 3 instruction.Next list_code) 3 fault.StrayNext
    ∷ faulty (with_instruction 5 (instruction.Sep 0) list_code) 5 fault.StraySep
    ∷ faulty (with_instruction 3 (instruction.Put 2 0) x_code) 3 fault.FallsOff
    ∷ good (with_instruction 5 instruction.Fail list_code)
    ∷ good (with_instruction 3 instruction.Halt list_code)
    -- each instruction that jumps
    ∷ faulty (sample (instruction.Number 0 0 0 ∷ instruction.Halt ∷ [])) 0 fault.JumpNotForward
    ∷ faulty (sample (instruction.Undef 0 0 ∷ instruction.Halt ∷ [])) 0 fault.JumpNotForward
    ∷ faulty (sample (instruction.Empty 0 0 ∷ instruction.Halt ∷ [])) 0 fault.JumpNotForward
    ∷ faulty (sample (instruction.NoList 0 0 ∷ instruction.Halt ∷ [])) 0 fault.JumpNotForward
    ∷ faulty (sample (instruction.Differ 0 0 0 ∷ instruction.Halt ∷ [])) 0 fault.JumpNotForward
    ∷ faulty (sample (instruction.Less 0 0 0 ∷ instruction.Halt ∷ [])) 0 fault.JumpNotForward
    ∷ []

jumps_hold : computed jumps ≡ expected jumps
unfolding first_below fault_at body_at reading
jumps_hold = refl

-- ---- bodies

-- a body is from after EACH to before its end
abbrev list_body : Body
list_body = record { start = 2; end = 5; element = 1 }

bodies : map (body_at list_code) (0 ∷ 1 ∷ 2 ∷ 3 ∷ 4 ∷ 5 ∷ 6 ∷ []) ≡ None ∷ None ∷ Some list_body ∷ Some list_body ∷ Some list_body ∷ None ∷ None ∷ []
unfolding body_at reading
bodies = refl

-- bodies depend only on the operations: EACH and NEXT may have other errors
unread_each : fault_at (with_fields 1 (row 16 1 0 7 5) list_code) 2 ≡ None
unfolding fault_at body_at reading
unread_each = refl

unread_next : fault_at (with_fields 4 (row 18 7 0 0 0) list_code) 2 ≡ None
unfolding fault_at body_at reading
unread_next = refl

-- an EACH in a body does not begin another, even if a NEXT is before its end: that NEXT ends no body
abbrev nested : Code
nested = sample (instruction.List 0 0 ∷ instruction.Each 1 0 6 ∷ instruction.Each 2 0 5 ∷ instruction.Put 1
    0 ∷ instruction.Next ∷ instruction.Next ∷ instruction.Halt ∷ [])

nested_faults : map (fault_at nested) (0 ∷ 1 ∷ 2 ∷ 3 ∷ 4 ∷ 5 ∷ 6 ∷ []) ≡ None ∷ None ∷ Some fault.NestedLoop ∷ None ∷ Some fault.StrayNext ∷ None ∷ None ∷ []
unfolding fault_at body_at reading
nested_faults = refl

nested_bodies : map (body_at nested) (3 ∷ 5 ∷ 6 ∷ []) ≡ Some (record { start = 2; end = 6; element = 1 }) ∷ Some
    (record { start = 2; end = 6; element = 1 }) ∷ None ∷ []
unfolding body_at reading
nested_bodies = refl
