-- The values of texts and names in the machine, and which value each instruction accepts.
use Rattle.std.proofs.Common.{◌≡◌, List, [], ◌∷◌, Some, None, Bool, true, false, refl}
use Rattle.std.specs.Prelude.{codes, map, is_some}
use Rattle.text_model.specs.Texts.{is_unreserved}
use Rattle.text_model.specs.Writing.{written_u}
use Rattle.text_model.specs.Cut.{code_points}
use Rattle.text_model.specs.Number.{leading_number, value_from}
use Rattle.environment_model.specs.Environment.{Environment, Single, Several, look_up, text_of, members_of, member_count, byte_count}
use Rattle.code_model.specs.Code.{reading}
use Rattle.code_model.specs.declared.code.Instruction.{Instruction}
use Rattle.code_model.specs.declared.code.Instruction.TheVariants as instruction
use Rattle.machine_model.specs.Operands.{has_right_operands}
use Rattle.machine_model.specs.Values.{Value, Nothing, Undefined, Text as TextValue, List as ListValue, Number as NumberValue}
use Rattle.machine_model.specs.States.{Frame, Running, start, holding}
use Rattle.machine_model.specs.Next.{next_state}
use Rattle.machine_model.specs.Fitting.{kind_of}
use Rattle.machine_model.specs.declared.kind.Kind.TheVariants.{Any, OptText, Text as TextKind, List as ListKind, Number as NumberKind}
use Rattle.machine_model.proofs.Listings.{second, colours}

-- ---- leading numbers

numbers : map leading_number (codes "7" ∷ codes "12a" ∷ codes "007" ∷ codes "0" ∷ codes "123456789" ∷ codes "000000001" ∷ []) ≡
    Some 7 ∷ Some 12 ∷ Some 7 ∷ Some 0 ∷ Some 123456789 ∷ Some 1 ∷ []
unfolding leading_number value_from
numbers = refl

-- no digit at the beginning, as beside `0` and `9`, or more than nine of them
no_numbers : map leading_number ([] ∷ codes "a12" ∷ codes "-1" ∷ codes " 1" ∷ codes "/" ∷ codes ":" ∷ codes "1234567890" ∷ codes "0000000001" ∷ []) ≡
    None ∷ None ∷ None ∷ None ∷ None ∷ None ∷ None ∷ None ∷ []
unfolding leading_number value_from
no_numbers = refl

-- ---- names

-- a list, a text, and both names once more
abbrev variables : Environment
variables =
    record { name = codes "list"; meaning = Several (codes "red" ∷ codes "blue" ∷ []) }
    ∷ record { name = codes "x"; meaning = Single (codes "a") }
    ∷ record { name = codes "list"; meaning = Single (codes "late") }
    ∷ record { name = codes "x"; meaning = Several (codes "later" ∷ []) }
    ∷ []

-- the first entry of a name counts; a list has no text, and a text has no members
texts : map (text_of variables) (codes "x" ∷ codes "list" ∷ codes "X" ∷ []) ≡ Some (codes "a") ∷ None ∷ None ∷ []
unfolding look_up
texts = refl

members : map (members_of variables) (codes "list" ∷ codes "x" ∷ codes "lis" ∷ []) ≡ (codes "red" ∷ codes "blue" ∷ []) ∷ [] ∷ [] ∷ []
unfolding look_up
members = refl

-- M and E: members of all lists, and bytes of all texts and members, not of names
counts : map member_count (colours ∷ variables ∷ [] ∷ []) ≡ 3 ∷ 3 ∷ 0 ∷ []
counts = refl

bytes : map byte_count (colours ∷ variables ∷ [] ∷ []) ≡ 12 ∷ 17 ∷ 0 ∷ []
bytes = refl

-- ---- which values an instruction accepts

-- the least kind of each value
kinds : map kind_of (Nothing ∷ Undefined ∷ TextValue (codes "12") ∷ TextValue [] ∷ ListValue (codes "red" ∷ []) ∷ ListValue [] ∷ NumberValue 7 ∷ [])
    ≡ Any ∷ OptText ∷ TextKind ∷ TextKind ∷ ListKind ∷ ListKind ∷ NumberKind ∷ []
kinds = refl

-- at place 0, with a value in r0, a text in r1 and a number in r2
abbrev having : Value → Frame
having x = holding 0 x (holding 1 (TextValue (codes "12")) (holding 2 (NumberValue 7) start))

abbrev values : List Value
values = Nothing ∷ Undefined ∷ TextValue (codes "12") ∷ ListValue (codes "red" ∷ []) ∷ NumberValue 7 ∷ []

-- a step continues from the instruction
abbrev leads_on : Instruction → Value → Bool
leads_on i x = is_some (next_state (second (i ∷ instruction.Halt ∷ instruction.Halt ∷ [])) colours (Running (having x)))

record Row : Type 0 where
  instruction : Instruction
  takes : List Bool

abbrev taking : Instruction → List Bool → Row
taking i bs = record { instruction = i; takes = bs }

abbrev any_value : List Bool
any_value = true ∷ true ∷ true ∷ true ∷ true ∷ []

abbrev a_text_alone : List Bool
a_text_alone = false ∷ false ∷ true ∷ false ∷ false ∷ []

abbrev a_list_alone : List Bool
a_list_alone = false ∷ false ∷ false ∷ true ∷ false ∷ []

abbrev a_number_alone : List Bool
a_number_alone = false ∷ false ∷ false ∷ false ∷ true ∷ []

abbrev table : List Row
table =
    taking instruction.Halt any_value
    ∷ taking instruction.Fail any_value
    ∷ taking (instruction.Jump 2) any_value
    ∷ taking (instruction.Text 0 1) any_value
    ∷ taking (instruction.List 0 0) any_value
    ∷ taking (instruction.Const 0 1) any_value
    ∷ taking (instruction.Number 3 0 2) a_text_alone
    ∷ taking (instruction.Number 0 1 2) any_value
    ∷ taking (instruction.Undef 0 2) (false ∷ true ∷ true ∷ false ∷ false ∷ [])
    ∷ taking (instruction.Empty 0 2) a_text_alone
    ∷ taking (instruction.NoList 0 2) a_list_alone
    ∷ taking (instruction.Differ 0 1 2) a_text_alone
    ∷ taking (instruction.Differ 1 0 2) a_text_alone
    ∷ taking (instruction.Less 0 2 2) a_number_alone
    ∷ taking (instruction.Less 2 0 2) a_number_alone
    ∷ taking (instruction.Emit 0) any_value
    ∷ taking (instruction.Put 0 0) a_text_alone
    ∷ taking (instruction.Cut 0 1 0) a_text_alone
    ∷ taking (instruction.Each 3 0 2) a_list_alone
    ∷ taking (instruction.Count 3 0) a_list_alone
    ∷ []

table_takes : map (λ x. map (leads_on x.instruction) values) table ≡ map (λ x. x.takes) table
unfolding reading has_right_operands look_up is_unreserved written_u code_points leading_number value_from
table_takes = refl
