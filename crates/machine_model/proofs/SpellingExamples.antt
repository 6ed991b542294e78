-- The fields of each instruction, and the instructions that fields encode: the table of instructions as numbers.
use Rattle.std.proofs.Common.{◌≡◌, List, [], ◌∷◌, Option, Some, None, refl}
use Rattle.std.specs.Prelude.{map}
use Rattle.code_model.specs.Code.{row, spelling, reading}
use Rattle.code_model.specs.declared.code.Instr.{Instr}
use Rattle.code_model.specs.declared.code.Instruction.{Instruction}
use Rattle.code_model.specs.declared.code.Instruction.TheVariants as instruction

-- an instruction, its fields, and the same operation with other numbers in the fields that it does not use
record Row : Type 0 where
  instruction : Instruction
  spelled : Instr
  unused : Instr

abbrev spelled : Instruction → Instr → Instr → Row
spelled i fields others = record { instruction = i; spelled = fields; unused = others }

-- a is 1, b 2, c 3 and d 4
abbrev table : List Row
table =
    spelled instruction.Halt (row 1 0 0 0 0) (row 1 9 9 9 9)
    ∷ spelled instruction.Fail (row 2 0 0 0 0) (row 2 9 9 9 9)
    ∷ spelled (instruction.Jump 4) (row 3 0 0 0 4) (row 3 9 9 9 4)
    ∷ spelled (instruction.Text 1 2) (row 4 1 2 0 0) (row 4 1 2 9 9)
    ∷ spelled (instruction.List 1 2) (row 5 1 2 0 0) (row 5 1 2 9 9)
    ∷ spelled (instruction.Const 1 2) (row 6 1 2 0 0) (row 6 1 2 9 9)
    ∷ spelled (instruction.Number 1 2 4) (row 7 1 2 0 4) (row 7 1 2 9 4)
    ∷ spelled (instruction.Undef 1 4) (row 8 1 0 0 4) (row 8 1 9 9 4)
    ∷ spelled (instruction.Empty 1 4) (row 9 1 0 0 4) (row 9 1 9 9 4)
    ∷ spelled (instruction.NoList 1 4) (row 10 1 0 0 4) (row 10 1 9 9 4)
    ∷ spelled (instruction.Differ 1 2 4) (row 11 1 2 0 4) (row 11 1 2 9 4)
    ∷ spelled (instruction.Less 1 2 4) (row 12 1 2 0 4) (row 12 1 2 9 4)
    ∷ spelled (instruction.Emit 2) (row 13 0 2 0 0) (row 13 9 2 9 9)
    ∷ spelled (instruction.Put 1 3) (row 14 1 0 3 0) (row 14 1 9 3 9)
    ∷ spelled (instruction.Cut 1 2 3) (row 15 1 2 3 0) (row 15 1 2 3 9)
    ∷ spelled (instruction.Each 1 2 4) (row 16 1 2 0 4) (row 16 1 2 9 4)
    ∷ spelled (instruction.Sep 2) (row 17 0 2 0 0) (row 17 9 2 9 9)
    ∷ spelled instruction.Next (row 18 0 0 0 0) (row 18 9 9 9 9)
    ∷ []

-- the operation that only version 2 has
abbrev counting : Row
counting = spelled (instruction.Count 1 2) (row 19 1 2 0 0) (row 19 1 2 9 9)

abbrev read : List Row → List (Option Instruction)
read rows = map (λ x. Some x.instruction) rows

table_spelled : map (λ x. spelling x.instruction) (counting ∷ table) ≡ map (λ x. x.spelled) (counting ∷ table)
table_spelled = refl

table_read : map (λ x. reading 1 x.spelled) table ≡ read table
unfolding reading
table_read = refl

table_read_of_second : map (λ x. reading 2 x.spelled) (counting ∷ table) ≡ read (counting ∷ table)
unfolding reading
table_read_of_second = refl

-- reading depends only on the fields that the operation uses
unused_read : map (λ x. reading 2 x.unused) (counting ∷ table) ≡ read (counting ∷ table)
unfolding reading
unused_read = refl

-- no other number is an operation
unknown_read : map (λ op. reading 1 (row op 0 0 0 0)) (0 ∷ 19 ∷ 255 ∷ []) ≡ None ∷ None ∷ None ∷ []
unfolding reading
unknown_read = refl

unknown_read_of_second : map (λ op. reading 2 (row op 0 0 0 0)) (0 ∷ 20 ∷ 255 ∷ []) ≡ None ∷ None ∷ None ∷ []
unfolding reading
unknown_read_of_second = refl
