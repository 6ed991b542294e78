-- The operands of each instruction, and instructions as fields.
use Rattle.std.proofs.Common.{◌≡◌, ℕ, List, [], ◌∷◌, Some, None, true, false, refl, codes}
use Rattle.std.specs.Prelude.{map}
use Rattle.code_model.specs.Code.{Code, row, is_same_instr, reading, reading_at, upgraded}
use Rattle.code_model.specs.Operands.{Operand, Register, TextName, ListName, LinkText, Compared, Items, Mode, operands, is_in_range}
use Rattle.code_model.specs.declared.code.Instruction.{Instruction}
use Rattle.code_model.specs.declared.code.Instruction.TheVariants as instruction

-- ---- operands

record Row : Type 0 where
  instruction : Instruction
  operands : List Operand

abbrev having : Instruction → List Operand → Row
having i os = record { instruction = i; operands = os }

-- a is 1, b 2, c 3 and d 4; the place of a jump is not an operand
abbrev table : List Row
table =
    having instruction.Halt []
    ∷ having instruction.Fail []
    ∷ having (instruction.Jump 4) []
    ∷ having (instruction.Text 1 2) (Register 1 ∷ TextName 2 ∷ [])
    ∷ having (instruction.List 1 2) (Register 1 ∷ ListName 2 ∷ [])
    ∷ having (instruction.Const 1 2) (Register 1 ∷ Compared 2 ∷ [])
    ∷ having (instruction.Number 1 2 4) (Register 1 ∷ Register 2 ∷ [])
    ∷ having (instruction.Undef 1 4) (Register 1 ∷ [])
    ∷ having (instruction.Empty 1 4) (Register 1 ∷ [])
    ∷ having (instruction.NoList 1 4) (Register 1 ∷ [])
    ∷ having (instruction.Differ 1 2 4) (Register 1 ∷ Register 2 ∷ [])
    ∷ having (instruction.Less 1 2 4) (Register 1 ∷ Register 2 ∷ [])
    ∷ having (instruction.Emit 2) (LinkText 2 ∷ [])
    ∷ having (instruction.Put 1 3) (Register 1 ∷ Mode 3 ∷ [])
    ∷ having (instruction.Cut 1 2 3) (Register 1 ∷ Items 2 ∷ Mode 3 ∷ [])
    ∷ having (instruction.Each 1 2 4) (Register 1 ∷ Register 2 ∷ [])
    ∷ having (instruction.Sep 2) (LinkText 2 ∷ [])
    ∷ having instruction.Next []
    ∷ having (instruction.Count 1 2) (Register 1 ∷ Register 2 ∷ [])
    ∷ []

table_holds : map (λ x. operands x.instruction) table ≡ map (λ x. x.operands) table
table_holds = refl

-- for all other operands any number is in range; whether the register or the entry exists is tested elsewhere
others_in_range : map is_in_range (Register 64 ∷ TextName 256 ∷ ListName 256 ∷ LinkText 1024 ∷ Compared 1024 ∷ Mode 0 ∷ [])
    ≡ true ∷ true ∷ true ∷ true ∷ true ∷ true ∷ []
others_in_range = refl

-- ---- instructions as fields

-- one other field, or another operation
same : map (is_same_instr (row 1 2 3 4 5)) (row 1 2 3 4 5 ∷ row 9 2 3 4 5 ∷ row 1 9 3 4 5 ∷ row 1 2 9 4 5 ∷ row 1 2 3 9 5 ∷ row 1 2 3 4 9 ∷ [])
    ≡ true ∷ false ∷ false ∷ false ∷ false ∷ false ∷ []
same = refl

-- ---- codes

abbrev counting : ℕ → Code
counting version =
    record {
      version = version;
      names = record { list = true; text = codes "l" } ∷ [];
      literals = record { compared = true; bytes = codes "a" } ∷ [];
      instrs = row 19 1 0 0 0 ∷ row 99 0 0 0 0 ∷ row 1 0 0 0 0 ∷ [];
    }

-- COUNT, a number that is no operation, HALT, and a place past the end
read_in_version_1 : map (reading_at (counting 1)) (0 ∷ 1 ∷ 2 ∷ 3 ∷ []) ≡ None ∷ None ∷ Some instruction.Halt ∷ None ∷ []
unfolding reading
read_in_version_1 = refl

read_in_version_2 : map (reading_at (counting 2)) (0 ∷ 1 ∷ 2 ∷ 3 ∷ []) ≡ Some (instruction.Count 1 0) ∷ None ∷ Some instruction.Halt ∷ None ∷ []
unfolding reading
read_in_version_2 = refl

-- only the version changes
upgraded_codes : map upgraded (counting 1 ∷ counting 2 ∷ []) ≡ counting 2 ∷ counting 2 ∷ []
upgraded_codes = refl
