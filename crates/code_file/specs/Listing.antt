-- The listing of a code: its counts, its tables and its instructions, a line each.
use Rattle.std.specs.Prelude.{ℕ, ◌+◌, Bool, ◌&&◌, ◌==◌, List, [], ◌∷◌, ◌++◌, Option, Some, None, length, codes, if◌then◌else◌}
use Rattle.std.specs.List.{list_all}
use Rattle.std.specs.Fmt.{decimal}
use Rattle.text_model.specs.Texts.{Text}
use Rattle.printed_text.specs.Printed.{quoted}
use Rattle.code_model.specs.Code.{Name, Literal, Code, is_same_instr, reading, spelling}
use Rattle.code_model.specs.Operands.{operands, is_in_range}
use Rattle.code_model.specs.declared.code.Instr.{Instr}
use Rattle.code_model.specs.declared.code.Instruction.{Instruction}
use Rattle.code_model.specs.declared.code.Instruction.TheVariants as instruction
use Rattle.code_file.specs.Grammar.{magic}

-- ---- instructions

-- how a text is percent-encoded: 0 is U, 1 is UR
abbrev pub mode_word : ℕ → Text
mode_word c = if c == 0 then codes "u" else codes "ur"

-- an instruction's name, and its fields in the order of its letters
abbrev pub instruction_text : Instruction → Text
instruction_text instruction.Halt = codes "HALT"
instruction_text instruction.Fail = codes "FAIL"
instruction_text (instruction.Jump d) = codes "JUMP " ++ decimal d
instruction_text (instruction.Text a b) = codes "TEXT r" ++ (decimal a ++ (codes " n" ++ decimal b))
instruction_text (instruction.List a b) = codes "LIST r" ++ (decimal a ++ (codes " n" ++ decimal b))
instruction_text (instruction.Const a b) = codes "CONST r" ++ (decimal a ++ (codes " l" ++ decimal b))
instruction_text (instruction.Number a b d) = codes "NUMBER r" ++ (decimal a ++ (codes " r" ++ (decimal b ++ (codes " " ++ decimal d))))
instruction_text (instruction.Undef a d) = codes "UNDEF r" ++ (decimal a ++ (codes " " ++ decimal d))
instruction_text (instruction.Empty a d) = codes "EMPTY r" ++ (decimal a ++ (codes " " ++ decimal d))
instruction_text (instruction.NoList a d) = codes "NOLIST r" ++ (decimal a ++ (codes " " ++ decimal d))
instruction_text (instruction.Differ a b d) = codes "DIFFER r" ++ (decimal a ++ (codes " r" ++ (decimal b ++ (codes " " ++ decimal d))))
instruction_text (instruction.Less a b d) = codes "LESS r" ++ (decimal a ++ (codes " r" ++ (decimal b ++ (codes " " ++ decimal d))))
instruction_text (instruction.Emit b) = codes "EMIT l" ++ decimal b
instruction_text (instruction.Put a c) = codes "PUT r" ++ (decimal a ++ (codes " " ++ mode_word c))
instruction_text (instruction.Cut a b c) = codes "CUT r" ++ (decimal a ++ (codes " " ++ (decimal b ++ (codes " " ++ mode_word c))))
instruction_text (instruction.Each a b d) = codes "EACH r" ++ (decimal a ++ (codes " r" ++ (decimal b ++ (codes " " ++ decimal d))))
instruction_text (instruction.Sep b) = codes "SEP l" ++ decimal b
instruction_text instruction.Next = codes "NEXT"
instruction_text (instruction.Count a b) = codes "COUNT r" ++ (decimal a ++ (codes " r" ++ decimal b))

-- the numbers of an instruction's fields
abbrev pub fields_text : Instr → Text
fields_text i =
    codes "? " ++ (decimal i.op ++ (codes " " ++ (decimal i.a ++ (codes " " ++ (decimal i.b ++ (codes " " ++ (decimal i.c ++ (codes " " ++ decimal i.d))))))))

-- an instruction whose operation is known, whose unused fields are 0, and whose operands are in range;
-- otherwise its fields
abbrev pub text_of : Instr → Option Instruction → Text
text_of i None = fields_text i
text_of i (Some known) = if (is_same_instr (spelling known) i && list_all is_in_range (operands known)) then instruction_text known else fields_text i

abbrev pub instr_text : ℕ → Instr → Text
instr_text version i = text_of i (reading version i)

-- ---- lines

abbrev pub newline : Text
newline = 10 ∷ []

abbrev pub name_kind : Bool → Text
name_kind list = if list then codes "list" else codes "text"

abbrev pub literal_kind : Bool → Text
literal_kind compared = if compared then codes "compare" else codes "link"

abbrev pub name_line : ℕ → Name → Text
name_line place n =
    codes "name " ++ (decimal place ++ (codes " " ++ (name_kind n.list ++ (codes " " ++ (n.text ++ newline)))))

abbrev pub literal_line : ℕ → Literal → Text
literal_line place l =
    codes "literal " ++ (decimal place ++ (codes " " ++ (literal_kind l.compared
    ++ (codes " " ++ (quoted l.bytes ++ newline)))))

abbrev pub instr_line : ℕ → ℕ → Instr → Text
instr_line version place i = decimal place ++ (codes " " ++ (instr_text version i ++ newline))

-- a line for each entry, from a place on
abbrev pub lines_from : {X : Type 0} → (ℕ → X → Text) → ℕ → List X → Text
lines_from line place [] = []
lines_from line place (x ∷ xs) = line place x ++ lines_from line (place + 1) xs

abbrev pub first_line : ℕ → ℕ → ℕ → ℕ → Text
first_line version names literals instrs =
    magic version ++ (codes " names " ++ (decimal names ++ (codes " literals " ++ (decimal literals
    ++ (codes " instructions " ++ (decimal instrs ++ newline))))))

unfoldable pub listing : Code → Text
listing c =
    first_line c.version (length c.names) (length c.literals) (length c.instrs)
    ++ (lines_from name_line 0 c.names ++ (lines_from literal_line 0 c.literals ++ lines_from (instr_line c.version) 0 c.instrs))
