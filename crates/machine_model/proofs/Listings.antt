-- Codes and environments for the examples.
use Rattle.std.proofs.Common.{ℕ, ◌+◌, List, [], ◌∷◌, ◌++◌, true, false}
use Rattle.std.specs.Prelude.{codes, take, drop, map}
use Rattle.text_model.specs.Texts.{Text}
use Rattle.code_model.specs.Code.{Name, Literal, Code, spelling, upgraded}
use Rattle.environment_model.specs.Environment.{Environment, Single, Several}
use Rattle.code_model.specs.declared.code.Instr.{Instr}
use Rattle.code_model.specs.declared.code.Instruction.{Instruction}
use Rattle.code_model.specs.declared.code.Instruction.TheVariants as instruction

abbrev pub text_name : Text → Name
text_name t = record { list = false; text = t }

abbrev pub list_name : Text → Name
list_name t = record { list = true; text = t }

abbrev pub link_text : Text → Literal
link_text t = record { compared = false; bytes = t }

abbrev pub compared_text : Text → Literal
compared_text t = record { compared = true; bytes = t }

abbrev pub code : List Name → List Literal → List Instruction → Code
code names literals instructions = record { version = 1; names = names; literals = literals; instrs = map spelling instructions }

-- the same code with other fields at a place
abbrev pub with_fields : ℕ → Instr → Code → Code
with_fields p i c = record c { instrs = take p c.instrs ++ i ∷ drop (p + 1) c.instrs }

-- the same code with another instruction at a place
abbrev pub with_instruction : ℕ → Instruction → Code → Code
with_instruction p i c = with_fields p (spelling i) c

-- the members of `list`, separated by commas
abbrev pub list_code : Code
list_code =
    code (list_name (codes "list") ∷ []) (link_text (codes ",") ∷ [])
    (instruction.List 0 0
    ∷ instruction.Each 1 0 5
    ∷ instruction.Sep 0
    ∷ instruction.Put 1 0
    ∷ instruction.Next
    ∷ instruction.Halt
    ∷ [])

-- the code of a rule with the template `http://e.org/{rft.issn}`
abbrev pub issn_code : Code
issn_code =
    code (text_name (codes "rft.issn") ∷ []) (link_text (codes "http://e.org/") ∷ compared_text [] ∷ link_text (codes ",") ∷ compared_text (codes "1") ∷ [])
    (instruction.Emit 0
    ∷ instruction.Const 4 1
    ∷ instruction.Text 0 0
    ∷ instruction.Undef 0 8
    ∷ instruction.Empty 4 6
    ∷ instruction.Emit 2
    ∷ instruction.Const 4 3
    ∷ instruction.Put 0 0
    ∷ instruction.Halt
    ∷ instruction.Fail
    ∷ [])

-- what a rule with `when rft.au counts 2 to *` and the template `http://e.org/{rft.au}` is compiled to
abbrev pub authors_code : Code
authors_code =
    upgraded (code (list_name (codes "rft.au") ∷ [])
    (compared_text (codes "2") ∷ link_text (codes "http://e.org/") ∷ compared_text [] ∷ link_text (codes ",") ∷ compared_text (codes "1") ∷ [])
    (instruction.List 0 0
    ∷ instruction.Count 1 0
    ∷ instruction.Const 2 0
    ∷ instruction.Number 3 2 5
    ∷ instruction.Less 1 3 17
    ∷ instruction.Emit 1
    ∷ instruction.Const 4 2
    ∷ instruction.List 0 0
    ∷ instruction.NoList 0 16
    ∷ instruction.Empty 4 11
    ∷ instruction.Emit 3
    ∷ instruction.Const 4 4
    ∷ instruction.Each 5 0 16
    ∷ instruction.Sep 3
    ∷ instruction.Put 5 0
    ∷ instruction.Next
    ∷ instruction.Halt
    ∷ instruction.Fail
    ∷ []))

-- prints the text `x` if it is defined
abbrev pub x_code : Code
x_code = code (text_name (codes "x") ∷ []) [] (instruction.Text 2 0 ∷ instruction.Undef 2 3 ∷ instruction.Put 2 0 ∷ instruction.Halt ∷ [])

-- a loop that loads the comparison text `abc` into the element's register, and prints it
abbrev pub element_written : Code
element_written =
    code (list_name (codes "list") ∷ []) (compared_text (codes "abc") ∷ [])
    (instruction.List 0 0
    ∷ instruction.Each 1 0 5
    ∷ instruction.Const 1 0
    ∷ instruction.Put 1 0
    ∷ instruction.Next
    ∷ instruction.Halt
    ∷ [])

-- names: 0 `list`, a list, and 1 `x`, a text. Literals: 0 the link text `/`, and the comparison texts 1 `12`, 2 `7`, 3 the empty text, 4 ten digits, 5 nine
-- digits and a letter, 6 `é%41b`
abbrev pub sample : List Instruction → Code
sample instructions =
    code (list_name (codes "list") ∷ text_name (codes "x") ∷ [])
    (link_text (codes "/")
    ∷ compared_text (codes "12")
    ∷ compared_text (codes "7")
    ∷ compared_text []
    ∷ compared_text (codes "1234567890")
    ∷ compared_text (codes "123456789x")
    ∷ compared_text (195 ∷ 169 ∷ codes "%41b")
    ∷ [])
    instructions

-- the same as code of version 2
abbrev pub second : List Instruction → Code
second instructions = upgraded (sample instructions)

abbrev pub a_text : Text → Text → Environment
a_text name t = record { name = name; meaning = Single t } ∷ []

abbrev pub a_list : Text → List Text → Environment
a_list name ts = record { name = name; meaning = Several ts } ∷ []

abbrev pub colours : Environment
colours = a_list (codes "list") (codes "red" ∷ codes "green" ∷ codes "blue" ∷ [])
