-- The code of rules.
use Rattle.std.specs.Prelude.{ℕ, ◌+◌, List, [], ◌∷◌, ◌++◌, Bool, true, false, length, map, if◌then◌else◌}
use Rattle.std.specs.List.{flat_map, list_any}
use Rattle.text_model.specs.Texts.{Text}
use Rattle.text_model.specs.declared.writing.Writing.{Writing}
use Rattle.text_model.specs.declared.writing.Writing.TheVariants.{U, UR}
use Rattle.code_model.specs.Code.{Name, Literal, Code, spelling}
use Rattle.code_model.specs.declared.code.Instruction.{Instruction}
use Rattle.code_model.specs.declared.code.Instruction.TheVariants as instruction
use Rattle.rule_parser.specs.declared.rule.Guard.{Guard}
use Rattle.rule_parser.specs.declared.rule.Guard.TheVariants.{Counts}
use Rattle.rule_parser.specs.declared.rule.Rule.{Rule}
use Rattle.rule_parser.specs.Rules.{RuleSet}
use Rattle.compiler_model.specs.declared.lines.Action.{Action}
use Rattle.compiler_model.specs.declared.lines.Action.TheVariants.{LoadText, LoadList, LoadConst, CountMembers, Emits, Separates, Puts, Cuts}
use Rattle.compiler_model.specs.declared.lines.Test.{Test}
use Rattle.compiler_model.specs.declared.lines.Test.TheVariants.{IsUndefined, IsEmpty, HasNoMember, HasNoNumber, Differs, IsLess}
use Rattle.compiler_model.specs.declared.lines.Target.{Target}
use Rattle.compiler_model.specs.declared.lines.Target.TheVariants.{Ahead, Away}
use Rattle.compiler_model.specs.declared.lines.Line.{Line}
use Rattle.compiler_model.specs.declared.lines.Line.TheVariants.{Acts, Tests, Jumps, Begins, Turns, Halts, Fails}
use Rattle.compiler_model.specs.Blocks.{lines}
use Rattle.compiler_model.specs.Shapes.{rule_block}
use Rattle.compiler_model.specs.Tables.{names_of, literals_of, name_index, literal_index}

-- ---- lines

-- a rule's lines: its guards, its template, HALT
abbrev pub rule_lines : List Text → Rule → List Line
rule_lines lists rule = lines (rule_block lists rule) ++ Halts ∷ []

-- the lines of all rules, and FAIL after them
abbrev pub all_lines : RuleSet → List Line
all_lines rules = flat_map (rule_lines rules.lists) rules.rules ++ Fails ∷ []

-- ---- from a line to an instruction

abbrev pub mode_of : Writing → ℕ
mode_of U = 0
mode_of UR = 1

-- the place that a line at a place leads to; `away` is the place after the rule
abbrev pub place_of : ℕ → ℕ → Target → ℕ
place_of away place (Ahead places) = place + places
place_of away place Away = away

abbrev pub action_instruction : List Name → List Literal → Action → Instruction
action_instruction names literals (LoadText register name) = instruction.Text register (name_index names false name)
action_instruction names literals (LoadList register name) = instruction.List register (name_index names true name)
action_instruction names literals (LoadConst register text) = instruction.Const register (literal_index literals true text)
action_instruction names literals (CountMembers register list) = instruction.Count register list
action_instruction names literals (Emits text) = instruction.Emit (literal_index literals false text)
action_instruction names literals (Separates text) = instruction.Sep (literal_index literals false text)
action_instruction names literals (Puts register writing) = instruction.Put register (mode_of writing)
action_instruction names literals (Cuts register items writing) = instruction.Cut register items (mode_of writing)

abbrev pub test_instruction : Test → ℕ → Instruction
test_instruction (IsUndefined register) d = instruction.Undef register d
test_instruction (IsEmpty register) d = instruction.Empty register d
test_instruction (HasNoMember register) d = instruction.NoList register d
test_instruction (HasNoNumber register text) d = instruction.Number register text d
test_instruction (Differs register other) d = instruction.Differ register other d
test_instruction (IsLess register other) d = instruction.Less register other d

-- the instruction of a line at a place
abbrev pub line_instruction : List Name → List Literal → ℕ → ℕ → Line → Instruction
line_instruction names literals away place (Acts action) = action_instruction names literals action
line_instruction names literals away place (Tests test target) = test_instruction test (place_of away place target)
line_instruction names literals away place (Jumps target) = instruction.Jump (place_of away place target)
line_instruction names literals away place (Begins element list places) = instruction.Each element list (place + places)
line_instruction names literals away place Turns = instruction.Next
line_instruction names literals away place Halts = instruction.Halt
line_instruction names literals away place Fails = instruction.Fail

-- the instructions of lines from a place on
abbrev pub instructions_from : List Name → List Literal → ℕ → ℕ → List Line → List Instruction
instructions_from names literals away place [] = []
instructions_from names literals away place (line ∷ rest) =
    line_instruction names literals away place line ∷ instructions_from names literals away (place + 1) rest

-- the instructions of rules from a place on; a test that leaves a rule leads to the place after its lines
abbrev pub rules_instructions : List Name → List Literal → List Text → ℕ → List Rule → List Instruction
rules_instructions names literals lists place [] = instruction.Fail ∷ []
rules_instructions names literals lists place (rule ∷ rules) =
    instructions_from names literals (place + length (rule_lines lists rule)) place (rule_lines lists rule)
    ++ rules_instructions names literals lists (place + length (rule_lines lists rule)) rules

-- ---- the code

abbrev pub is_counts : Guard → Bool
is_counts (Counts name low high) = true
is_counts g = false

-- whether a rule has a guard `counts`
abbrev pub has_counts : RuleSet → Bool
has_counts rules = list_any (λ (rule : Rule). list_any is_counts rule.guards) rules.rules

-- of version 2 if a rule has a guard `counts`, and of version 1 otherwise
abbrev pub code_of : RuleSet → Code
code_of rules =
    let names : List Name = names_of (all_lines rules) in
    let literals : List Literal = literals_of (all_lines rules) in
    record {
      version = if has_counts rules then 2 else 1;
      names = names;
      literals = literals;
      instrs = map spelling (rules_instructions names literals rules.lists 0 rules.rules);
    }
