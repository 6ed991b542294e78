-- The tables and the instructions of the lines of all rules are those of the rules' code.
use Rattle.std.proofs.Common.{◌≡◌, ℕ, List, length, map, ap, ◌∙◌}
use Rattle.std.specs.Prelude.{min}
use Rattle.code_model.specs.Code.{Name, Literal, spelling}
use Rattle.code_model.specs.declared.code.Instr.{Instr}
use Rattle.rule_parser.specs.Rules.{RuleSet}
use Rattle.compiler_model.specs.declared.lines.Line.{Line}
use Rattle.compiler_model.specs.Tables.{names_of, literals_of}
use Rattle.compiler_model.specs.Compiled.{rule_lines, all_lines, rules_instructions, code_of}
use Rattle.compiler.specs.Private.RuleLines.{instructions_of, with_fail}
use Rattle.compiler.proofs.RuleSteps.{instructions_of_all, lines_of_all}

-- the tables are those of the rules' code, and the lines are counted, up to the largest number
pub record AreOfCode (rules : RuleSet) (names : List Name) (literals : List Literal) (lines : ℕ) : Type 0 where
  pub same_names : names ≡ (code_of rules).names
  pub same_literals : literals ≡ (code_of rules).literals
  pub counted : lines ≡ min (length (all_lines rules)) 18446744073709551615

module _ (rules : RuleSet) (all : List (List Line)) (made : all ≡ map (rule_lines rules.lists) rules.rules) (names : List Name) (literals : List Literal) where
  pub tables_of_code : (lines : ℕ) → names ≡ names_of (with_fail all) → literals ≡ literals_of (with_fail all)
      → lines ≡ min (length (with_fail all)) 18446744073709551615 → AreOfCode rules names literals lines
  tables_of_code lines n l e = record {
    same_names = n ∙ ap names_of (lines_of_all rules all made);
    same_literals = l ∙ ap literals_of (lines_of_all rules all made);
    counted = e ∙ ap (λ (ls : List Line). min (length ls) 18446744073709551615) (lines_of_all rules all made);
  }

  pub instrs_of_code : (instrs : List Instr) → names ≡ (code_of rules).names → literals ≡ (code_of rules).literals
      → instrs ≡ map spelling (instructions_of names literals 0 all) → instrs ≡ (code_of rules).instrs
  instrs_of_code instrs n l pushed =
      pushed
      ∙ ap (λ (rs : List (List Line)). map spelling (instructions_of names literals 0 rs)) made
      ∙ ap (map spelling) (instructions_of_all names literals rules.lists 0 rules.rules)
      ∙ ap (λ (ns : List Name). map spelling (rules_instructions ns literals rules.lists 0 rules.rules)) n
      ∙ ap (λ (ls : List Literal). map spelling (rules_instructions (code_of rules).names ls rules.lists 0 rules.rules)) l
