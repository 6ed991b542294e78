use Rattle.std.proofs.Common.{◌≡◌, ◌++◌, drop, map}
use Rattle.compiler_model.specs.Compiled.{rule_lines}
use Rattle.compiler.specs.Private.RuleLines.{lines_in}
use Rattle.compiler.proofs.rule_lines.lines_of_rules.Given as goal

-- the lines that have been made, with those of the rules that are left, are the whole
abbrev pub invariant-loop-rule : goal.invariant-loop-rule
invariant-loop-rule l = lines_in l.all.items ++ map (rule_lines l.rules.lists) (drop l.rule-index l.given) ≡ map (rule_lines l.rules.lists) l.rules.rules
