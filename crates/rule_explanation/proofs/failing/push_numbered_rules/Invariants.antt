-- The lines of the rules so far.
use Rattle.std.proofs.Common.{◌≡◌, ◌++◌, take, string_bytes}
use Rattle.std.specs.List.{enumerate_from, flat_map}
use Rattle.rule_explanation.specs.Explanation.{failing_rule_lines}
use Rattle.rule_explanation.proofs.failing.push_numbered_rules.Given as goal

abbrev pub invariant-loop-i : goal.invariant-loop-i
invariant-loop-i g l =
    string_bytes l.out ≡ string_bytes l.initial.out ++ flat_map (failing_rule_lines (g.V.Variables.look l.variables)) (enumerate_from 1 (take l.i l.rules))
