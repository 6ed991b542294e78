-- The findings in the rules so far.
use Rattle.std.proofs.Common.{take}
use Rattle.std.specs.List.{flat_map, enumerate_from}
use Rattle.rule_lint.specs.Findings.{in_rule}
use Rattle.rule_lint.specs.Private.Adds.{Adds}
use Rattle.rule_lint.proofs.check.check_rules.Given as goal

abbrev pub invariant-loop-k : goal.invariant-loop-k
invariant-loop-k l =
    Adds l.initial.out l.out
    (flat_map (in_rule l.target.rules.now l.target.table.now) (take l.k (enumerate_from 0 l.rules)))
