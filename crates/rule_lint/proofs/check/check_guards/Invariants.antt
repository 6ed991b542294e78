-- The findings in the guards so far.
use Rattle.std.proofs.Common.{take}
use Rattle.std.specs.List.{flat_map, enumerate_from}
use Rattle.rule_lint.specs.Findings.{in_numbered_guard}
use Rattle.rule_lint.specs.Private.Adds.{Adds}
use Rattle.rule_lint.proofs.check.check_guards.Given as goal

abbrev pub invariant-loop-i : goal.invariant-loop-i
invariant-loop-i l =
    Adds l.initial.out l.out (flat_map (in_numbered_guard l.target.rules.now l.target.table.now l.rule) (take l.i (enumerate_from 0 l.guards)))
