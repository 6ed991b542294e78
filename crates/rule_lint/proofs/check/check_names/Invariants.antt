-- The findings for the names so far.
use Rattle.std.proofs.Common.{Bor, take}
use Rattle.std.specs.List.{flat_map}
use Rattle.text_model.specs.Texts.{Text}
use Rattle.rule_lint.specs.Findings.{in_name}
use Rattle.rule_lint.specs.Private.Adds.{Adds}
use Rattle.rule_lint.proofs.check.check_names.Given as goal

abbrev pub invariant-loop-name : goal.invariant-loop-name
invariant-loop-name l =
    Adds l.initial.out l.out (flat_map (λ (y : Bor Text). in_name l.target.rules.now l.target.table.now l.at y.now) (take l.name-index l.names))
