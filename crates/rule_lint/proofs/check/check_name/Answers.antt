use Rattle.std.proofs.Common.{refl, sym, ◌∙◌}
use Rattle.std.proofs.lemmas.Result.{on_ok_weaker}
use Rattle.rule_lint.specs.Findings.{NoColumn}
use Rattle.rule_lint.proofs.AddsLemmas.{adds_as, unknown_column, warns_one}
use Rattle.rule_lint.proofs.check.check_name.Goals as goal

pub returns-then-is_standard_column : goal.returns-then-is_standard_column
returns-then-is_standard_column c =
    on_ok_weaker c.push_no_column.result
    (λ t. adds_as _ _ _ _
    (unknown_column c.args.target.now.rules.now c.args.target.now.table.now c.args.at c.args.name.now (sym c.is_known.ensures ∙ c.if-is_known.false)
    (sym c.is_standard_column.ensures ∙ c.if-is_standard_column.true))
    (warns_one c.args.out.now _ (NoColumn c.args.at c.args.name.now) refl t refl))
    c.push_no_column.ensures
