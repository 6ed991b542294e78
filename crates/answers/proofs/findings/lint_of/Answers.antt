use Rattle.answers.specs.Findings.{IsLintOf}
use Rattle.answers.proofs.RefusalLemmas.{is_err}
use Rattle.answers.proofs.findings.lint_of.Goals as goal

pub returns-in_err-table_of : goal.returns-in_err-table_of
returns-in_err-table_of c = rw (is_err _ _ c.from_residual.ensures.1) (IsLintOf.no_table _ c.in_err-table_of.ensures.err)

pub returns-in_err-findings : goal.returns-in_err-findings
returns-in_err-findings c = rw (is_err _ _ c.from_residual-in_err-findings.ensures.1) (IsLintOf.no_memory _ c.in_ok-table_of.ensures.ok)

pub returns : goal.returns
returns c =
    IsLintOf.linted c.in_ok-table_of.field-0 _ c.in_ok-table_of.ensures.ok c.in_ok-table_of.ensures.keyed c.in_ok-findings.ensures.text
    c.in_ok-findings.ensures.warned
