use Rattle.answers.specs.Findings.{IsInspectionOf}
use Rattle.answers.proofs.RefusalLemmas.{is_err}
use Rattle.answers.proofs.findings.inspection_of.Goals as goal

pub returns-in_err-table_of : goal.returns-in_err-table_of
returns-in_err-table_of c = rw (is_err _ _ c.from_residual.ensures.1) (IsInspectionOf.no_table _ c.in_err-table_of.ensures.err)

pub returns-in_err-findings : goal.returns-in_err-findings
returns-in_err-findings c = rw (is_err _ _ c.from_residual-in_err-findings.ensures.1) (IsInspectionOf.no_memory _ c.in_ok-table_of.ensures.ok)

pub returns : goal.returns
returns c =
    IsInspectionOf.inspected c.in_ok-table_of.field-0 _ c.in_ok-table_of.ensures.ok c.in_ok-table_of.ensures.keyed c.in_ok-findings.ensures.text
    c.in_ok-findings.ensures.warned
