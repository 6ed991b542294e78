use Rattle.std.proofs.Common.{ap, ◌∙◌}
use Rattle.answers.specs.Verdict.{IsVerdictOf, verdict}
use Rattle.answers.proofs.RefusalLemmas.{is_err}
use Rattle.answers.proofs.verdict.verdict_of.Goals as goal

pub returns-in_err-accepted_code : goal.returns-in_err-accepted_code
returns-in_err-accepted_code c = rw (is_err _ _ c.from_residual.ensures.1) (IsVerdictOf.not_accepted _ c.in_err-accepted_code.ensures.err)

pub returns-in_err-lines : goal.returns-in_err-lines
returns-in_err-lines c = rw (is_err _ _ c.from_residual-in_err-lines.ensures.1) (IsVerdictOf.no_memory _ c.in_ok-accepted_code.ensures.ok)

pub returns : goal.returns
returns c = IsVerdictOf.accepted c.in_ok-accepted_code.field-0 _ c.in_ok-accepted_code.ensures.ok (c.in_ok-lines.ensures ∙ ap verdict c.budget-2.ensures)
