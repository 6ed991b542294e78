use Rattle.answers.proofs.RefusalLemmas.{is_err}
use Rattle.commands.specs.Answers.{no_target, read}
use Rattle.commands.proofs.AnswerLemmas.{report_answered}
use Rattle.commands.proofs.targets.lint.Goals as goal

pub returns-in_err-rules-clause-ends : goal.returns-in_err-rules-clause-ends
returns-in_err-rules-clause-ends g c = rw (is_err _ _ c.from_residual.ensures.1) (no_target _ c.in_err-rules.ensures.err)

pub returns-clause-ends : goal.returns-clause-ends
returns-clause-ends g c =
    read _ _ _ _ c.in_ok-rules.ensures.ok (rw c.answered.ensures (report_answered _ _ (rw c.deref.ensures.value at c.lint_of.ensures)))
