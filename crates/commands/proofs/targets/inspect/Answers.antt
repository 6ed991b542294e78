use Rattle.answers.proofs.RefusalLemmas.{is_err}
use Rattle.commands.specs.Answers.{unkeyed, read}
use Rattle.commands.proofs.AnswerLemmas.{report_answered}
use Rattle.commands.proofs.targets.inspect.Goals as goal

pub returns-in_err-bytes-clause-ends : goal.returns-in_err-bytes-clause-ends
returns-in_err-bytes-clause-ends g c = rw (is_err _ _ c.from_residual.ensures.1) (unkeyed _ c.in_err-bytes.ensures.err)

pub returns-clause-ends : goal.returns-clause-ends
returns-clause-ends g c =
    read _ c.in_ok-bytes.keys _ c.in_ok-bytes.ensures.ok c.in_ok-bytes.ensures.drawn
    (rw c.answered.ensures (report_answered _ _ (rw c.deref.ensures.value at c.inspection_of.ensures)))
