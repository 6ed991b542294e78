use Rattle.answers.proofs.RefusalLemmas.{is_err}
use Rattle.commands.specs.Answers.{unread, read}
use Rattle.commands.proofs.AnswerLemmas.{text_answered}
use Rattle.commands.proofs.code.verify.Goals as goal

pub returns-in_err-bytes-clause-ends : goal.returns-in_err-bytes-clause-ends
returns-in_err-bytes-clause-ends g c = rw (is_err _ _ c.from_residual.ensures.1) (unread _ c.in_err-bytes.ensures.err)

pub returns-clause-ends : goal.returns-clause-ends
returns-clause-ends g c =
    read _ _ c.in_ok-bytes.ensures.ok (rw c.answered.ensures (text_answered _ _ (rw c.deref.ensures.value at c.verdict_of.ensures)))
