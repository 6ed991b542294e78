use Rattle.answers.proofs.RefusalLemmas.{is_err}
use Rattle.commands.specs.Answers.{no_registry, loaded}
use Rattle.commands.proofs.AnswerLemmas.{text_answered}
use Rattle.commands.proofs.source.find.Goals as goal

pub returns-in_err-targets-clause-ends : goal.returns-in_err-targets-clause-ends
returns-in_err-targets-clause-ends g c = rw (is_err _ _ c.from_residual.ensures.1) (no_registry _ c.in_err-targets.ensures.err)

pub returns-clause-ends : goal.returns-clause-ends
returns-clause-ends g c = loaded _ _ c.in_ok-targets.ensures.ok (rw c.answered.ensures (text_answered _ _ c.links_text_of.ensures))
