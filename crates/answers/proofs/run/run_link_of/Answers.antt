use Rattle.answers.specs.Run.{IsRunLinkOf}
use Rattle.answers.proofs.RefusalLemmas.{is_err}
use Rattle.answers.proofs.run.run_link_of.Goals as goal

pub returns-in_err-code : goal.returns-in_err-code
returns-in_err-code c = rw (is_err _ _ c.from_residual.ensures.1) (IsRunLinkOf.not_accepted _ c.in_err-code.ensures.err)

pub returns : goal.returns
returns c = IsRunLinkOf.accepted _ _ c.in_ok-code.ensures.ok c.link_for.ensures
