use Rattle.answers.specs.Link.{IsLinkOf}
use Rattle.answers.proofs.RefusalLemmas.{is_err}
use Rattle.answers.proofs.link.link_of.Goals as goal

pub returns-in_err-rules : goal.returns-in_err-rules
returns-in_err-rules c = rw (is_err _ _ c.from_residual.ensures.1) (IsLinkOf.no_rules _ c.in_err-rules.ensures.err)

pub returns : goal.returns
returns c = IsLinkOf.parsed _ _ c.in_ok-rules.ensures.ok c.link_for.ensures
