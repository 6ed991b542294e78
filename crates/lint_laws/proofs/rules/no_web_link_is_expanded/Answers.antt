use Rattle.lint_laws.proofs.WebLinkLemmas.{never_a_web_link}
use Rattle.lint_laws.proofs.rules.no_web_link_is_expanded.Goals as goal

pub returns : goal.returns
returns c = never_a_web_link
