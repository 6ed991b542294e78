use Rattle.lint_laws.proofs.BrowserHosts.{browser_agrees}
use Rattle.lint_laws.proofs.browsers.browsers_have_plain_hosts.Goals as goal

pub returns : goal.returns
returns c = browser_agrees
