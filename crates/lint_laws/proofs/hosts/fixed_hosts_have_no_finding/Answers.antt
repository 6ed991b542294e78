use Rattle.lint_laws.proofs.FixedHosts.{no_finding}
use Rattle.lint_laws.proofs.hosts.fixed_hosts_have_no_finding.Goals as goal

pub returns : goal.returns
returns c = no_finding
