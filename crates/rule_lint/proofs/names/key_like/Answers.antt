use Rattle.std.proofs.Common.{ap, ◌∙◌}
use Rattle.std.specs.List.{find}
use Rattle.rule_lint.specs.Names.{resembles}
use Rattle.rule_lint.proofs.names.key_like.Goals as goal

pub returns : goal.returns
returns c = c.first_like.ensures ∙ ap (find (resembles c.args.name.now)) c.request_keys.ensures
