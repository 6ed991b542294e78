use Rattle.std.proofs.Common.{◌++◌, ap, string_bytes}
use Rattle.uri_template.specs.Expansion.{pieces}
use Rattle.uri_template.proofs.Led.{pieces_from-led}
use Rattle.uri_template.proofs.expansion.push_expression.Goals as goal

pub loop-spec-init : goal.loop-spec-init
loop-spec-init g c =
    ap (λ x. string_bytes c.args.out.now ++ x)
    (pieces_from-led c.of-style.result (pieces (g.V.Variables.look c.args.variables.now) c.of-style.result c.args.specs.now))
