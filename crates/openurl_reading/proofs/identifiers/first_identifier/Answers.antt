use Rattle.std.proofs.Common.{◌≡◌, ◌∙◌, ap, subst}
use Rattle.std.specs.Prelude.{IfOk}
use Rattle.openurl_reading.specs.Sought as spec
use Rattle.openurl_reading.proofs.SoughtTexts.{first_is}
use Rattle.openurl_reading.proofs.identifiers.first_identifier.Goals as goal

pub returns-clause-value : goal.returns-clause-value
returns-clause-value c =
    subst (λ first. IfOk c.first_in.result (λ found. found ≡ first))
    (ap (spec.first_in c.args.namespace) c.texts.ensures ∙ first_is c.args.namespace c.args.pairs.now) c.first_in.ensures.value
