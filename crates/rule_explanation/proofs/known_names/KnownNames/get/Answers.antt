-- The name's place is that of what is known of it.
use Rattle.std.proofs.Common.{sym, ap, ◌∙◌}
use Rattle.rule_explanation.specs.Private.KnownNames.{known_as}
use Rattle.rule_explanation.proofs.KnownLemmas.{given_at}
use Rattle.rule_explanation.proofs.known_names.KnownNames.get.Goals as goal

pub returns : goal.returns
returns c =
    let names = c.args.self.now.names.names in
    given_at (known_as c.args.lists.now c.args.table.now.header) names c.deref.result.now c.args.name.now c.in_ok-number.number c.in_ok-known.field-0.now
    (c.deref.ensures.value ∙ c.requires) (sym c.position.ensures ∙ c.in_ok-number.was) c.in_ok-known.ensures.lookup.1
