use Rattle.std.proofs.Common.{ap, ◌∙◌}
use Rattle.work_identifiers.specs.Places.{identifier_at}
use Rattle.work_identifiers.proofs.places.identifier_alone.Goals as goal

pub returns-clause-value : goal.returns-clause-value
returns-clause-value c = c.identifier_at.ensures.value ∙ ap (identifier_at c.args.namespace) c.from_start.ensures
