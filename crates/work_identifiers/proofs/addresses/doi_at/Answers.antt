use Rattle.std.proofs.Common.{ap, take, ◌∙◌}
use Rattle.work_identifiers.specs.declared.namespace.Namespace.TheVariants.{Doi}
use Rattle.work_identifiers.specs.Addresses.{without_view, without_version}
use Rattle.work_identifiers.specs.Places.{identifier_at}
use Rattle.work_identifiers.proofs.addresses.doi_at.Goals as goal

pub returns-clause-value : goal.returns-clause-value
returns-clause-value c =
    let text = c.args.text.now in
    c.identifier_at.ensures.value
    ∙ ap (identifier_at Doi) (c.without_version.ensures
    ∙ ap without_version (c.without_view.ensures
    ∙ ap without_view (c.split_at.ensures.front ∙ ap (λ n. take n text) c.closed_length.ensures.value)))
