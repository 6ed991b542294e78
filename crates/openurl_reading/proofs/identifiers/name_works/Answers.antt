use Rattle.std.proofs.Common.{ap, ◌∙◌}
use Rattle.work_identifiers.specs.declared.namespace.Namespace.TheVariants.{Doi, Pmid, Oclc, Pmc, Arxiv}
use Rattle.openurl_reading.specs.Steps.{taken}
use Rattle.openurl_reading.specs.Identifiers.{naming}
use Rattle.openurl_reading.proofs.identifiers.name_works.Goals as goal

pub returns : goal.returns
returns c =
    c.into_pairs.ensures ∙ c.in_ok-pairs-6.ensures
    ∙ ap (λ pairs. taken pairs (naming Doi)) (c.in_ok-pairs-5.ensures
    ∙ ap (λ pairs. taken pairs (naming Arxiv)) (c.in_ok-pairs-4.ensures
    ∙ ap (λ pairs. taken pairs (naming Pmid)) (c.in_ok-pairs-3.ensures
    ∙ ap (λ pairs. taken pairs (naming Pmc)) (c.in_ok-pairs-2.ensures
    ∙ ap (λ pairs. taken pairs (naming Oclc)) c.in_ok-pairs.ensures))))
