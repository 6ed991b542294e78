use Rattle.std.proofs.Common.{ap, ◌∙◌}
use Rattle.kbart_rows.specs.Identifiers.{ids_of, matching_rows}
use Rattle.link_menu.proofs.citation.Citation.rows.Goals as goal

pub returns : goal.returns
returns c =
    c.matches.ensures.rows
    ∙ ap (λ table. matching_rows table c.self.inside.ids) c.table.ensures
    ∙ ap (λ ids. matching_rows c.args.target.now.table ids) (c.self.invariant ∙ ap (λ requested. ids_of requested.pairs) c.self.view_is)
