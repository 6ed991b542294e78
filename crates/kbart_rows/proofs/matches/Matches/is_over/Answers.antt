use Rattle.std.proofs.Common.{ℕ, ◌≡◌, ◌∙◌, ◌≤◌, length, sym, true}
use Rattle.std.proofs.lemmas.Option.{none-some}
use Rattle.kbart_rows.specs.Identifiers.{matching_rows}
use Rattle.kbart_rows.specs.Private.Runs.{matches}
use Rattle.kbart_rows.proofs.MatchLemmas.{match_reached, none_in}
use Rattle.kbart_rows.proofs.RowOrder.{none_from}
use Rattle.kbart_rows.proofs.matches.Matches.is_over.Goals as goal

pub returns-in-None : goal.returns-in-None
returns-in-None c over =
    let table = c.self.inside.table.now in
    let ids = c.self.inside.ids.now in
    let from = c.self.inside.from in
    let unreached : (row : ℕ) → matches table ids row ≡ true → from ≤ row → ⊥ =
    λ row match low.
    let reached = match_reached table ids from row c.self.inside.runs c.self.invariant match low in
    none-some reached.0 (sym (sym c.least.ensures ∙ c.in-None.is) ∙ reached.1) in
    sym c.self.view_is ∙ none_from from (matching_rows table ids) (none_in (matches table ids) from unreached 0 (length table.rows))
