use Rattle.std.proofs.Common.{arith, ℕ, ◌∙◌, List, ap, drop, sym}
use Rattle.std.specs.List.{slice_get}
use Rattle.kbart_rows.specs.Identifiers.{matching_rows}
use Rattle.kbart_rows.proofs.RowOrder.{first_and_rest, matching_rows_rise, none_from}
use Rattle.kbart_rows.proofs.matches.Matches.next.Goals as goal

pub returns-in-Some-clause-head : goal.returns-in-Some-clause-head
returns-in-Some-clause-head c =
    let table = c.self.inside.table.now in
    let ids = c.self.inside.ids.now in
    let rows = matching_rows table ids in
    let parts = first_and_rest c.self.inside.from c.in-Some.row rows (matching_rows_rise table ids) (sym c.in-Some.ensures.first) in
    sym (ap (λ (rows : List ℕ). slice_get rows 0) (sym c.self.view_is ∙ parts))

pub returns-in-Some-clause-tail : goal.returns-in-Some-clause-tail
returns-in-Some-clause-tail c =
    let table = c.self.inside.table.now in
    let ids = c.self.inside.ids.now in
    let rows = matching_rows table ids in
    let parts = first_and_rest c.self.inside.from c.in-Some.row rows (matching_rows_rise table ids) (sym c.in-Some.ensures.first) in
    sym (ap (drop 1) (sym c.self.view_is ∙ parts))

pub returns-in-None-clause-head : goal.returns-in-None-clause-head
returns-in-None-clause-head c = grind (arith, none_from, c.self.view_is)

pub returns-in-None-clause-tail : goal.returns-in-None-clause-tail
returns-in-None-clause-tail c = grind (arith, none_from, c.self.view_is)
