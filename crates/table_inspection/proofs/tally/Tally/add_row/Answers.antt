use Rattle.std.proofs.Common.{◌++◌, refl, sym, ◌∙◌}
use Rattle.std.specs.Option.{option_to_list}
use Rattle.std.proofs.lemmas.Slice.Eq.{bytes_eq-Decides}
use Rattle.kbart_rows.specs.Cells.{defined}
use Rattle.table_inspection.specs.Private.Tallying.{ids_before, rows_in}
use Rattle.table_inspection.proofs.TallyLemmas.{add_known, other_known, row_added, row_repeats, same_known}
use Rattle.table_inspection.proofs.tally.Tally.add_row.Goals as goal

pub returns-then-own-clause-tallied : goal.returns-then-own-clause-tallied
returns-then-own-clause-tallied c = row_repeats c.args.table.now c.args.own c.args.self.now c.requires.own c.if-own.true

pub returns-then-eq-clause-tallied : goal.returns-then-eq-clause-tallied
returns-then-eq-clause-tallied c = λ tallied.
    let table = c.args.table.now in
    let own = c.args.own in
    let before = ids_before table own.row in
    let print = own.print.now in
    let online = own.online.now in
    let same = (bytes_eq-Decides online print).0 (sym c.eq.ensures ∙ c.if-eq.true) in
    row_added table own c.add.new.self c.requires.own
    (add_known (rows_in table) (before ++ option_to_list (defined print)) online c.add.new.self (same_known before print online same)
    (c.in_ok-add.ensures.tallied before (λ some. refl) tallied))

pub returns-clause-tallied : goal.returns-clause-tallied
returns-clause-tallied c = λ tallied.
    let table = c.args.table.now in
    let own = c.args.own in
    let before = ids_before table own.row in
    let print = own.print.now in
    let apart = sym c.eq.ensures ∙ c.if-eq.false in
    row_added table own _ c.requires.own
    (c.in_ok-add-2.ensures.tallied (before ++ option_to_list (defined print)) (λ some. other_known before print own.online.now apart)
    (c.in_ok-add.ensures.tallied before (λ some. refl) tallied))
