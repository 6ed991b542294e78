use Rattle.std.proofs.Common.{◌≡◌, ◌≤◌, true, false, rules, length, refl, sym, ap, ◌∙◌, arith}
use Rattle.std.proofs.lemmas.Bool.{false≢true}
use Rattle.kbart_rows.specs.Identifiers.{matching_rows}
use Rattle.table_inspection.specs.Columns.{is_empty_text}
use Rattle.table_inspection.specs.Private.Tallying.{rows_in}
use Rattle.table_inspection.proofs.KnownRows.{rows_are}
use Rattle.table_inspection.proofs.TallyLemmas.{add_known, add_new, kept_of}
use Rattle.table_inspection.proofs.tally.Tally.add.Goals as goal

pub returns-then-is_empty-clause-tallied : goal.returns-then-is_empty-clause-tallied
returns-then-is_empty-clause-tallied c = λ others known old.
    let empty : is_empty_text c.args.id.now ≡ true = search rules in
    add_known (rows_in c.args.table.now) others c.args.id.now c.args.self.now (λ some. absurd (false≢true (sym some ∙ empty))) old

pub returns-then-branch-clause-tallied : goal.returns-then-branch-clause-tallied
returns-then-branch-clause-tallied c = λ others known old.
    add_known (rows_in c.args.table.now) others c.args.id.now c.args.self.now
    (λ some. known some ∙ sym c.in_ok-is_known.ensures ∙ c.if-branch.true) old

pub returns-in_ok-take_if_more-clause-tallied : goal.returns-in_ok-take_if_more-clause-tallied
returns-in_ok-take_if_more-clause-tallied c = λ others known old.
    let table = c.args.table.now in
    let id = c.args.id.now in
    let some : is_empty_text id ≡ false = search rules in
    let rows = c.rows_of.ensures ∙ ap (λ (ids : _). length (matching_rows table ids)) c.in_ok-set.ensures.ok ∙ sym (rows_are table id some) in
    add_new (rows_in table) others id c.args.self.now _ some (known some ∙ sym c.in_ok-is_known.ensures ∙ c.if-branch.false) refl
    (c.in_ok-take_if_more.ensures (rows_in table) others some rows old.most) old

pub returns-else-has_fewer-clause-tallied : goal.returns-else-has_fewer-clause-tallied
returns-else-has_fewer-clause-tallied c = λ others known old.
    let table = c.args.table.now in
    let id = c.args.id.now in
    let some : is_empty_text id ≡ false = search rules in
    let few = c.requires.shares.few id (c.requires.has some) in
    let rows = rows_are table id some in
    let low : rows_in table id ≤ c.args.own.sharing.rows = omega (arith, few, rows) in
    add_new (rows_in table) others id c.args.self.now _ some (known some ∙ sym c.in_ok-is_known.ensures ∙ c.if-branch.false) refl
    (kept_of (rows_in table) others id c.args.self.now.most c.args.own.sharing.rows low (sym c.has_fewer.ensures ∙ c.if-has_fewer.false) old.most) old
