use Rattle.std.proofs.Common.{sym, ap, ◌∙◌, arith}
use Rattle.kbart_rows.specs.Identifiers.{first_from, matching_rows}
use Rattle.table_inspection.proofs.KnownRows.{known_by_first, unknown_of}
use Rattle.table_inspection.proofs.tally.is_known.Goals as goal

pub returns-then-sharing-row : goal.returns-then-sharing-row
returns-then-sharing-row c =
    let id = c.args.id.now in
    sym (unknown_of c.args.table.now c.args.row id c.requires.some (λ other has.
    let low = c.requires.shares.from id other c.requires.has has in
    omega (arith, low, c.if-sharing-row.true)))

pub returns : goal.returns
returns c =
    let table = c.args.table.now in
    c.is_before.ensures
    ∙ known_by_first table c.args.row c.args.id.now c.next_match.result c.requires.some
    (c.next_match.ensures.first ∙ ap (λ (ids : _). first_from 0 (matching_rows table ids)) c.in_ok-set.ensures.ok)
