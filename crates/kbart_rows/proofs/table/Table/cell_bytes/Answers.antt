use Rattle.std.proofs.Common.{◌≡◌, ◌≤◌, ◌<◌, ◌+◌, ◌∙◌, [], drop, get_or, length, ap, arith}
use Rattle.std.proofs.lemmas.List.{get_or-drop, get_or-map, get_or_read, length-drop, length-map}
use Rattle.kbart_rows.specs.Cells.{Holdings, row_bytes}
use Rattle.kbart_rows.specs.Private.Kept.{bytes_of}
use Rattle.kbart_rows.specs.declared.read.TheConstants.{MAX_ROW_BYTES}
use Rattle.kbart_rows.proofs.FillingLemmas.{row_cell_bytes}
use Rattle.kbart_rows.proofs.table.Table.cell_bytes.Goals as goal

pub returns-clause-small : goal.returns-clause-small
returns-clause-small c =
    let lines = c.self.inside.lines in
    let bytes = c.self.inside.bytes.items in
    let row = c.args.row in
    let header = get_or lines 0 [] in
    let rows = drop 1 lines in
    let inside : row < length rows = omega (arith, c.requires, ap (λ (table : Holdings). length table.rows) c.self.view_is) in
    let next : 1 + row ≡ row + 1 = omega arith in
    let at = get_or-drop 1 lines row [] ∙ ap (λ (place : _). get_or lines place []) next in
    let fits : row_bytes (get_or lines (row + 1) []) ≤ MAX_ROW_BYTES = c.self.invariant.fit (row + 1) [] (omega (arith, inside, length-drop 1 lines)) in
    let size = ap length c.self.invariant.counted ∙ length-map rows (bytes_of header) in
    let value = get_or_read bytes row c.index.result.now (omega (arith, inside, size)) c.index.ensures 0
    ∙ ap (λ (sums : _). get_or sums row 0) c.self.invariant.counted ∙ get_or-map (bytes_of header) rows row [] 0 inside in
    omega (arith, value, row_cell_bytes header (get_or rows row []), ap row_bytes at, fits)
