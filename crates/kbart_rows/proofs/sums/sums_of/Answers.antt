use Rattle.std.proofs.Common.{◌≡◌, ◌+◌, ◌<◌, ◌++◌, ◌∷◌, [], drop, get_or, length, map, take, sym, ap, ◌∙◌, arith}
use Rattle.std.proofs.lemmas.List.{get_or-drop, length-drop, map_more}
use Rattle.kbart_rows.specs.Lines.{cells_in}
use Rattle.kbart_rows.specs.Private.Kept.{bytes_of}
use Rattle.kbart_rows.proofs.RowSums.{firsts_count}
use Rattle.kbart_rows.proofs.sums.sums_of.Goals as goal

pub loop-row-preserved : goal.loop-row-preserved
loop-row-preserved c =
    let lines = c.args.lines.now in
    let row = c.loop-row.row in
    let header = get_or lines 0 [] in
    let rows = drop 1 lines in
    let inside : row < length rows = omega (arith, c.loop-row-test.true, c.len-rows.ensures, length-drop 1 lines) in
    let at : cells_in c.line.result.now ≡ get_or rows row [] = grind (arith, c.line.ensures.cells, get_or-drop) in
    let sum : c.sum_of.result ≡ bytes_of header (get_or rows row []) =
    grind (arith, c.requires.firsts, firsts_count, at) in
    c.in_ok-push.ensures.items ∙ ap (λ (sums : _). sums ++ c.sum_of.result ∷ []) c.loop-row.invariant
    ∙ ap (λ (n : _). map (bytes_of header) (take row rows) ++ n ∷ []) sum ∙ sym (map_more (bytes_of header) rows row [] inside)
