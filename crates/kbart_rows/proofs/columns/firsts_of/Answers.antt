use Rattle.std.proofs.Common.{◌≡◌, ◌+◌, [], Some, length, sym, ap, ◌∙◌, arith}
use Rattle.std.proofs.lemmas.List.{map-append}
use Rattle.std.proofs.lemmas.List.FromFn.{length-map-range_with_len}
use Rattle.std.proofs.lemmas.Option.{get_or_from_slice_get, slice_get_within}
use Rattle.std.specs.List.{slice_get}
use Rattle.std.proofs.lemmas.Grind.{common_steps}
use Rattle.text_model.specs.Texts.{Text}
use Rattle.text_model.proofs.Lists.{past_end, range_more}
use Rattle.kbart_rows.specs.Cells.{is_first}
use Rattle.kbart_rows.specs.Lines.{cells_in}
use Rattle.kbart_rows.proofs.columns.firsts_of.Goals as goal

pub loop-name-preserved : goal.loop-name-preserved
loop-name-preserved c =
    let header = cells_in c.args.header.now in
    let column = c.loop-name.names.column in
    let name = c.in-Some.name.now in
    let inv = c.loop-name.invariant in
    let at : slice_get header column ≡ Some name = sym (c.in-Some.ensures.cell ∙ ap (λ (line : Text). slice_get (cells_in line) column) inv.line) in
    let next = c.in-Some.ensures.some in
    let count = length-map-range_with_len (is_first header) 0 column in
    let here : c.len.result ≡ column = omega (arith, c.len.ensures, ap length inv.firsts, count, c.loop-name.firsts.ok.0) in
    let named = sym (get_or_from_slice_get header column name [] at) in
    let first : c.is_first-first.result ≡ is_first header column = grind (arith, common_steps) in
    let from : 0 + column ≡ column = omega arith in
    grind (arith, inv, next, slice_get_within, at, first, from, map-append, range_more)

pub returns : goal.returns
returns c = grind (arith, c.loop-name.names.column, c.loop-name.invariant, c.in_default.ensures.cell, past_end)
