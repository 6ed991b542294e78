use Rattle.std.proofs.Common.{◌≡◌, ℕ, ◌+◌, ◌∷◌, ◌++◌, ◌<◌, length, take, drop, slice_index, slice_range, sym, ap, ◌∙◌, arith}
use Rattle.std.proofs.lemmas.Grind.{common_steps}
use Rattle.std.proofs.lemmas.List.{drop_more, take-append-drop}
use Rattle.std.proofs.lemmas.Str.{IsCharBoundary-after_ascii}
use Rattle.text_model.specs.Texts.{Text}
use Rattle.kbart_rows.specs.Cells.{tab}
use Rattle.kbart_rows.specs.Lines.{cells_in}
use Rattle.kbart_rows.proofs.LineCells.{first_cell, no_cell}
use Rattle.kbart_rows.proofs.cells.next_cell.Goals as goal

parted : (line : Text) (at : ℕ) → at < length line → slice_index line at ≡ tab → line ≡ take at line ++ tab ∷ drop (at + 1) line
parted line at within is =
    sym (take-append-drop at line) ∙ ap (λ rest. take at line ++ rest) (drop_more line at 0 within ∙ ap (λ b. b ∷ drop (at + 1) line) is)

front_is : (line cell : Text) (at : ℕ) → cell ≡ slice_range line 0 at → cell ≡ take at line
front_is line cell at is = grind (arith, common_steps)

pub range_from-requires : goal.range_from-requires
range_from-requires c =
    let same = c.as_bytes.ensures.value in
    let within = rw same at c.in_ok-end.ensures.within in
    let is = rw same at c.in_ok-end.ensures.tab in
    λ some. IsCharBoundary-after_ascii c.args.line.now c.in_ok-end.end c.utf8.line within (omega (arith, is))

pub returns-in_err-end-clause-none : goal.returns-in_err-end-clause-none
returns-in_err-end-clause-none c =
    rw c.from_residual.ensures (no_cell c.args.line.now (rw c.as_bytes.ensures.value at c.in_err-end.ensures.none))

pub returns-clause-cell : goal.returns-clause-cell
returns-clause-cell c =
    let line = c.args.line.now in
    let end = c.in_ok-end.end in
    let same = c.as_bytes.ensures.value in
    let parts = parted line end (rw same at c.in_ok-end.ensures.within) (rw same at c.in_ok-end.ensures.tab) in
    let lacks = rw same at c.in_ok-end.ensures.lacks in
    rw (front_is line c.range.result.now end c.range.ensures.value, c.range_from.ensures.value)
    (ap cells_in parts ∙ first_cell (take end line) (drop (end + 1) line) lacks)
