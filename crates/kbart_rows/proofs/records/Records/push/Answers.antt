use Rattle.std.proofs.Common.{◌≤◌, ◌+◌, ◌++◌, ◌∷◌, [], length, length-append, arith, string_bytes}
use Rattle.std.proofs.lemmas.Str.{IsUtf8-string_bytes}
use Rattle.kbart_rows.specs.Cells.{tab}
use Rattle.kbart_rows.specs.declared.read.TheConstants.{MAX_ROW_BYTES}
use Rattle.kbart_rows.proofs.KeptLines.{cells_more, nothing_kept, one_more_kept}
use Rattle.kbart_rows.proofs.LineCells.{line_closed, row_bytes_are}
use Rattle.kbart_rows.proofs.records.Records.push.Goals as goal

pub invariant_of-self : goal.invariant_of-self
invariant_of-self c =
    let text = string_bytes c.self.inside.text in
    let line = c.args.line.now in
    let utf8 = rw c.in-Ok.ensures.text at (IsUtf8-string_bytes c.append.new.text) in
    let short : length (line ++ tab ∷ []) ≤ MAX_ROW_BYTES + 1 = omega (arith, length-append line (tab ∷ []), c.in-Ok.ensures.fits) in
    rw (c.in-Ok.ensures.ends, c.in-Ok.ensures.text)
    (one_more_kept c.self.inside.ends.items text (line ++ tab ∷ []) (IsUtf8-string_bytes c.self.inside.text) utf8 short (line_closed line) c.self.invariant)

pub invariant_of-self-in-Err : goal.invariant_of-self-in-Err
invariant_of-self-in-Err c = rw (c.clear-in-Err.ensures.items, c.clear.ensures.bytes) nothing_kept

pub returns-in-Ok-clause-added : goal.returns-in-Ok-clause-added
returns-in-Ok-clause-added c =
    let text = string_bytes c.self.inside.text in
    rw (c.in-Ok.ensures.ends, c.in-Ok.ensures.text, ← c.self.view_is)
    (cells_more c.self.inside.ends.items text (c.args.line.now ++ tab ∷ []) c.self.invariant)

pub returns-in-Ok-clause-fits : goal.returns-in-Ok-clause-fits
returns-in-Ok-clause-fits c = omega (arith, row_bytes_are c.args.line.now, c.in-Ok.ensures.fits)
