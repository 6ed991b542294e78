use Rattle.std.proofs.Common.{◌≤◌, ◌++◌, subst, ◌∷◌, ◌∙◌, [], ap, refl, sym, rules, arith}
use Rattle.std.proofs.lemmas.List.{length_push, nil_from_length}
use Rattle.std.proofs.lemmas.List.Elements.{All-push}
use Rattle.csv.specs.Records.{fields_of}
use Rattle.text_model.specs.Texts.{Text}
use Rattle.kbart_rows.specs.Cells.{Row, row_bytes}
use Rattle.kbart_rows.specs.Reading.{AreLines, IsLineFault}
use Rattle.kbart_rows.specs.declared.read.TheConstants.{MAX_ROW_BYTES}
use Rattle.kev_read.proofs.FillingLemmas.{IfErr_passed_on}
use Rattle.kbart_rows.specs.Private.Line.{cells_of}
use Rattle.kbart_rows.proofs.LineCells.{field_or_empty}
use Rattle.kbart_rows.proofs.ReadingLines.{line_refused}
use Rattle.kbart_rows.proofs.ReadingWholeLines.{IsReadingWhole, first_lines, whole_continues, whole_ends, whole_starts}
use Rattle.kbart_rows.proofs.read.read_lines.Goals as goal

pub loop-line-init : goal.loop-line-init
loop-line-init c =
    rw c.in_ok-lines.ensures (whole_starts c.args.bytes.now _ c.requires c.whole_line_reader-reader.ensures, search rules, omega arith)

pub loop-line-preserved : goal.loop-line-preserved
loop-line-preserved c =
    let inv = c.loop-line.invariant in
    let read = rw c.if-branch.true at (c.in_ok-read_line.ensures.read inv.0.trim inv.0.ready) in
    let lines = c.loop-line.lines in
    let fields = fields_of c.read_line.new.line in
    let field = ap (λ (field : _). field.now) c.unwrap_or.ensures ∙ field_or_empty fields 0 c.get.result _ c.get.ensures.value refl in
    let cells = cells_of c.unwrap_or.result.now in
    let more = subst (λ (line : Text). IsReadingWhole c.args.bytes.now (lines ++ cells_of line ∷ []) c.read_line.new.reader) (sym field)
    (whole_continues c.args.bytes.now lines c.loop-line.reader c.read_line.new.reader fields inv.0 read.0 read.1) in
    let size = length_push lines cells in
    let few = c.in_ok-add_line.ensures.few in
    rw c.in_ok-add_line.ensures.added (
      more,
      All-push (λ (row : Row). row_bytes row ≤ MAX_ROW_BYTES) lines cells inv.1 c.in_ok-add_line.ensures.fits,
      omega (arith, size, few),
    )

pub returns-in_err-add_line-clause-refused : goal.returns-in_err-add_line-clause-refused
returns-in_err-add_line-clause-refused c =
    let inv = c.loop-line.invariant in
    let read = rw c.if-branch.true at (c.in_ok-read_line.ensures.read inv.0.trim inv.0.ready) in
    let lines = c.loop-line.lines in
    let fields = fields_of c.read_line.new.line in
    let field = ap (λ (field : _). field.now) c.unwrap_or.ensures ∙ field_or_empty fields 0 c.get.result _ c.get.ensures.value refl in
    let cells = cells_of c.unwrap_or.result.now in
    let more = subst (λ (line : Text). IsReadingWhole c.args.bytes.now (lines ++ cells_of line ∷ []) c.read_line.new.reader) (sym field)
    (whole_continues c.args.bytes.now lines c.loop-line.reader c.read_line.new.reader fields inv.0 read.0 read.1) in
    let first = first_lines c.args.bytes.now (lines ++ cells ∷ []) c.read_line.new.reader more in
    let e = c.in_err-add_line.field-0.0 in
    IfErr_passed_on (IsLineFault c.args.bytes.now) c.from_residual-in_err-add_line.result e c.from_residual-in_err-add_line.ensures.1
    (line_refused c.args.bytes.now lines cells e first inv.1 inv.2 c.in_err-add_line.ensures.refused)

pub returns-clause-lines : goal.returns-clause-lines
returns-clause-lines c =
    let inv = c.loop-line.invariant in
    let read = rw c.if-branch.false at (c.in_ok-read_line.ensures.read inv.0.trim inv.0.ready) in
    whole_ends c.args.bytes.now c.loop-line.lines c.loop-line.reader c.read_line.new.reader (fields_of c.read_line.new.line) inv.0 read.0

pub returns-then-len-eq0-clause-refused : goal.returns-then-len-eq0-clause-refused
returns-then-len-eq0-clause-refused c =
    let inv = c.loop-line.invariant in
    let read = rw c.if-branch.false at (c.in_ok-read_line.ensures.read inv.0.trim inv.0.ready) in
    let none = nil_from_length c.loop-line.lines (omega (arith, c.if-len-eq0.true, c.len.ensures)) in
    subst (AreLines c.args.bytes.now) none
    (whole_ends c.args.bytes.now c.loop-line.lines c.loop-line.reader c.read_line.new.reader (fields_of c.read_line.new.line) inv.0 read.0)
