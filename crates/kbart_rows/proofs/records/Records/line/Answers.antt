use Rattle.std.proofs.Common.{◌≡◌, ◌≤◌, ◌<◌, ◌+◌, [], map, length, get_or, sym, ◌∙◌, arith, string_bytes}
use Rattle.std.proofs.lemmas.List.{get_or_past, get_or_read}
use Rattle.std.proofs.lemmas.List.Elements.{All-get_or}
use Rattle.std.proofs.lemmas.Str.{IsUtf8-string_bytes}
use Rattle.csv.proofs.RecordFacts.{cut-length}
use Rattle.text_model.specs.Texts.{Text}
use Rattle.kbart_rows.specs.Lines.{cells_in}
use Rattle.kbart_rows.specs.Private.Kept.{lines_in}
use Rattle.kbart_rows.specs.Private.Line.{IsClosed}
use Rattle.kbart_rows.specs.declared.read.TheConstants.{MAX_ROW_BYTES}
use Rattle.kbart_rows.proofs.KeptLines.{IsLineAt, line_is, line_is_at, lines_count}
use Rattle.kbart_rows.proofs.LineCells.{cells_of_field, no_cells, no_line_closed}
use Rattle.kbart_rows.proofs.records.Records.line.Goals as goal

pub returns-then-at-len-clause-cells : goal.returns-then-at-len-clause-cells
returns-then-at-len-clause-cells c =
    let ends = c.self.inside.ends.items in
    let text = string_bytes c.self.inside.text in
    let size = c.len.ensures ∙ c.self.inside.ends.ok.0 in
    rw (← c.self.view_is) (no_cells ∙ sym (get_or_past (map cells_in (lines_in ends text)) c.args.at []
    (omega (arith, c.if-at-len.true, size, lines_count ends text))))

-- where the line begins and ends
is_at : (c : goal.After-row_known-1) → IsLineAt c.self.inside.ends.items (string_bytes c.self.inside.text) c.args.at c.start_of-start.result c.index.result.now
is_at c =
    let ends = c.self.inside.ends.items in
    let inside : c.args.at < length ends = omega (arith, c.if-at-len.false, c.len.ensures ∙ c.self.inside.ends.ok.0) in
    line_is_at ends (string_bytes c.self.inside.text) c.args.at c.start_of-start.result c.index.result.now (IsUtf8-string_bytes c.self.inside.text)
    c.self.invariant inside (rw c.as_slice.ensures.value at c.start_of-start.ensures)
    (get_or_read ends c.args.at c.index.result.now inside c.index.ensures 0)

pub range-requires-clause-start_le_end : goal.range-requires-clause-start_le_end
range-requires-clause-start_le_end c = (is_at c).forwards

pub range-requires-clause-start_boundary : goal.range-requires-clause-start_boundary
range-requires-clause-start_boundary c = λ some. rw c.deref.ensures (is_at c).start_apart

pub range-requires-clause-end_boundary : goal.range-requires-clause-end_boundary
range-requires-clause-end_boundary c = rw c.deref.ensures (is_at c).end_apart

inside : (c : goal.After-range) → c.args.at < length c.self.inside.ends.items
inside c = omega (arith, c.if-at-len.false, c.len.ensures ∙ c.self.inside.ends.ok.0)

found : (c : goal.After-range) → c.range.result.now ≡ get_or (lines_in c.self.inside.ends.items (string_bytes c.self.inside.text)) c.args.at []
found c =
    let ends = c.self.inside.ends.items in
    let text = string_bytes c.self.inside.text in
    let is = line_is_at ends text c.args.at c.start_of-start.result c.index.result.now (IsUtf8-string_bytes c.self.inside.text) c.self.invariant
    (inside c) (rw c.as_slice.ensures.value at c.start_of-start.ensures) (get_or_read ends c.args.at c.index.result.now (inside c) c.index.ensures 0) in
    rw (c.range.ensures.value, c.deref.ensures) (line_is ends text c.args.at c.start_of-start.result c.index.result.now (inside c) is)

pub returns-clause-cells : goal.returns-clause-cells
returns-clause-cells c =
    rw (found c, ← c.self.view_is) (cells_of_field (lines_in c.self.inside.ends.items (string_bytes c.self.inside.text)) c.args.at)

pub returns-clause-short : goal.returns-clause-short
returns-clause-short c =
    let ends = c.self.inside.ends.items in
    let text = string_bytes c.self.inside.text in
    rw (found c) (All-get_or (λ (line : Text). length line ≤ MAX_ROW_BYTES + 1) (lines_in ends text) c.args.at []
    (omega (arith, inside c, cut-length 0 ends text)) c.self.invariant.short)

pub returns-then-at-len-clause-closed : goal.returns-then-at-len-clause-closed
returns-then-at-len-clause-closed c = no_line_closed

pub returns-clause-closed : goal.returns-clause-closed
returns-clause-closed c =
    let ends = c.self.inside.ends.items in
    let text = string_bytes c.self.inside.text in
    rw (found c) (All-get_or IsClosed (lines_in ends text) c.args.at [] (omega (arith, inside c, cut-length 0 ends text)) c.self.invariant.closed)
