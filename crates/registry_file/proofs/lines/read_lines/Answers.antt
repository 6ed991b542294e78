use Rattle.std.proofs.Common.{◌∙◌, refl, map, ◌∷◌, []}
use Rattle.std.proofs.lemmas.List.{map-append}
use Rattle.csv.specs.Records.{fields_of}
use Rattle.kbart_rows.proofs.ReadingLines.{reading_starts, reading_continues, reading_ends}
use Rattle.registry_file.proofs.lines.read_lines.Goals as goal

pub loop-record-init : goal.loop-record-init
loop-record-init c =
    let start = c.into_iter-record-iterator.ensures.into_iter_gives ∙ refl in
    let rdr = c.into_byte_records-record-items.ensures.rdr in
    let left = c.into_byte_records-record-items.ensures.left in
    rw (start, rdr, c.new-lines.ensures.items) (reading_starts _ _ c.tab_separated_reader.ensures, left)

pub loop-record-preserved : goal.loop-record-preserved
loop-record-preserved c =
    let inv = c.loop-record.invariant in
    let added = c.in_ok-push_line.ensures in
    let step = rw (c.in-Some.is, added.1) at ((c.next.ensures.steps inv.1 inv.0.trim).0 inv.0.ready) in
    rw (added.2, map-append fields_of c.loop-record.lines.items (added.0 ∷ [])) (
      reading_continues _ (map fields_of c.loop-record.lines.items) c.loop-record.record-iterator.rdr c.next.new.self.rdr (fields_of added.0)
          inv.0 step.0 step.1,
      step.2,
    )

pub returns : goal.returns
returns c =
    let inv = c.loop-record.invariant in
    let s = rw c.in-None.is at ((c.next.ensures.steps inv.1 inv.0.trim).0 inv.0.ready) in
    reading_ends _ _ c.loop-record.record-iterator.rdr c.next.new.self.rdr [] inv.0 s
