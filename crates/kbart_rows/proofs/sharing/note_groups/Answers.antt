use Rattle.std.proofs.Common.{◌+◌, ◌≤◌, length, arith}
use Rattle.kbart_rows.proofs.SharingLemmas.{IsGroup, looser_same, one_group_more, one_is_fresh}
use Rattle.kbart_rows.proofs.sharing.note_groups.Goals as goal

pub loop-start-preserved-then-end-start-gt1 : goal.loop-start-preserved-then-end-start-gt1
loop-start-preserved-then-end-start-gt1 c =
    let group : IsGroup c.args.entries.now c.loop-start.start c.group_end-end.result = record {
      some = c.group_end-end.ensures.within.0;
      inside = c.group_end-end.ensures.within.1;
      same = c.group_end-end.ensures.same;
      ends = c.group_end-end.ensures.ends;
    } in
    one_group_more c.args.entries.now (length c.args.notes.now) c.loop-start.start c.group_end-end.result c.loop-start.notes c.note_group.new.notes
    c.requires.order c.requires.small c.loop-start.invariant group c.note_group.ensures.looser c.note_group.ensures.noted

pub loop-start-preserved : goal.loop-start-preserved
loop-start-preserved c =
    let entries = c.args.entries.now in
    let start = c.loop-start.start in
    let end = c.group_end-end.result in
    let group : IsGroup entries start end = record {
      some = c.group_end-end.ensures.within.0;
      inside = c.group_end-end.ensures.within.1;
      same = c.group_end-end.ensures.same;
      ends = c.group_end-end.ensures.ends;
    } in
    let one : end ≤ start + 1 = omega (arith, c.if-end-start-gt1.false) in
    one_group_more entries (length c.args.notes.now) start end c.loop-start.notes c.loop-start.notes c.requires.order c.requires.small
    c.loop-start.invariant group (looser_same c.loop-start.notes) (one_is_fresh entries start end c.loop-start.notes one c.loop-start.invariant.fresh)
