use Rattle.std.proofs.Common.{◌-◌, ◌^◌}
use Rattle.menu.specs.Printed.{text_line}
use Rattle.menu.proofs.Lengths.{length_step}
use Rattle.menu.proofs.lines.text_len.Goals as goal

pub loop-entry-preserved : goal.loop-entry-preserved
loop-entry-preserved c =
    length_step (2 ^ 64 - 1) text_line c.args.entries.now c.loop-entry.entry-index _ c.entry-item.result _ _ _ c.loop-entry-test.true
    c.entry-item.is c.loop-entry.invariant c.text_line_len.ensures c.saturating_add-len.ensures
