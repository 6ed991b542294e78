use Rattle.std.proofs.Common.{[]}
use Rattle.text_model.proofs.Joined.{joined_more}
use Rattle.menu.specs.Printed.{report_line}
use Rattle.menu.proofs.menu.Menu.report.Goals as goal

pub loop-entry-preserved : goal.loop-entry-preserved
loop-entry-preserved c =
    joined_more report_line [] _ c.loop-entry.entry-index c.entry-item.result _ _ c.loop-entry-test.true c.entry-item.is c.loop-entry.invariant
    c.in_ok-push_report_line.ensures
