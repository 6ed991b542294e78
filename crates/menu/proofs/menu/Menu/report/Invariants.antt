use Rattle.std.proofs.Common.{◌≡◌, take, string_bytes}
use Rattle.menu.specs.Printed.{report}
use Rattle.menu.proofs.menu.Menu.report.Given as goal

abbrev pub invariant-loop-entry : goal.invariant-loop-entry
invariant-loop-entry l = string_bytes l.out ≡ report (take l.entry-index l.entry-items)
