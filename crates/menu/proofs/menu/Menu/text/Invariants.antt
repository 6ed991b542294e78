use Rattle.std.proofs.Common.{◌≡◌, take, string_bytes}
use Rattle.menu.specs.Printed.{text}
use Rattle.menu.proofs.menu.Menu.text.Given as goal

abbrev pub invariant-loop-entry : goal.invariant-loop-entry
invariant-loop-entry l = string_bytes l.out ≡ text (take l.entry-index l.entry-items)
