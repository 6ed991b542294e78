use Rattle.std.proofs.Common.{◌≡◌, ◌-◌, ◌^◌, take, length}
use Rattle.std.specs.Prelude.{min}
use Rattle.menu.specs.Printed.{text}
use Rattle.menu.proofs.lines.text_len.Given as goal

abbrev pub invariant-loop-entry : goal.invariant-loop-entry
invariant-loop-entry l = l.len ≡ min (length (text (take l.entry-index l.entries))) (2 ^ 64 - 1)
