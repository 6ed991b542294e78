use Rattle.std.proofs.Common.{◌≡◌, length}
use Rattle.title_markup.specs.Titles as spec
use Rattle.title_markup.proofs.titles.settle.Given as goal

abbrev pub invariant-loop : goal.invariant-loop
invariant-loop l = spec.settled l.text.items ≡ spec.settled l.initial.text.items

abbrev pub decreases-loop : goal.decreases-loop
decreases-loop l = length l.text.items
