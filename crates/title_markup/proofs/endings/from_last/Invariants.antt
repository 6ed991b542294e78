use Rattle.std.proofs.Common.{◌≡◌, drop}
use Rattle.std.specs.Option.{option_copied}
use Rattle.title_markup.specs.Endings.{or_other, from_last}
use Rattle.title_markup.proofs.endings.from_last.Given as goal

abbrev pub invariant-loop-at : goal.invariant-loop-at
invariant-loop-at l =
    or_other (from_last l.mark (drop l.at l.text)) (option_copied l.found) ≡ from_last l.mark l.text
