use Rattle.std.proofs.Common.{◌≡◌, ◌+◌, drop, false}
use Rattle.std.specs.Option.{option_map}
use Rattle.latex_text.specs.Groups as spec
use Rattle.latex_text.proofs.groups.closing_at.Given as goal

abbrev pub invariant-loop-at : goal.invariant-loop-at
invariant-loop-at l = option_map (λ n. l.at + n) (spec.closing_at l.in_formula (drop l.at l.text)) ≡ spec.closing_at false l.text
