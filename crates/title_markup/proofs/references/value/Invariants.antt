use Rattle.std.proofs.Common.{◌≡◌, take}
use Rattle.title_markup.specs.References as spec
use Rattle.title_markup.proofs.references.value.Given as goal

abbrev pub invariant-loop-digit : goal.invariant-loop-digit
invariant-loop-digit l = l.number ≡ spec.value l.base (take l.digit-index l.digits)
