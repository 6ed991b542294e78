use Rattle.std.proofs.Common.{◌≡◌, ◌++◌, take, drop}
use Rattle.work_identifiers.specs.Addresses as spec
use Rattle.work_identifiers.proofs.addresses.without_view.Given as goal

abbrev pub invariant-loop-at : goal.invariant-loop-at
invariant-loop-at l = take l.at l.text ++ spec.without_view (drop l.at l.text) ≡ spec.without_view l.text
