use Rattle.std.proofs.Common.{◌≡◌, drop}
use Rattle.openurl_reading.specs.Sought as spec
use Rattle.openurl_reading.proofs.identifiers.first_in.Given as goal

abbrev pub invariant-loop-text : goal.invariant-loop-text
invariant-loop-text l = spec.first_in l.namespace (drop l.text-index l.texts) ≡ spec.first_in l.namespace l.texts
