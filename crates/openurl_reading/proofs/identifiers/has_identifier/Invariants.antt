use Rattle.std.proofs.Common.{◌≡◌, drop}
use Rattle.openurl_reading.specs.Identifiers.{has_one_of}
use Rattle.openurl_reading.proofs.identifiers.has_identifier.Given as goal

abbrev pub invariant-loop-namespace : goal.invariant-loop-namespace
invariant-loop-namespace l = has_one_of (drop l.namespace-index l.namespace-items) l.text ≡ has_one_of l.namespace-items l.text
