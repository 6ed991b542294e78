use Rattle.std.proofs.Common.{◌≡◌, length}
use Rattle.written_texts.specs.Encoded as spec
use Rattle.written_texts.proofs.encoded.has_whole_escapes.Given as goal

abbrev pub invariant-loop-rest : goal.invariant-loop-rest
invariant-loop-rest l = spec.has_whole_escapes l.rest ≡ spec.has_whole_escapes l.text

abbrev pub decreases-loop-rest : goal.decreases-loop-rest
decreases-loop-rest l = length l.rest
