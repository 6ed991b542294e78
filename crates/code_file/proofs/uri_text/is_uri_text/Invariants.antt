use Rattle.std.proofs.Common.{◌≡◌, length}
use Rattle.code_file.specs.Private.FromLeft as from_left
use Rattle.code_file.proofs.uri_text.is_uri_text.Given as goal

abbrev pub invariant-loop-rest : goal.invariant-loop-rest
invariant-loop-rest l = from_left.is_uri_text l.rest ≡ from_left.is_uri_text l.fn.bytes

abbrev pub decreases-loop-rest : goal.decreases-loop-rest
decreases-loop-rest l = length l.rest
