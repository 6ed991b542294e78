-- The hash of the bytes so far, in lower case.
use Rattle.std.proofs.Common.{◌≡◌, take}
use Rattle.rule_lint.specs.Private.Starts.{name_hash, lower_case}
use Rattle.rule_lint.proofs.starts.hash_in_lower_case.Given as goal

abbrev pub invariant-loop-byte : goal.invariant-loop-byte
invariant-loop-byte l = l.hash ≡ name_hash l.multiplier (lower_case (take l.byte-index l.name))
