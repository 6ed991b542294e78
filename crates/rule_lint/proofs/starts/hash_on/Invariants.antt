-- The hash of the bytes so far, after those before them.
use Rattle.std.proofs.Common.{◌≡◌, take}
use Rattle.std.specs.Prelude.{fold}
use Rattle.rule_lint.specs.Private.Starts.{next_hash}
use Rattle.rule_lint.proofs.starts.hash_on.Given as goal

abbrev pub invariant-loop-byte : goal.invariant-loop-byte
invariant-loop-byte l = l.hash ≡ fold (next_hash l.multiplier) l.start (take l.byte-index l.bytes)
