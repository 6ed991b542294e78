use Rattle.std.proofs.Common.{◌≡◌, take, map}
use Rattle.openurl_reading.specs.Steps.{after}
use Rattle.openurl_reading.specs.OldKeys.{copy}
use Rattle.openurl_reading.proofs.old_keys.copy_old_keys.Given as goal

abbrev pub invariant-loop-key : goal.invariant-loop-key
invariant-loop-key l =
    l.pairs ≡ after (map copy (map (λ key. record { old = key.0.now; new = key.1.now }) (take l.key-index l.key-items))) l.initial.pairs
