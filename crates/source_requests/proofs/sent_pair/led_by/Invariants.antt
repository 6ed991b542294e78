use Rattle.std.proofs.Common.{◌≡◌, ◌∷◌, filter, not}
use Rattle.source_requests.specs.Requests.{is_row_key}
use Rattle.source_requests.proofs.sent_pair.led_by.Given as goal

abbrev pub invariant-loop-pair : goal.invariant-loop-pair
invariant-loop-pair l = l.list.items ≡ record { key = l.key; value = l.value } ∷ filter (λ pair. not (is_row_key pair.key)) l.yielded
