use Rattle.std.proofs.Common.{◌≡◌, take}
use Rattle.source_requests.proofs.sent_pair.all_pairs.Given as goal

abbrev pub invariant-loop-index : goal.invariant-loop-index
invariant-loop-index l = l.list.items ≡ take l.index l.pairs
