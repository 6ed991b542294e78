use Rattle.std.proofs.Common.{take}
use Rattle.std.specs.List.{All}
use Rattle.source_requests.specs.Requests.{IsUtf8Pair}
use Rattle.source_requests.proofs.utf8.are_utf8.Given as goal

abbrev pub invariant-loop-index : goal.invariant-loop-index
invariant-loop-index l = All IsUtf8Pair (take l.index l.pairs)
