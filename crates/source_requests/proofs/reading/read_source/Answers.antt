use Rattle.std.proofs.Common.{subst}
use Rattle.std.specs.List.{All}
use Rattle.source_requests.specs.Requests.{IsUtf8Pair}
use Rattle.source_requests.proofs.reading.read_source.Goals as goal

pub returns-clause-utf8 : goal.returns-clause-utf8
returns-clause-utf8 c = subst (All IsUtf8Pair) c.pairs.ensures c.are_utf8.ensures
