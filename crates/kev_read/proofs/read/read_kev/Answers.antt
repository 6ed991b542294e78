use Rattle.std.proofs.Common.{arith}
use Rattle.kev_read.proofs.ValueBytes.{value_bytes-pairs_of-le}
use Rattle.kev_read.proofs.read.read_kev.Goals as goal

pub new-requires-clause-bounded : goal.new-requires-clause-bounded
new-requires-clause-bounded c = grind (arith, c.has_too_many_pairs.ensures, value_bytes-pairs_of-le)
