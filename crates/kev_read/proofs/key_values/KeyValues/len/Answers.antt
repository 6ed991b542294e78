use Rattle.std.proofs.Common.{arith}
use Rattle.kev_read.proofs.KeySpans.{few_spans}
use Rattle.kev_read.proofs.key_values.KeyValues.len.Goals as goal

pub returns-clause-few : goal.returns-clause-few
returns-clause-few c = omega (arith, c.len.ensures, few_spans _ _ _ _ c.self.invariant)
