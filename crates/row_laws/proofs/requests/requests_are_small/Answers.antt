use Rattle.std.proofs.Common.{[], arith}
use Rattle.kev_read.proofs.FillingLemmas.{filled_bytes, filled_members}
use Rattle.row_laws.proofs.requests.requests_are_small.Goals as goal

pub returns-clause-bytes : goal.returns-clause-bytes
returns-clause-bytes c = λ lists pairs. omega (arith, filled_bytes lists [] pairs)

pub returns-clause-members : goal.returns-clause-members
returns-clause-members c = λ lists pairs. omega (arith, filled_members lists [] pairs)
