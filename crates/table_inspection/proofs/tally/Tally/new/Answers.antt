use Rattle.std.proofs.Common.{refl}
use Rattle.table_inspection.specs.Identifiers.{distinct}
use Rattle.table_inspection.proofs.tally.Tally.new.Goals as goal

pub returns-clause-tallied : goal.returns-clause-tallied
unfolding distinct
returns-clause-tallied c = λ number. record { counts = refl; most = c.none.ensures number }
