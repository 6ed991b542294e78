use Rattle.std.proofs.Common.{◌<◌, ℕ, All, length, subst, sym}
use Rattle.kbart_rows.proofs.RowOrder.{matching_rows_within}
use Rattle.kbart_rows.proofs.table.Table.matches.Goals as goal

pub returns-clause-within : goal.returns-clause-within
returns-clause-within c = subst (All (λ (row : ℕ). row < length c.args.self.now.rows)) (sym c.new.ensures) (matching_rows_within c.args.self.now c.args.ids.now)
