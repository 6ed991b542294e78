use Rattle.kbart_rows.specs.Identifiers.{matching_rows}
use Rattle.kbart_rows.proofs.RowOrder.{all_from_start}
use Rattle.kbart_rows.proofs.matches.Matches.new.Goals as goal

pub returns : goal.returns
returns c = all_from_start (matching_rows c.args.table.now c.args.ids.now)
