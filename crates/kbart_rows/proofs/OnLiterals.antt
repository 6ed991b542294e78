-- Computing with literals.
use Rattle.std.specs.Prelude.{⊤}
use Rattle.csv.proofs.OnLiterals.{csv_on_literals}
use Rattle.kev_read.proofs.OnLiterals.{kev_read_on_literals}
use Rattle.kbart_rows.specs.Lines.{cells_in}

-- what is unfolded to compute this crate's definitions on literals
unfoldable pub kbart_rows_on_literals : ⊤
unfolding csv_on_literals kev_read_on_literals cells_in
kbart_rows_on_literals = tt
