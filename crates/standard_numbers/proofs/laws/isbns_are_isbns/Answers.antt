use Rattle.standard_numbers.proofs.Found.{isbns_are}
use Rattle.standard_numbers.proofs.laws.isbns_are_isbns.Goals as goal

pub returns : goal.returns
returns c = isbns_are
