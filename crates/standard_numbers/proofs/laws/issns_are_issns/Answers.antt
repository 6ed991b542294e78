use Rattle.standard_numbers.proofs.Found.{issns_are}
use Rattle.standard_numbers.proofs.laws.issns_are_issns.Goals as goal

pub returns : goal.returns
returns c = issns_are
