use Rattle.standard_numbers.proofs.Stay.{issn_alone_or_none}
use Rattle.standard_numbers.proofs.laws.issns_are_found_alone.Goals as goal

pub returns : goal.returns
returns c = issn_alone_or_none
