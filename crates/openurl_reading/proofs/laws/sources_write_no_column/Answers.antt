use Rattle.openurl_reading.specs.Counting.{counting}
use Rattle.openurl_reading.specs.Reading.{normal_form}
use Rattle.openurl_reading.proofs.Free.{free-counting, free-normal_form, no_columns, added_are_derived}
use Rattle.openurl_reading.proofs.laws.sources_write_no_column.Goals as goal

pub returns-clause-columns : goal.returns-clause-columns
returns-clause-columns c pairs = no_columns (normal_form (counting pairs)) (free-normal_form (counting pairs) (free-counting pairs))

pub returns-clause-added : goal.returns-clause-added
returns-clause-added c pairs = added_are_derived (normal_form (counting pairs)) (free-normal_form (counting pairs) (free-counting pairs))
