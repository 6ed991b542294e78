use Rattle.written_numbers.proofs.NumberLaws.{dash_read, space_read, mark_read}
use Rattle.written_numbers.proofs.laws.marks_are_read.Goals as goal

pub returns-clause-dash : goal.returns-clause-dash
returns-clause-dash c = dash_read

pub returns-clause-space : goal.returns-clause-space
returns-clause-space c = space_read

pub returns-clause-mark : goal.returns-clause-mark
returns-clause-mark c = mark_read
