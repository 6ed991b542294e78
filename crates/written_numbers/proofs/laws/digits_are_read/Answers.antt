use Rattle.written_numbers.proofs.NumberLaws.{arabic_read, persian_read, devanagari_read}
use Rattle.written_numbers.proofs.laws.digits_are_read.Goals as goal

pub returns-clause-arabic : goal.returns-clause-arabic
returns-clause-arabic c = arabic_read

pub returns-clause-persian : goal.returns-clause-persian
returns-clause-persian c = persian_read

pub returns-clause-devanagari : goal.returns-clause-devanagari
returns-clause-devanagari c = devanagari_read
