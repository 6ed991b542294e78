use Rattle.std.proofs.Common.{sym, arith}
use Rattle.std.proofs.lemmas.List.{take_all}
use Rattle.publication_dates.proofs.dates.first_two.Goals as goal

pub returns-else-digits-gt2 : goal.returns-else-digits-gt2
returns-else-digits-gt2 c = sym (take_all 2 c.args.digits.now (omega arith))
