use Rattle.row_scope.proofs.NumberLemmas.{kept}
use Rattle.row_scope.proofs.name_numbers.numbers_of.Goals as goal

pub returns-else-is_err-clause-kept : goal.returns-else-is_err-clause-kept
returns-else-is_err-clause-kept c = kept c.args.numbered.now.names c.each_number-numbers.new.numbered.names c.each_number-numbers.ensures.after
