use Rattle.kbart_rows.specs.Identifiers.{ids_of}
use Rattle.kbart_rows.proofs.RowOrder.{all_from_start, first_and_rest, matching_rows_rise, none_from}
use Rattle.registry.specs.Entries.{matching_rows_of}
use Rattle.registry.proofs.laws.matching_rows_rise.Goals as goal

pub returns-clause-start : goal.returns-clause-start
returns-clause-start c = λ target pairs. all_from_start (matching_rows_of target pairs)

pub returns-clause-no_more : goal.returns-clause-no_more
returns-clause-no_more c = λ target pairs from none. none_from from (matching_rows_of target pairs) none

pub returns-clause-next : goal.returns-clause-next
returns-clause-next c = λ target pairs from row found.
    first_and_rest from row (matching_rows_of target pairs) (matching_rows_rise target.table (ids_of pairs)) found
