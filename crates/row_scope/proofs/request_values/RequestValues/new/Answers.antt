use Rattle.std.proofs.Common.{◌∙◌, sym}
use Rattle.row_scope.proofs.ColumnLemmas.{no_values}
use Rattle.row_scope.proofs.request_values.RequestValues.new.Goals as goal

pub returns-clause-apart : goal.returns-clause-apart
returns-clause-apart c = λ none. no_values c.args.columns.now.names c.args.request.now.pairs (sym c.names_a_column-meets.ensures ∙ none)
