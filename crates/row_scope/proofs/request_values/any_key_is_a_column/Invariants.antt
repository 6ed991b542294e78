use Rattle.std.proofs.Common.{◌≡◌, false, take}
use Rattle.row_scope.specs.RequestValues.{has_key_among}
use Rattle.row_scope.proofs.request_values.any_key_is_a_column.Given as goal

-- none of the keys so far is the name of a column
abbrev pub invariant-loop-index : goal.invariant-loop-index
invariant-loop-index l = has_key_among l.columns.names (take l.index l.request.pairs) ≡ false
