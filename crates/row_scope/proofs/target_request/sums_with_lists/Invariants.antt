use Rattle.std.proofs.Common.{◌≡◌, take}
use Rattle.environment_model.specs.Environment.{byte_count, member_count}
use Rattle.row_laws.specs.Shadowing.{requested}
use Rattle.row_scope.specs.NameColumns.{names_at}
use Rattle.row_scope.proofs.target_request.sums_with_lists.Given as goal

-- E and M if the lists so far are declared
abbrev pub invariant-loop-number : goal.invariant-loop-number
invariant-loop-number l = record {
  bytes : l.bytes ≡ byte_count (requested (names_at l.code (take l.number-index l.lists)) l.request.pairs);
  members : l.members ≡ member_count (requested (names_at l.code (take l.number-index l.lists)) l.request.pairs);
}
