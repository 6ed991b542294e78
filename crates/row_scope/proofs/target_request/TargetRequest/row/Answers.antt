use Rattle.std.proofs.Common.{arith}
use Rattle.std.proofs.lemmas.Grind.{common_steps}
use Rattle.row_scope.proofs.target_request.TargetRequest.row.Goals as goal

pub overflow_add-bytes : goal.overflow_add-bytes
overflow_add-bytes c = grind (arith, common_steps)

pub new-requires : goal.new-requires
new-requires c = grind (arith, common_steps)
