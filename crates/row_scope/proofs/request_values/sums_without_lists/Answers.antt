use Rattle.std.proofs.Common.{[], ◌∙◌}
use Rattle.row_scope.proofs.request_values.sums_without_lists.Goals as goal

pub returns-clause-bytes : goal.returns-clause-bytes
returns-clause-bytes c =
    let sums = c.sums.ensures in
    sums.all_bytes ∙ c.sums_by_values.ensures.bytes [] sums.reordered c.args.request.now.pairs sums.same

pub returns-clause-members : goal.returns-clause-members
returns-clause-members c =
    let sums = c.sums.ensures in
    sums.all_members ∙ c.sums_by_values.ensures.members [] sums.reordered c.args.request.now.pairs sums.same
