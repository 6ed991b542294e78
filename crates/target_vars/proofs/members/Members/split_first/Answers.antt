use Rattle.std.proofs.Common.{subst}
use Rattle.target_vars.specs.Layout.{IsPieces}
use Rattle.target_vars.proofs.Laid.{after_first}
use Rattle.target_vars.proofs.members.Members.split_first.Goals as goal

pub invariant_of-others : goal.invariant_of-others
invariant_of-others c =
    let b = c.args.self.now.buffer.now in
    record { laid = after_first b c.in_ok-span.span.now c.in_ok-span.after.now (subst (IsPieces b) c.in_ok-span.ensures.cases.0 c.args.self.now.laid) }
