use Rattle.std.proofs.Common.{◌≡◌, [], ◌∷◌, Some, ap, ◌∙◌, refl, arith}
use Rattle.std.proofs.lemmas.Option.{slice_get-get_or}
use Rattle.target_vars.specs.Private.NamesValue.{branch_at}
use Rattle.target_vars.specs.declared.names.forks.Branch.TheVariants.{Further, Ends}
use Rattle.target_vars.proofs.NewForks.{gap_branch}
use Rattle.target_vars.proofs.names.forks.search.Goals as goal

pub loop-next-smaller : goal.loop-next-smaller
loop-next-smaller c =
    let forks = c.args.forks.now in
    let at = c.loop-next.at in
    let further : branch_at forks c.args.name.now at ≡ Some (Further c.in_Further-next.next) =
    grind (arith, slice_get-get_or, c.loop-next.invariant.within, c.branch-next.ensures, c.in_Further-next.is) in
    let is = c.requires.forward c.args.name.now at (Further c.in_Further-next.next) further in
    omega arith

pub loop-next-preserved : goal.loop-next-preserved
loop-next-preserved c =
    let forks = c.args.forks.now in
    let at = c.loop-next.at in
    let further : branch_at forks c.args.name.now at ≡ Some (Further c.in_Further-next.next) =
    gap_branch forks c.args.name.now at _ c.branch-next.result (slice_get-get_or forks at _ c.loop-next.invariant.within) c.branch-next.ensures
    ∙ ap Some c.in_Further-next.is in
    let is = c.requires.forward c.args.name.now at (Further c.in_Further-next.next) further in
    record { within = is.1; whole = λ path last number passes. c.loop-next.invariant.whole (c.in_Further-next.next ∷ path) last number (further, passes) }

pub returns-in_Ends-next-clause-leads : goal.returns-in_Ends-next-clause-leads
returns-in_Ends-next-clause-leads c =
    let forks = c.args.forks.now in
    let at = c.loop-next.at in
    let ends : branch_at forks c.args.name.now at ≡ Some (Ends c.in_Ends-next.number) =
    grind (arith, gap_branch, slice_get-get_or, c.branch-next.ensures, c.in_Ends-next.is) in
    c.loop-next.invariant.whole [] at c.in_Ends-next.number (refl, ends)

pub returns-in_Ends-next-clause-known : goal.returns-in_Ends-next-clause-known
returns-in_Ends-next-clause-known c =
    let forks = c.args.forks.now in
    let at = c.loop-next.at in
    let ends : branch_at forks c.args.name.now at ≡ Some (Ends c.in_Ends-next.number) =
    gap_branch forks c.args.name.now at _ c.branch-next.result (slice_get-get_or forks at _ c.loop-next.invariant.within) c.branch-next.ensures
    ∙ ap Some c.in_Ends-next.is in
    c.requires.forward c.args.name.now at (Ends c.in_Ends-next.number) ends
