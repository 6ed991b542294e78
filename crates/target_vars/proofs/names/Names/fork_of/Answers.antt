use Rattle.std.proofs.Common.{arith, ◌≡◌, ◌≤◌, length, Some, ap, ◌∙◌, subst}
use Rattle.std.proofs.lemmas.Grind.{common_steps}
use Rattle.target_vars.specs.Private.NamesValue.{NamesValue, branch_at}
use Rattle.target_vars.specs.declared.names.forks.Branch.TheVariants.{Further, Ends}
use Rattle.target_vars.proofs.NewForks.{first_separates, fork_read, each_fork, gap_branch, no_further, gap_known, another, between_separates}
use Rattle.target_vars.proofs.names.Names.fork_of.Goals as goal

pub returns-in_default : goal.returns-in_default
returns-in_default c =
    let past : length c.args.self.now.forks ≤ c.args.gap = grind (arith, common_steps) in
    first_separates c.args.self.now c.args.name.now c.args.gap c.of_first.result c.requires past c.of_first.ensures

pub between-requires : goal.between-requires
between-requires c = λ same.
    let v = c.args.self.now in
    let name = c.args.name.now in
    let read = c.in-Some.ensures.lookup in
    let there = fork_read v c.deref.result.now c.args.gap c.in-Some.last.now (c.deref.ensures.value ∙ ap (λ (x : NamesValue). x.forks) c.self.view_is) read.3.0
    read.1 in
    let ends : branch_at v.forks name c.args.gap ≡ Some (Ends c.in_Ends-number.number) = grind (arith, common_steps) in
    let each : length v.listed ≡ length v.forks = grind (arith, common_steps) in
    another v name c.args.gap c.in_Ends-number.number c.requires (gap_known v name c.args.gap c.in_Ends-number.number each c.requires ends)
    (same ∙ c.get-in_Ends-number.ensures)

pub unreachable-requires : goal.unreachable-requires
unreachable-requires c =
    let v = c.args.self.now in
    let name = c.args.name.now in
    let read = c.in-Some.ensures.lookup in
    let there = fork_read v c.deref.result.now c.args.gap c.in-Some.last.now (c.deref.ensures.value ∙ ap (λ (x : NamesValue). x.forks) c.self.view_is) read.3.0
    read.1 in
    let further : branch_at v.forks name c.args.gap ≡ Some (Further c.in_Further-number.field-0) = grind (arith, common_steps) in
    let each : length v.listed ≡ length v.forks = grind (arith, each_fork, c.self.invariant) in
    no_further v name c.args.gap c.in_Further-number.field-0 each c.requires further

pub returns : goal.returns
returns c =
    let v = c.args.self.now in
    let name = c.args.name.now in
    let read = c.in-Some.ensures.lookup in
    let there = fork_read v c.deref.result.now c.args.gap c.in-Some.last.now (c.deref.ensures.value ∙ ap (λ (x : NamesValue). x.forks) c.self.view_is) read.3.0
    read.1 in
    let ends : branch_at v.forks name c.args.gap ≡ Some (Ends c.in_Ends-number.number) =
    gap_branch v.forks name c.args.gap c.in-Some.last.now c.branch-number.result there c.branch-number.ensures ∙ ap Some c.in_Ends-number.is in
    let each : length v.listed ≡ length v.forks =
    subst (λ (x : NamesValue). length x.listed ≡ length x.forks) c.self.view_is
    (each_fork c.self.inside.bytes.items c.self.inside.places.items c.self.inside.forks.items c.self.invariant) in
    between_separates v name c.get-in_Ends-number.result.now c.args.gap c.in_Ends-number.number c.len.result c.between.result each c.requires ends
    c.len.ensures c.get-in_Ends-number.ensures c.between.ensures.own c.between.ensures.other c.between.ensures.ends
