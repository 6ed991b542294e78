use Rattle.std.proofs.Common.{◌≡◌, ap, sym, ◌∙◌, subst, map, length, arith}
use Rattle.std.specs.Prelude.{IfOk}
use Rattle.std.specs.List.{zip}
use Rattle.std.proofs.lemmas.Grind.{common_steps}
use Rattle.interleaved_runs.specs.Fates.{fate_value}
use Rattle.interleaved_runs.specs.Private.Rounds.{AreOfTheSame}
use Rattle.interleaved_runs.specs.StepLists.{HasSeenSome, step_lists_of}
use Rattle.interleaved_runs.proofs.FateLemmas.{fates_after_turns, runs_after_turns}
use Rattle.interleaved_runs.proofs.StepListLemmas.{nothing_seen, on_err}
use Rattle.interleaved_runs.proofs.rounds.round_over.Goals as goal

pub returns-in_err-run_set-clause-err : goal.returns-in_err-run_set-clause-err
returns-in_err-run_set-clause-err g c =
    let lists = step_lists_of (zip (map (λ code. code.now) c.args.codes.now) (map g.E.Scope.environment c.args.envs.now)) in
    let told = g.W.Watch.lists c.args.watch.now in
    on_err c.from_residual.result (HasSeenSome lists told told) (nothing_seen lists told)

pub finish_all-requires : goal.finish_all-requires
finish_all-requires g c =
    let pairs = zip (map (λ code. code.now) c.args.codes.now) (map g.E.Scope.environment c.args.envs.now) in
    let run_set = c.in_ok-run_set.run_set in
    let new = c.turn_until_ended.new.runs in
    let same : AreOfTheSame run_set.runs.items new = cc (c.turn_until_ended.ensures.same, c.as_mut_slice.ensures.value) in
    let long = sym (ap length c.as_mut_slice.ensures.value) ∙ c.as_mut_slice.ensures.len in
    let initial = c.in_ok-run_set.ensures in
    runs_after_turns pairs run_set.over_budget.items run_set.runs.items new run_set.runs.len initial.excesses initial.runs long same

pub returns-clause-fates : goal.returns-clause-fates
returns-clause-fates g c =
    let pairs = zip (map (λ code. code.now) c.args.codes.now) (map g.E.Scope.environment c.args.envs.now) in
    let run_set = c.in_ok-run_set.run_set in
    let new = c.turn_until_ended.new.runs in
    let same : AreOfTheSame run_set.runs.items new = cc (c.turn_until_ended.ensures.same, c.as_mut_slice.ensures.value) in
    let long = sym (ap length c.as_mut_slice.ensures.value) ∙ c.as_mut_slice.ensures.len in
    let initial = c.in_ok-run_set.ensures in
    subst (λ all. IfOk c.finish_all.result (λ fates. map fate_value fates.items ≡ all))
    (fates_after_turns pairs run_set.over_budget.items run_set.runs.items new run_set.runs.len initial.excesses initial.runs long same)
    c.finish_all.ensures

pub returns-clause-err : goal.returns-clause-err
returns-clause-err g c = grind (arith, common_steps)
