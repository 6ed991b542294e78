use Rattle.std.proofs.Common.{◌≡◌, suc, ◌*◌, ◌<◌, ◌≤◌, subst, sym, ap, ◌∙◌, arith}
use Rattle.interleaved_runs.specs.StepLists.{ends_of, HasSeenSome, step_lists_in, step_lists_to_end, steps_of, with_list, with_lists}
use Rattle.interleaved_runs.specs.Private.Rounds.{AreOfTheSame}
use Rattle.interleaved_runs.proofs.TurnsOfAll.{all_after, at_start, all_live, next_turn, still_left}
use Rattle.interleaved_runs.proofs.TurnsOfAll.{all_done, fewer_left, same_runs, nothing_observed, observed_at_first}
use Rattle.interleaved_runs.proofs.TurnsOfAll.{observed_next, turns_at_start, turns_of}
use Rattle.interleaved_runs.proofs.StepListLemmas.{on_err}
use Rattle.interleaved_runs.proofs.rounds.turn_until_ended.Goals as goal

pub loop-live-init : goal.loop-live-init
loop-live-init g c =
    let runs = c.args.runs.now in
    (0, at_start runs c.requires, omega arith, all_live runs c.requires, nothing_observed (g.W.Watch.lists c.args.watch.now) (ends_of runs))

pub loop-live-smaller : goal.loop-live-smaller
loop-live-smaller g c =
    let inv = c.loop-live.invariant in
    let runs = c.args.runs.now in
    let more : inv.0 < turns_of runs = still_left c.states_after_steps_are_decided.ensures c.run_ends_once.ensures inv.0 runs c.loop-live.runs c.loop-live.live
    c.requires inv.1 inv.3 c.loop-live-test.true in
    let is = next_turn inv.0 runs c.loop-live.runs c.turn_all-live.new.runs c.requires inv.1 c.turn_all-live.ensures.count c.turn_all-live.ensures.moved in
    fewer_left inv.0 runs c.loop-live.runs c.turn_all-live.new.runs c.requires inv.1 is more

pub loop-live-preserved : goal.loop-live-preserved
loop-live-preserved g c =
    let inv = c.loop-live.invariant in
    let runs = c.args.runs.now in
    let told = g.W.Watch.lists c.args.watch.now in
    let before = g.W.Watch.lists c.loop-live.watch in
    let after = g.W.Watch.lists c.seen.new.self in
    let more : inv.0 < turns_of runs = still_left c.states_after_steps_are_decided.ensures c.run_ends_once.ensures inv.0 runs c.loop-live.runs c.loop-live.live
    c.requires inv.1 inv.3 c.loop-live-test.true in
    let is = next_turn inv.0 runs c.loop-live.runs c.turn_all-live.new.runs c.requires inv.1 c.turn_all-live.ensures.count c.turn_all-live.ensures.moved in
    let seen : after ≡ with_list before (steps_of (all_after (64 * suc inv.0) runs)) = c.in_ok-seen.ensures.ok ∙ ap (λ rs. with_list before (steps_of rs)) is in
    (suc inv.0, is, omega (arith, more), c.turn_all-live.ensures.live, observed_next told before after inv.0 runs inv.4 seen)

pub returns-in_err-seen-clause-same : goal.returns-in_err-seen-clause-same
returns-in_err-seen-clause-same g c =
    let inv = c.loop-live.invariant in
    let runs = c.args.runs.now in
    let is = next_turn inv.0 runs c.loop-live.runs c.turn_all-live.new.runs c.requires inv.1 c.turn_all-live.ensures.count c.turn_all-live.ensures.moved in
    subst (λ rs. AreOfTheSame runs rs) (sym is) (same_runs (64 * suc inv.0) runs)

pub returns-in_err-seen-clause-err : goal.returns-in_err-seen-clause-err
returns-in_err-seen-clause-err g c =
    let inv = c.loop-live.invariant in
    let runs = c.args.runs.now in
    let told = g.W.Watch.lists c.args.watch.now in
    let after = g.W.Watch.lists c.seen.new.self in
    let few = subst (λ n. inv.0 ≤ n) (turns_at_start runs c.requires) inv.2 in
    on_err c.from_residual.result (HasSeenSome (step_lists_to_end (ends_of runs)) told after)
    (observed_at_first inv.0 (ends_of runs) told after few (c.in_err-seen.ensures.err ∙ inv.4))

pub returns-clause-same : goal.returns-clause-same
returns-clause-same g c =
    let inv = c.loop-live.invariant in
    let runs = c.args.runs.now in
    subst (λ rs. AreOfTheSame runs rs) (sym inv.1) (same_runs (64 * inv.0) runs)

pub returns-clause-ok : goal.returns-clause-ok
returns-clause-ok g c =
    let inv = c.loop-live.invariant in
    let runs = c.args.runs.now in
    let told = g.W.Watch.lists c.args.watch.now in
    let all : inv.0 ≡ turns_of runs = all_done c.states_after_steps_are_decided.ensures c.run_ends_once.ensures inv.0 runs c.loop-live.runs c.loop-live.live
    c.requires inv.1 inv.3 c.loop-live-test.false inv.2 in
    inv.4 ∙ ap (λ t. with_lists told (step_lists_in t (ends_of runs))) (all ∙ turns_at_start runs c.requires)
