use Rattle.std.proofs.Common.{◌≡◌, ◌+◌, ◌<◌, ◌≤◌, subst, arith, true, false, count_by, get_or, take}
use Rattle.std.specs.Prelude.{slice_set, length}
use Rattle.std.proofs.lemmas.Grind.{common_steps}
use Rattle.std.proofs.lemmas.List.{get_or_default}
use Rattle.verified_runs.specs.RunValue.{RunValue, HasEnded}
use Rattle.interleaved_runs.specs.Turns.{IsMoved, is_live}
use Rattle.interleaved_runs.proofs.TurnLemmas.{ended_is_over, others_go_on, moved_next, others_next, live_next}
use Rattle.interleaved_runs.proofs.turns.turn_all.Goals as goal
use Rattle.interleaved_runs.proofs.turns.turn_all.Goals.{then-not-advance, else-not-advance}

pub loop-run-preserved : goal.loop-run-preserved
loop-run-preserved g c =
    let inv = c.loop-run.invariant in
    let old = c.args.runs.now in
    let runs = c.loop-run.runs in
    let p = c.loop-run.run-index in
    let new = c.advance.new.self in
    let ens = c.advance.ensures in
    let within : p < length old = c.loop-run-test.true in
    let inside : p < length runs = omega (arith, within, c.loop-run.auto.runs) in
    let here : (d : RunValue) → IsMoved (get_or runs p d) c.args.n new =
    λ d. subst (λ r. IsMoved r c.args.n new) (get_or_default runs p c.run-item.result d inside)
    (record { code = ens.code; env = ens.env; moved = ens.moved; in_time = ens.in_time; steps = ens.steps }) in
    let counted : (c.if-not-advance.live ≡ count_by is_live (take (p + 1) (slice_set runs p new))) × (c.if-not-advance.live ≤ p + 1) =
    elim c.if-not-advance.branch [
      | then-not-advance w ↦
          let going : HasEnded new → ⊥ = λ h. let over = ens.ended.1 h in grind (arith, common_steps, over) in
          let live = live_next old runs p c.args.n new true inside (others_go_on c.states_after_steps_are_decided.ensures new going) in
          (omega (arith, w.live-is, inv.live, live), omega (arith, w.live-is, inv.few))
      | else-not-advance w ↦
          let over : c.advance.result ≡ true = grind (arith, common_steps) in
          let live = live_next old runs p c.args.n new false inside (ended_is_over c.states_after_steps_are_decided.ensures new (ens.ended.0 over)) in
          (omega (arith, w.live-is, inv.live, live), omega (arith, w.live-is, inv.few))
    ] in
    record {
      moved = moved_next old runs p c.args.n new inside here inv.moved inv.others;
      others = others_next old runs p c.args.n new inv.others;
      live = counted.0;
      few = counted.1;
    }
