use Rattle.std.proofs.Common.{ℕ, ◌<◌, subst, refl, arith, get_or, length, length-set, ◌∙◌}
use Rattle.std.proofs.lemmas.List.{get_or_default}
use Rattle.verified_runs.specs.RunValue.{RunValue}
use Rattle.interleaved_runs.specs.Turns.{IsMoved}
use Rattle.interleaved_runs.proofs.TurnLemmas.{played_next}
use Rattle.interleaved_runs.proofs.turns.play.Goals as goal

pub loop-turn-preserved : goal.loop-turn-preserved
loop-turn-preserved g c =
    let inv = c.loop-turn.invariant in
    let old = c.args.runs.now in
    let runs = c.loop-turn.runs in
    let at = c.loop-turn.turn-index in
    let turn : ℕ × ℕ = get_or c.args.turns.now at (0, 0) in
    let new = c.advance.new.self in
    let ens = c.advance.ensures in
    let more : at < length c.args.turns.now = c.loop-turn-test.true in
    let within : turn.0 < length old = c.requires at (0, 0) more in
    let inside : turn.0 < length runs = omega (arith, within, inv.count) in
    let here : (d : RunValue) → IsMoved (get_or runs turn.0 d) turn.1 new =
    λ d. subst (λ r. IsMoved r turn.1 new) (get_or_default runs turn.0 c.index-runs-turn.result d inside)
    (record { code = ens.code; env = ens.env; moved = ens.moved; in_time = ens.in_time; steps = ens.steps }) in
    record {
      count = length-set runs turn.0 new ∙ inv.count;
      played = played_next old runs turn.0 turn.1 new c.args.turns.now at (0, 0) more refl inside here inv.played;
    }
