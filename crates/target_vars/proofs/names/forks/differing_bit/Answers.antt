use Rattle.std.proofs.Common.{rules, ◌≡◌, sym, ◌∙◌, arith, ◌<◌, ◌^◌}
use Rattle.target_vars.proofs.NewForks.{same_bit}
use Rattle.target_vars.proofs.names.forks.differing_bit.Goals as goal

pub loop-bit-preserved : goal.loop-bit-preserved
loop-bit-preserved c =
    let x : c.args.code < 2 ^ 16 = omega arith in
    let y : c.args.other < 2 ^ 16 = omega arith in
    let same : c.is_set.result ≡ c.is_set-in-loop-bit.result = search rules in
    let more = same_bit c.args.code c.args.other c.loop-bit.bit x y c.loop-bit.invariant.few c.loop-bit.invariant.differ
    (sym c.is_set.ensures ∙ (same ∙ c.is_set-in-loop-bit.ensures)) in
    record { few = more.0; differ = more.1 }
