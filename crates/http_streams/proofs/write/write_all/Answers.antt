use Rattle.std.proofs.Common.{arith, length-drop}
use Rattle.std.proofs.lemmas.List.{take_rest}
use Rattle.http_streams.proofs.StreamLemmas.{Sends-none, Sends-take}
use Rattle.http_streams.proofs.write.write_all.Goals as goal

pub loop-sent-init : goal.loop-sent-init
loop-sent-init g c = record {
  within = omega arith;
  output_state = Sends-none (g.O.Output.output_state c.args.output.now);
}

pub loop-sent-preserved : goal.loop-sent-preserved
loop-sent-preserved g c =
    let rest = take_rest c.args.bytes.now c.loop-sent.sent in
    let within = rw rest at c.in-Ok.ensures.within in
    let written = rw rest at c.in-Ok.ensures.written in
    record {
      within = omega (arith, within, length-drop c.loop-sent.sent c.args.bytes.now);
      output_state = Sends-take _ _ _ _ _ _ c.loop-sent.invariant.output_state written;
    }
