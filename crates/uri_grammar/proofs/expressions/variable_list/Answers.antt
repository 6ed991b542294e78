use Rattle.std.proofs.Common.{arith}
use Rattle.uri_grammar.proofs.SpecLemmas.{specs_step, specs_fault}
use Rattle.uri_grammar.proofs.expressions.variable_list.Goals as goal

pub returns-in-Err-clause-err : goal.returns-in-Err-clause-err
returns-in-Err-clause-err c =
    rw c.after.ensures (specs_fault c.args.list.now c.split_at.result.1.now c.split_at-in-loop-done.result.0.now c.loop-done.done c.piece_len-len.result
    c.loop-done.specs.items c.in-Err.e c.loop-done-test.true c.split_at.ensures.back c.split_at-in-loop-done.ensures.front c.piece_len-len.ensures.lacks
    c.piece_len-len.ensures.cut c.loop-done.invariant.spelled c.in-Err.ensures.err)

pub loop-done-preserved : goal.loop-done-preserved
loop-done-preserved c = record {
  within = omega (arith, c.piece_len-len.ensures.within, c.split_at.ensures.back_len);
  spelled = rw c.in_ok-push-in-Ok.ensures.items (specs_step c.args.list.now c.split_at.result.1.now c.split_at-in-loop-done.result.0.now c.loop-done.done
      c.piece_len-len.result c.loop-done.specs.items c.in-Ok.spec c.loop-done-test.true c.split_at.ensures.back c.split_at-in-loop-done.ensures.front
      c.piece_len-len.ensures.within c.piece_len-len.ensures.lacks c.piece_len-len.ensures.cut c.in-Ok.ensures.ok c.loop-done.invariant.spelled);
}
