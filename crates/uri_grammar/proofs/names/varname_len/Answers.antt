use Rattle.std.proofs.Common.{◌<◌, arith, subst, sym, take, drop, take-append-drop}
use Rattle.uri_grammar.proofs.NameLemmas.{ended_varname, IsVarname-front, IsVarname-more}
use Rattle.uri_grammar.proofs.names.varname_len.Goals as goal

pub loop-more-init : goal.loop-more-init
loop-more-init c =
    let some : 0 < c.varchar_len-len.result = omega (arith, c.if-len-eq0.false) in
    record {
      within = omega (arith, c.next_len-more.ensures.within, c.split_at.ensures.back_len);
      some = some;
      name = rw c.varchar_len-len.ensures.value (IsVarname-front c.args.text.now (subst (λ n. 0 < n) c.varchar_len-len.ensures.value some));
      next = rw c.split_at.ensures.back at c.next_len-more.ensures.value;
    }

pub loop-more-preserved : goal.loop-more-preserved
loop-more-preserved c = record {
  within = omega (arith, c.next_len-more-in-loop-more.ensures.within, c.split_at-in-loop-more.ensures.back_len);
  some = omega arith;
  name = IsVarname-more c.args.text.now c.loop-more.len c.loop-more.more c.loop-more.invariant.name c.loop-more.invariant.next c.loop-more-test.true;
  next = rw c.split_at-in-loop-more.ensures.back at c.next_len-more-in-loop-more.ensures.value;
}

pub returns-clause-varname : goal.returns-clause-varname
returns-clause-varname c = λ _.
    ended_varname c.args.text.now (take c.loop-more.len c.args.text.now) (drop c.loop-more.len c.args.text.now)
    (sym (take-append-drop c.loop-more.len c.args.text.now)) c.loop-more.invariant.name (omega (arith, c.loop-more.invariant.next, c.loop-more-test.false))
