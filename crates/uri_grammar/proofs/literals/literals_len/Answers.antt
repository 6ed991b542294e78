use Rattle.std.proofs.Common.{arith, subst, ◌<◌}
use Rattle.uri_grammar.specs.Literals.{no_literals}
use Rattle.uri_grammar.proofs.LiteralLemmas.{AreLiterals-more}
use Rattle.uri_grammar.proofs.literals.literals_len.Goals as goal

pub loop-more-init : goal.loop-more-init
loop-more-init c = record {
  within = omega arith;
  literals = no_literals;
  first = λ l. subst (λ n. 0 < n) c.literal_item_len-more.ensures.value (omega arith);
  next = c.literal_item_len-more.ensures.value;
}

pub loop-more-preserved : goal.loop-more-preserved
loop-more-preserved c = record {
  within = omega (arith, c.literal_item_len-more-in-loop-more.ensures.within, c.split_at.ensures.back_len);
  literals = AreLiterals-more c.args.text.now c.loop-more.len c.loop-more.more c.loop-more.invariant.literals c.loop-more.invariant.next;
  first = λ _. c.loop-more.invariant.first (omega arith);
  next = rw c.split_at.ensures.back at c.literal_item_len-more-in-loop-more.ensures.value;
}
