use Rattle.std.proofs.Common.{◌≡◌, drop, arith}
use Rattle.std.proofs.lemmas.Grind.{common_steps}
use Rattle.uri_text.specs.Private.Items.{item_length}
use Rattle.uri_text.proofs.FirstItems.{next_item, all_taken}
use Rattle.uri_text.proofs.items.cut.Goals as goal
use Rattle.uri_text.proofs.items.cut.Goals.{then-loop-left-test+else-end-text, else-loop-left-test}

pub loop-left-preserved : goal.loop-left-preserved
loop-left-preserved c =
    record {
      within = omega (arith, c.item_len-end.ensures.within, c.split_at.ensures.back_len);
      taken = grind (arith, c.loop-left.invariant.taken, next_item, c.if-end-text.true, c.loop-left-test.true);
    }

pub returns-clause-items : goal.returns-clause-items
returns-clause-items c =
    elim c.loop-left-test.branch [
      | then-loop-left-test+else-end-text w ↦ grind (arith, c.loop-left.invariant.taken, all_taken)
      | else-loop-left-test w ↦ grind (arith, c.loop-left.invariant.taken, all_taken)
    ]
