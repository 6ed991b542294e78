-- One more name, unless it came before.
use Rattle.std.proofs.Common.{sym, ◌∙◌, ap}
use Rattle.rule_parser.proofs.NameLemmas.{lists_more, lists_same}
use Rattle.rule_parser.proofs.rules.Rules.lists.Goals as goal
use Rattle.rule_parser.proofs.rules.Rules.lists.Goals.{then-not-contains+in_ok-push, else-not-contains}

pub loop-list-preserved : goal.loop-list-preserved
loop-list-preserved c =
    elim c.if-not-contains.branch [
      | then-not-contains+in_ok-push w ↦
          lists_more c.loop-list.lists.items c.if-not-contains.lists.items c.deref-list-items.result.now c.loop-list.list-index c.list-item.result
          c.as_str-name.result c.loop-list-test.true c.list-item.is c.as_str-name.ensures c.loop-list.invariant
          (rw c.deref.ensures.value at (sym c.contains.ensures.value ∙ w.if-not-contains.true)) (ap (λ v. v.items) w.lists-is ∙ w.in_ok-push.ensures.items)
      | else-not-contains w ↦
          lists_same c.loop-list.lists.items c.if-not-contains.lists.items c.deref-list-items.result.now c.loop-list.list-index c.list-item.result
          c.as_str-name.result c.loop-list-test.true c.list-item.is c.as_str-name.ensures c.loop-list.invariant
          (rw c.deref.ensures.value at (sym c.contains.ensures.value ∙ w.if-not-contains.false)) (ap (λ v. v.items) w.lists-is)
    ]
