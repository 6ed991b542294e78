use Rattle.std.proofs.Common.{◌≡◌, true, false, ap, subst, sym, ◌∙◌}
use Rattle.std.specs.Str.{bytes_eq}
use Rattle.kev_read.specs.Pairs.{has_key}
use Rattle.openurl_reading.proofs.Walks.{all_pushed, all_kept}
use Rattle.openurl_reading.proofs.pairs.Pairs.all.Goals as goal
use Rattle.openurl_reading.proofs.pairs.Pairs.all.Goals.{then-eq+in_ok-push, else-eq}

pub loop-pair-preserved : goal.loop-pair-preserved
loop-pair-preserved c =
    let key = c.args.key.now in
    let pairs = c.deref-pair-items.result.now in
    let i = c.loop-pair.pair-index in
    let item = c.pair-item.result in
    let values = c.loop-pair.values.items in
    let test = ap (λ k. bytes_eq k key) (sym c.key.ensures) ∙ sym c.eq.ensures in
    elim c.if-eq.branch [
      | then-eq+in_ok-push w ↦
          all_pushed pairs key i item values c.if-eq.values.items w.value.result c.loop-pair-test.true
          (subst (λ p. has_key key p ≡ true) c.pair-item.is (test ∙ w.if-eq.true)) (rw w.values-is w.in_ok-push.ensures.items)
          (w.value.ensures ∙ ap (λ p. p.value) c.pair-item.is) c.loop-pair.invariant
      | else-eq w ↦
          rw w.values-is (all_kept pairs key i item values c.loop-pair-test.true
          (subst (λ p. has_key key p ≡ false) c.pair-item.is (test ∙ w.if-eq.false)) c.loop-pair.invariant)
    ]
