use Rattle.std.proofs.Common.{◌≡◌, ◌+◌, ◌<◌, ℕ, List, Bool, cond, get_or, take, refl, sym, ap, subst, ◌∙◌, arith, slice_set}
use Rattle.std.proofs.lemmas.List.{length-set}
use Rattle.std.specs.Prelude.{slice_index}
use Rattle.text_model.specs.Texts.{Text}
use Rattle.work_identifiers.specs.Ends as spec
use Rattle.work_identifiers.proofs.EndSteps.{AreCounts, none_counted, counted_more, count_within, loose_by_counts, cut_next}
use Rattle.work_identifiers.proofs.ends.to_end.Goals as goal
use Rattle.work_identifiers.proofs.ends.to_end.Goals.{then-not-is_loose, else-not-is_loose}

pub loop-at-init : goal.loop-at-init
loop-at-init c = record { counts = none_counted; end = refl; size = refl; within = omega arith }

pub overflow_add-counts : goal.overflow_add-counts
overflow_add-counts c =
    let few = count_within c.loop-at.counts c.args.text.now c.loop-at.at c.from.result c.loop-at.invariant.counts
    (omega (arith, c.from.ensures, c.type_inv.text c.loop-at.at)) (omega (arith, c.loop-at-test.true)) in
    omega (arith, few, c.loop-at-test.true)

pub loop-at-preserved : goal.loop-at-preserved
loop-at-preserved c = record {
  counts = counted;
  end = elim c.if-not-is_loose.branch [
    | then-not-is_loose w ↦ ap (λ n. take n text) w.end-is ∙ sym (cut (sym loose ∙ w.if-not-is_loose.true))
    | else-not-is_loose w ↦ ap (λ n. take n text) w.end-is ∙ c.loop-at.invariant.end ∙ sym (cut (sym loose ∙ w.if-not-is_loose.false))
  ];
  size = length-set c.loop-at.counts c.from.result (slice_index c.loop-at.counts c.from.result + 1) ∙ c.loop-at.invariant.size;
  within = elim c.if-not-is_loose.branch [
    | then-not-is_loose w ↦ omega (arith, w.end-is)
    | else-not-is_loose w ↦ omega (arith, w.end-is, c.loop-at.invariant.within)
  ];
}
  where
    text : Text
    text = c.args.text.now

    at : ℕ
    at = c.loop-at.at

    more : ℕ → List ℕ
    more x = slice_set c.loop-at.counts x (slice_index c.loop-at.counts x + 1)

    byte : get_or text at 0 < 256
    byte = omega (arith, c.type_inv.text at)

    counted : AreCounts (more c.from.result) (take (at + 1) text)
    counted =
        subst (λ x. AreCounts (more x) (take (at + 1) text)) (sym c.from.ensures)
        (counted_more c.loop-at.counts text at c.loop-at-test.true c.loop-at.invariant.size byte c.loop-at.invariant.counts)

    loose : c.is_loose.result ≡ spec.ends_loosely (take (at + 1) text)
    loose = c.is_loose.ensures ∙ loose_by_counts (more c.from.result) text at c.loop-at-test.true byte counted

    cut : {b : Bool} → spec.ends_loosely (take (at + 1) text) ≡ b → spec.cut_at (at + 1) text ≡ cond b (spec.cut_at at text) (take (at + 1) text)
    cut e = cut_next text at ∙ ap (λ b. cond b (spec.cut_at at text) (take (at + 1) text)) e

pub returns : goal.returns
returns c =
    c.split_at.ensures.front ∙ c.loop-at.invariant.end
    ∙ ap (λ n. spec.cut_at n c.args.text.now) (omega (arith, c.loop-at-test.false, c.loop-at.auto.at-end))
