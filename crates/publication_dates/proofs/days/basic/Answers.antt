use Rattle.std.proofs.Common.{◌≡◌, ℕ, Bool, true, false, [], ◌++◌, ap, sym, ◌∙◌, not, append-nil}
use Rattle.std.specs.Prelude.{◌==◌}
use Rattle.std.proofs.lemmas.Bool.{eq-eqb, ne_eqb}
use Rattle.std.proofs.lemmas.List.{drop_all}
use Rattle.publication_dates.specs.Days.{basic}
use Rattle.publication_dates.specs.Calendar.{hyphen}
use Rattle.publication_dates.proofs.Filtered.{filtered}
use Rattle.publication_dates.proofs.days.basic.Goals as goal
use Rattle.publication_dates.proofs.days.basic.Goals.{then-byte-ne45+in_ok-push, else-byte-ne45}

pub loop-byte-preserved : goal.loop-byte-preserved
loop-byte-preserved c =
    let kept : ℕ → Bool = λ b. not (b == hyphen) in
    let text = c.args.date.now in
    let before = c.loop-byte.digits.items in
    elim c.if-byte-ne45.branch [
      | then-byte-ne45+in_ok-push w ↦
          filtered kept text before _ _ c.loop-byte.byte-index true c.loop-byte-test.true (ap not (ne_eqb _ hyphen w.if-byte-ne45.true))
          (ap (λ v. v.items) w.digits-is ∙ w.in_ok-push.ensures.items) c.loop-byte.invariant
      | else-byte-ne45 w ↦
          filtered kept text before _ _ c.loop-byte.byte-index false c.loop-byte-test.true (ap not (eq-eqb _ hyphen w.if-byte-ne45.false))
          (ap (λ v. v.items) w.digits-is ∙ sym (append-nil before)) c.loop-byte.invariant
    ]

pub returns : goal.returns
returns c =
    let all = c.loop-byte.digits.items in
    sym (append-nil all) ∙ sym (ap (λ t. all ++ basic t) (drop_all c.loop-byte.byte-index c.args.date.now c.loop-byte-test.false)) ∙ c.loop-byte.invariant
