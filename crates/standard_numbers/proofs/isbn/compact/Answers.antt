use Rattle.std.proofs.Common.{◌≡◌, ℕ, Bool, true, false, [], ◌++◌, ap, sym, ◌∙◌, not, append-nil}
use Rattle.standard_numbers.specs.Spellings.{is_joint}
use Rattle.std.proofs.lemmas.List.{drop_all}
use Rattle.standard_numbers.specs.Isbn.{compact}
use Rattle.standard_numbers.proofs.Filtered.{filtered}
use Rattle.standard_numbers.proofs.isbn.compact.Goals as goal
use Rattle.standard_numbers.proofs.isbn.compact.Goals.{then-not-is_joint+in_ok-push, else-not-is_joint}

pub loop-byte-preserved : goal.loop-byte-preserved
loop-byte-preserved c =
    let kept : ℕ → Bool = λ b. not (is_joint b) in
    let text = c.args.spelling.now in
    let before = c.loop-byte.digits.items in
    elim c.if-not-is_joint.branch [
      | then-not-is_joint+in_ok-push w ↦
          filtered kept text before _ _ c.loop-byte.byte-index true c.loop-byte-test.true (ap not (sym c.is_joint.ensures) ∙ ap not w.if-not-is_joint.true)
          (ap (λ v. v.items) w.digits-is ∙ w.in_ok-push.ensures.items) c.loop-byte.invariant
      | else-not-is_joint w ↦
          filtered kept text before _ _ c.loop-byte.byte-index false c.loop-byte-test.true (ap not (sym c.is_joint.ensures) ∙ ap not w.if-not-is_joint.false)
          (ap (λ v. v.items) w.digits-is ∙ sym (append-nil before)) c.loop-byte.invariant
    ]

pub returns : goal.returns
returns c =
    let all = c.loop-byte.digits.items in
    sym (append-nil all) ∙ sym (ap (λ t. all ++ compact t) (drop_all c.loop-byte.byte-index c.args.spelling.now c.loop-byte-test.false)) ∙ c.loop-byte.invariant
