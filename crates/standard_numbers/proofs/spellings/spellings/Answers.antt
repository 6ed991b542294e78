use Rattle.std.proofs.Common.{◌≡◌, ◌∙◌, ap, arith}
use Rattle.standard_numbers.specs.Private.Kinds.{length_at}
use Rattle.standard_numbers.proofs.SpellingSteps.{step_within, step_none, step_found}
use Rattle.standard_numbers.proofs.spellings.spellings.Goals as goal
use Rattle.standard_numbers.proofs.spellings.spellings.Goals.{then-left-gt0, else-left-gt0+in-Some+in_ok-push, else-left-gt0+in_default}

pub loop-at-preserved : goal.loop-at-preserved
loop-at-preserved c =
    elim c.if-left-gt0.branch [
      | then-left-gt0 w ↦
          step_within (length_at c.args.kind) c.args.text.now c.loop-at.at c.loop-at.left c.loop-at.before c.if-left-gt0.left
          c.loop-at.found.items c.if-left-gt0.found.items _ c.loop-at-test.true w.if-left-gt0.true (ap (λ v. v.items) w.found-is) w.left-is c.loop-at.invariant
      | else-left-gt0+in-Some+in_ok-push w ↦
          let no_bytes : c.loop-at.left ≡ 0 = omega (arith, w.if-left-gt0.false) in
          step_found (length_at c.args.kind) c.args.text.now c.loop-at.at c.loop-at.left c.loop-at.before c.if-left-gt0.left w.in-Some.count
          c.split_at.result.1.now c.loop-at.found.items c.if-left-gt0.found.items w.split_at-in-Some.result.0 _ c.loop-at-test.true no_bytes
          c.split_at.ensures.back w.in-Some.ensures.value w.split_at-in-Some.ensures.front
          (ap (λ v. v.items) w.found-is ∙ w.in_ok-push.ensures.items) w.left-is c.loop-at.invariant
      | else-left-gt0+in_default w ↦
          let no_bytes : c.loop-at.left ≡ 0 = omega (arith, w.if-left-gt0.false) in
          step_none (length_at c.args.kind) c.args.text.now c.loop-at.at c.loop-at.left c.loop-at.before c.if-left-gt0.left
          c.split_at.result.1.now c.loop-at.found.items c.if-left-gt0.found.items _ c.loop-at-test.true no_bytes
          c.split_at.ensures.back w.in_default.ensures.value (ap (λ v. v.items) w.found-is) w.left-is c.loop-at.invariant
    ]
