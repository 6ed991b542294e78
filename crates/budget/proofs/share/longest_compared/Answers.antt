use Rattle.std.proofs.Common.{◌≡◌, ◌<◌, length, sym, ap, ◌∙◌, arith, rules}
use Rattle.std.specs.Prelude.{max}
use Rattle.budget.proofs.Longest.{longest_none, longest_compared_more, longest_other_more}
use Rattle.budget.proofs.share.longest_compared.Goals as goal
use Rattle.budget.proofs.share.longest_compared.Goals.{then-literal, else-literal}

pub loop-literal-init : goal.loop-literal-init
loop-literal-init c = sym longest_none

pub loop-literal-preserved : goal.loop-literal-preserved
loop-literal-preserved c =
    let ls = c.args.literals.now in
    let i = c.loop-literal.literal-index in
    let l = c.literal-item.result in
    let within : i < length ls = omega arith in
    elim c.if-literal.branch [
      | then-literal w ↦
          let most : w.max-longest.result ≡ max c.loop-literal.longest (length l.bytes) = rw (sym c.literal.view_is) (search rules) in
          longest_compared_more ls i l within c.literal-item.is c.loop-literal.longest c.if-literal.longest c.loop-literal.invariant
          (sym (ap (λ x. x.compared) c.literal.view_is) ∙ w.if-literal.true) (w.longest-is ∙ most)
      | else-literal w ↦ grind (arith, longest_other_more, c.literal-item.is, c.loop-literal.invariant, c.literal.view_is)
    ]
