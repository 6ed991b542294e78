use Rattle.std.proofs.Common.{◌≡◌, ℕ, false, sym, ap, ◌∙◌, arith}
use Rattle.std.specs.Prelude.{◌==◌}
use Rattle.std.proofs.lemmas.Bool.{cond-false}
use Rattle.std.proofs.lemmas.Bool.Decides.{nat_tests}
use Rattle.journal_references.specs.Dates.{with_gap}
use Rattle.journal_references.proofs.dates.month_length.Goals as goal

not_none : (n : ℕ) → (n ≡ 0 → ⊥) → (n == 0) ≡ false
not_none n h = grind (arith, nat_tests, h)

pub returns-else-count-eq0-clause-value : goal.returns-else-count-eq0-clause-value
returns-else-count-eq0-clause-value c =
    let same = c.date_length-count.ensures.value in
    c.with_gap.ensures.value
    ∙ ap (λ n. with_gap n c.args.text.now) same
    ∙ sym (cond-false _ _ _ (ap (λ n. n == 0) (sym same) ∙ not_none _ c.if-count-eq0.false))
