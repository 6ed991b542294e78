-- The sums plus the share of one more place are the sums over one more place.
use Rattle.std.proofs.Common.{◌≡◌, ℕ, ◌+◌, Option, Some, None, true, false, sym, ap, ◌∙◌, subst}
use Rattle.std.specs.Prelude.{◌&&◌}
use Rattle.std.proofs.lemmas.Bool.{and_parts}
use Rattle.code_model.specs.Code.{Code, reading_at}
use Rattle.code_model.specs.declared.code.Instruction.{Instruction}
use Rattle.machine_model.specs.Budget.{Sums, prints}
use Rattle.budget.specs.declared.running.Running.{Running}
use Rattle.budget.specs.declared.share.Share.{Share}
use Rattle.budget.specs.Private.Running.{running_at}
use Rattle.budget.specs.Private.SumsBelow.{sums_below}
use Rattle.budget.specs.Private.Shares.{IsShareOf, plus_outside, plus_inside, plus_element}
use Rattle.budget.proofs.Walk.{no_body_at, the_body_at, of_element_at}
use Rattle.budget.proofs.Totals.{outside_step, inside_step, element_step}

module _ (c : Code) (p : ℕ) (b : Sums) (h : b ≡ sums_below c p) (i : Option Instruction) (e : i ≡ reading_at c p) (s : Share) (is : IsShareOf c i s) where
  here : IsShareOf c (reading_at c p) s
  here = subst (λ x. IsShareOf c x s) e is

  pub after_outside : None ≡ running_at c p → plus_outside b s ≡ sums_below c (p + 1)
  after_outside none = ap (λ x. plus_outside x s) h ∙ sym (outside_step c p s here (no_body_at c p none))

  module _ (r : Running) (in_body : Some r ≡ running_at c p) where
    pub after_inside : (prints r.body.element i && r.kept) ≡ false → plus_inside b s ≡ sums_below c (p + 1)
    after_inside other =
        ap (λ x. plus_inside x s) h
        ∙ sym (inside_step c p s here r.body (the_body_at c p r in_body) (of_element_at c p r i in_body e ∙ other))

    pub after_element : (prints r.body.element i && r.kept) ≡ true → plus_element b s ≡ sums_below c (p + 1)
    after_element mine =
        let is_print = (and_parts (prints r.body.element i) r.kept mine).0 in
        ap (λ x. plus_element x s) h
        ∙ sym (element_step c p s here r.body (the_body_at c p r in_body) (of_element_at c p r i in_body e ∙ mine)
        (subst (λ x. prints r.body.element x ≡ true) e is_print))
