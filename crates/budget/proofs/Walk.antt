-- The body of each place in turn, with whether it keeps its element.
use Rattle.std.proofs.Common.{◌≡◌, ℕ, suc, ◌+◌, ◌<◌, ◌≤◌, Option, Some, None, refl, sym, ap, ◌∙◌, arith, add-one}
use Rattle.code_model.specs.Code.{Code, reading_at}
use Rattle.machine_model.specs.declared.form.Body.{Body}
use Rattle.machine_model.specs.Form.{opened, body_after, body_at}
use Rattle.std.specs.Prelude.{◌&&◌}
use Rattle.std.proofs.lemmas.Grind.{common_steps}
use Rattle.code_model.specs.declared.code.Instruction.{Instruction}
use Rattle.machine_model.specs.Budget.{keeps_element, prints, is_of_element}
use Rattle.machine_model.proofs.Bodies.{body_suc, body_on, body_off}
use Rattle.budget.specs.declared.running.Running.{Running}
use Rattle.budget.specs.Private.Running.{running_in, running_at}

pub running_first : (c : Code) → None ≡ running_at c 0
unfolding body_at
running_first c = refl

module _ (c : Code) where
  none_in : (o : Option Body) → None ≡ running_in c o → o ≡ None
  none_in None h = refl
  none_in (Some b) h = absurd (cc)

  body_in : (o : Option Body) (r : Running) → Some r ≡ running_in c o → o ≡ Some r.body
  body_in None r h = absurd (cc)
  body_in (Some b) r h = let same : r ≡ record { body = b; kept = keeps_element c b } = cc in ap (λ x. Some x.body) (sym same)

  kept_in : (o : Option Body) (r : Running) → Some r ≡ running_in c o → r.kept ≡ keeps_element c r.body
  kept_in None r h = absurd (cc)
  kept_in (Some b) r h = grind (arith, common_steps)

  pub no_body_at : (p : ℕ) → None ≡ running_at c p → body_at c p ≡ None
  no_body_at p h = none_in (body_at c p) h

  pub the_body_at : (p : ℕ) (r : Running) → Some r ≡ running_at c p → body_at c p ≡ Some r.body
  the_body_at p r h = body_in (body_at c p) r h

  pub kept_at : (p : ℕ) (r : Running) → Some r ≡ running_at c p → r.kept ≡ keeps_element c r.body
  kept_at p r h = kept_in (body_at c p) r h

  pub running_on : (p : ℕ) (r : Running) → Some r ≡ running_at c p → p + 1 < r.body.end → Some r ≡ running_at c (p + 1)
  running_on p r h lt = grind (arith, body_on, add-one)

  pub running_off : (p : ℕ) (r : Running) → Some r ≡ running_at c p → r.body.end ≤ p + 1 → None ≡ running_at c (p + 1)
  running_off p r h le = grind (arith, body_off, add-one)

  pub running_opened : (p : ℕ) → None ≡ running_at c p → running_in c (opened c p (reading_at c p)) ≡ running_at c (p + 1)
  running_opened p h =
      let after : body_at c (suc p) ≡ opened c p (reading_at c p) = body_suc c p ∙ ap (body_after c p) (no_body_at p h) in
      ap (running_in c) (sym (rw add-one after))

  pub of_element_at : (p : ℕ) (r : Running) (i : Option Instruction) → Some r ≡ running_at c p → i ≡ reading_at c p
      → is_of_element c p ≡ (prints r.body.element i && r.kept)
  of_element_at p r i h e = rw (the_body_at p r h, kept_at p r h, e) refl
