-- Nothing is ever known about a register that no instruction of a code may name.
use Rattle.std.proofs.Common.{◌≡◌, ℕ, ◌<◌, ◌≤◌, ◌∷◌, List, length, Option, Some, None, refl, sym, ◌∙◌, subst, arith, ⊎_elim, true}
use Rattle.std.specs.Prelude.{if◌then◌else◌}
use Rattle.std.specs.List.{AllByRecursion}
use Rattle.std.proofs.lemmas.Grind.{common_steps}
use Rattle.std.proofs.lemmas.Bool.{ne_eqb, cases_lt}
use Rattle.std.proofs.lemmas.Option.{same_Some, slice_get_past}
use Rattle.code_model.specs.Code.{Code}
use Rattle.code_model.specs.Operands.{Operand, Register, operands}
use Rattle.code_model.specs.declared.code.Instruction.{Instruction}
use Rattle.code_model.specs.declared.code.Instruction.TheVariants.{Halt, Fail, Text as LoadText, List as LoadList, Const, Number, Undef, Empty, NoList, Differ}
use Rattle.code_model.specs.declared.code.Instruction.TheVariants.{Less, Each, Next, Count}
use Rattle.machine_model.specs.declared.form.Body.{Body}
use Rattle.machine_model.specs.declared.kind.Kind.{Kind}
use Rattle.machine_model.specs.declared.kind.Kind.TheVariants.{Any, OptText, Text as TextKind, List as ListKind, Number as NumberKind}
use Rattle.machine_model.specs.Operands.{has_right_operands, register_count}
use Rattle.machine_model.specs.States.{put}
use Rattle.machine_model.specs.Form.{body_at, HasGoodForm}
use Rattle.machine_model.specs.Kinds.{Kinds, Edge, edges, for_instruction, edges_at}
use Rattle.machine_model.proofs.Bodies.{is_in}
use Rattle.machine_model.proofs.GoodPlaces.{good_at}

-- nothing is known about the registers from n on
pub record IsAnyFrom (n : ℕ) (ks : Kinds) : Type 0 where
  pub at : (r : ℕ) → n ≤ r → ks r ≡ Any

abbrev pub EdgeAny : ℕ → Edge → Type 0
EdgeAny n e = IsAnyFrom n e.kinds

put_any : (n : ℕ) (ks : Kinds) (a : ℕ) (k : Kind) → a < n → IsAnyFrom n ks → IsAnyFrom n (put ks a k)
put_any n ks a k lt h =
    record { at = λ r le. subst (λ t. (if t then k else ks r) ≡ Any) (sym (ne_eqb r a (λ e. absurd (omega (arith, lt, le, e))))) (h.at r le) }

-- the first operand of an instruction is a register that a code may name
first_register : (c : Code) (i : Instruction) (a : ℕ) (rest : List Operand) → operands i ≡ Register a ∷ rest → has_right_operands c i ≡ true
    → a < register_count c
unfolding has_right_operands
first_register c i a rest e h = grind (arith, common_steps)

module _ (c : Code) where
  ElementFits : Option Body → Type 0
  ElementFits None = Unit {0}
  ElementFits (Some b) = b.element < register_count c

  edges_any : (p : ℕ) (ks : Kinds) (o : Option Body) (i : Instruction) → has_right_operands c i ≡ true → ElementFits o → IsAnyFrom (register_count c) ks
      → AllByRecursion (EdgeAny (register_count c)) (edges p ks o i)
  unfolding ElementFits
  edges_any p ks o Halt w b h = tt
  edges_any p ks o Fail w b h = tt
  edges_any p ks o (LoadText a x) w b h = (put_any (register_count c) ks a OptText (first_register c (LoadText a x) a _ refl w) h, tt)
  edges_any p ks o (LoadList a x) w b h = (put_any (register_count c) ks a ListKind (first_register c (LoadList a x) a _ refl w) h, tt)
  edges_any p ks o (Const a x) w b h = (put_any (register_count c) ks a TextKind (first_register c (Const a x) a _ refl w) h, tt)
  edges_any p ks o (Number a x d) w b h = (put_any (register_count c) ks a NumberKind (first_register c (Number a x d) a _ refl w) h, (h, tt))
  edges_any p ks o (Undef a d) w b h = (put_any (register_count c) ks a TextKind (first_register c (Undef a d) a _ refl w) h, (h, tt))
  edges_any p ks o (Empty a d) w b h = (h, (h, tt))
  edges_any p ks o (NoList a d) w b h = (h, (h, tt))
  edges_any p ks o (Differ a x d) w b h = (h, (h, tt))
  edges_any p ks o (Less a x d) w b h = (h, (h, tt))
  edges_any p ks o (Each a x d) w b h = (
    put_any (register_count c) ks a TextKind (first_register c (Each a x d) a _ refl w) h,
    (put_any (register_count c) ks a Any (first_register c (Each a x d) a _ refl w) h, tt),
  )
  edges_any p ks None Next w b h = (h, tt)
  edges_any p ks (Some l) Next w b h = (put_any (register_count c) ks l.element TextKind b h, (put_any (register_count c) ks l.element Any b h, tt))
  edges_any p ks o (Count a x) w b h = (put_any (register_count c) ks a NumberKind (first_register c (Count a x) a _ refl w) h, tt)
  edges_any p ks o _ w b h = (h, tt)

  module _ (form : HasGoodForm c) where
    element_fits : (p : ℕ) (o : Option Body) → body_at c p ≡ o → ElementFits o
    unfolding ElementFits
    element_fits p None e = tt
    element_fits p (Some b) e =
        let origin = (is_in c p b e).origin in
        let begins = origin.1 in
        let lt : origin.0 < length c.instrs = omega (arith, begins.continues, begins.fits_in) in
        let g = good_at c form origin.0 lt in
        let same : g.0 ≡ Each b.element begins.each.0 b.end = same_Some _ _ (sym g.1.read ∙ begins.each.1) in
        first_register c (Each b.element begins.each.0 b.end) b.element _ refl (subst (λ i. has_right_operands c i ≡ true) same g.1.reads.right)

    -- nothing is known about such a register after an edge
    pub edges_at_any : (p : ℕ) (ks : Kinds) → IsAnyFrom (register_count c) ks → AllByRecursion (EdgeAny (register_count c)) (edges_at c p ks)
    edges_at_any p ks h = ⊎_elim within past (cases_lt p (length c.instrs))
      where
        within : p < length c.instrs → AllByRecursion (EdgeAny (register_count c)) (edges_at c p ks)
        within lt =
            let g = good_at c form p lt in
            subst (λ o. AllByRecursion (EdgeAny (register_count c)) (for_instruction o (edges p ks (body_at c p)))) (sym g.1.read)
            (edges_any p ks (body_at c p) g.0 g.1.reads.right (element_fits p (body_at c p) refl) h)

        past : length c.instrs ≤ p → AllByRecursion (EdgeAny (register_count c)) (edges_at c p ks)
        past le = grind (arith, slice_get_past)
