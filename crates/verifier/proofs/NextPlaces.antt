-- Where the walk continues: at the next place, or at the first place of the body that NEXT returns to.
use Rattle.std.proofs.Common.{◌≡◌, ℕ, ◌+◌, ◌<◌, ◌≤◌, List, [], ◌∷◌, ◌++◌, length, Option, Some, None, true, refl, sym, ◌∙◌, subst, arith, ◌⊎◌, inl, inr}
use Rattle.std.specs.Prelude.{nat_lt}
use Rattle.std.specs.List.{AllByRecursion}
use Rattle.std.proofs.lemmas.Grind.{common_steps}
use Rattle.std.proofs.lemmas.Bool.{ltb-true}
use Rattle.std.proofs.lemmas.Option.{same_Some}
use Rattle.code_model.specs.Code.{Code, reading_at}
use Rattle.code_model.specs.declared.code.Instruction.{Instruction}
use Rattle.code_model.specs.declared.code.Instruction.TheVariants.{Halt, Fail, Jump, Number, Undef, Empty, NoList, Differ, Less, Each, Next}
use Rattle.machine_model.specs.declared.form.Body.{Body}
use Rattle.machine_model.specs.Form.{body_at, HasGoodForm, goes_to, target}
use Rattle.machine_model.specs.Kinds.{Kinds, Edge, edges}
use Rattle.machine_model.proofs.GoodPlaces.{good_at}
use Rattle.verifier.specs.Private.Walks.{ContinuesAt, IsReturn}

-- ---- edges that are followed one after another

no_edge_rose : (next : ℕ) (es : List Edge) (to : ℕ) → to ≡ next → ContinuesAt next es to
no_edge_rose next [] to same = same
no_edge_rose next (e ∷ es) to same = inr (no_edge_rose next es to same)

at_left : (next : ℕ) (es fs : List Edge) (to : ℕ) → ContinuesAt next es to → ContinuesAt next (es ++ fs) to
at_left next [] fs to h = no_edge_rose next fs to h
at_left next (e ∷ es) fs to (inl h) = inl h
at_left next (e ∷ es) fs to (inr h) = inr (at_left next es fs to h)

at_right : (next : ℕ) (es fs : List Edge) (to : ℕ) → ContinuesAt next fs to → ContinuesAt next (es ++ fs) to
at_right next [] fs to h = h
at_right next (e ∷ es) fs to h = inr (at_right next es fs to h)

-- at the place of one of these edges, or of none
at_later : (from next : ℕ) (fs : List Edge) (to : ℕ) → next ≤ from → ContinuesAt next fs to → (to ≡ next) ⊎ ContinuesAt from fs to
at_later from next [] to le h = inl h
at_later from next (f ∷ fs) to le (inl h) = inr (inl (h.0, omega (arith, h.1, le)))
at_later from next (f ∷ fs) to le (inr h) = by_rest (at_later from next fs to le h)
  where
    by_rest : (to ≡ next) ⊎ ContinuesAt from fs to → (to ≡ next) ⊎ ContinuesAt from (f ∷ fs) to
    by_rest (inl same) = inl same
    by_rest (inr later) = inr (inr later)

pub continues_after_both : (from next : ℕ) (es fs : List Edge) (to : ℕ) → next ≤ from → ContinuesAt from es next → ContinuesAt next fs to
    → ContinuesAt from (es ++ fs) to
continues_after_both from next es fs to le first second = grind (arith, at_later, at_left, at_right)

-- ---- the edges of a place of good form

-- the edge leads to a later place, or is the return to the first place of the body
abbrev LeadsOnOrBack : Code → ℕ → Edge → Type 0
LeadsOnOrBack c p e = (p < e.to) ⊎ IsReturn c p e.to

module _ (c : Code) (form : HasGoodForm c) where
  lead : (p : ℕ) (ks : Kinds) (o : Option Body) (i : Instruction) → p < length c.instrs → o ≡ body_at c p → reading_at c p ≡ Some i
      → AllByRecursion (LeadsOnOrBack c p) (edges p ks o i)
  lead p ks o i lt eo r =
      let g = good_at c form p lt in
      by_op i r (subst (λ j. goes_to (λ d. nat_lt p d) (target j) ≡ true) (same_Some _ _ (sym g.1.read ∙ r)) g.1.placed.forward)
    where
      on : p < p + 1
      on = omega arith

      by_body : (b : Option Body) → b ≡ body_at c p → reading_at c p ≡ Some Next → AllByRecursion (LeadsOnOrBack c p) (edges p ks b Next)
      by_body None e n = (inl on, tt)
      by_body (Some b) e n = (inr (record { body = b; within = sym e; reads = n; head = refl }), (inl on, tt))

      by_op : (i : Instruction) → reading_at c p ≡ Some i → goes_to (λ d. nat_lt p d) (target i) ≡ true → AllByRecursion (LeadsOnOrBack c p) (edges p ks o i)
      by_op Halt n w = tt
      by_op Fail n w = tt
      by_op (Jump d) n w = (inl (ltb-true p d w), tt)
      by_op (Number a b d) n w = (inl on, (inl (ltb-true p d w), tt))
      by_op (Undef a d) n w = (inl on, (inl (ltb-true p d w), tt))
      by_op (Empty a d) n w = (inl on, (inl (ltb-true p d w), tt))
      by_op (NoList a d) n w = (inl on, (inl (ltb-true p d w), tt))
      by_op (Differ a b d) n w = (inl on, (inl (ltb-true p d w), tt))
      by_op (Less a b d) n w = (inl on, (inl (ltb-true p d w), tt))
      by_op (Each a b d) n w = (inl on, (inl (ltb-true p d w), tt))
      by_op Next n w = by_body o eo n
      by_op i n w = (inl on, tt)

  next_or_head : (p : ℕ) (es : List Edge) (to : ℕ) → AllByRecursion (LeadsOnOrBack c p) es → ContinuesAt (p + 1) es to → (to ≡ p + 1) ⊎ IsReturn c p to
  next_or_head p [] to h at = inl at
  next_or_head p (e ∷ es) to h (inr at) = next_or_head p es to h.1 at
  next_or_head p (e ∷ es) to h (inl at) = grind (arith, common_steps)

  pub continues : (p : ℕ) (ks : Kinds) (o : Option Body) (i : Instruction) (es fs : List Edge) (next to : ℕ)
      → p < length c.instrs → o ≡ body_at c p → reading_at c p ≡ Some i → es ++ fs ≡ edges p ks o i
      → next ≤ p + 1 → ContinuesAt (p + 1) es next → ContinuesAt next fs to → (to ≡ p + 1) ⊎ IsReturn c p to
  continues p ks o i es fs next to lt eo r same le first second =
      let all = subst (AllByRecursion (LeadsOnOrBack c p)) (sym same) (lead p ks o i lt eo r) in
      next_or_head p (es ++ fs) to all (continues_after_both (p + 1) next es fs to le first second)
