-- Tables that grow along edges: below every closed table, and closed at the end.
use Rattle.std.proofs.Common.{◌≡◌, ℕ, ◌+◌, ◌-◌, ◌*◌, ◌<◌, ◌≤◌, List, [], ◌∷◌, ◌++◌, length, Option, Some, None, true, refl, sym, ap, ◌∙◌, subst, arith}
use Rattle.std.proofs.lemmas.Grind.{common_steps}
use Rattle.std.proofs.Common.{⊎_elim}
use Rattle.std.specs.List.{AllByRecursion}
use Rattle.std.proofs.lemmas.Bool.{cases_lt}
use Rattle.std.proofs.lemmas.Option.{same_Some, slice_get_past}
use Rattle.code_model.specs.Code.{Code, reading_at}
use Rattle.code_model.specs.declared.code.Instruction.{Instruction}
use Rattle.machine_model.specs.declared.kind.Kind.{Kind}
use Rattle.machine_model.specs.declared.kind.Kind.TheVariants.{Any}
use Rattle.machine_model.specs.declared.form.Body.{Body}
use Rattle.machine_model.specs.Form.{body_at}
use Rattle.machine_model.specs.Kinds.{kind_le, Kinds, any_kinds, IsBelow, Edge, edge, edges, for_instruction, edges_at}
use Rattle.machine_model.specs.Typable.{Table, Holds, IsClosed, IsLeast}
use Rattle.machine_model.proofs.Orders.{below_trans, EdgesBelow, edges_below}
use Rattle.verifier.specs.Private.Walks.{Follows, IsSameBefore, IsClosedBefore, IsBelowClosed}

-- ---- edges one after another

all_kept : (t u : Table) (es : List Edge) → ((e : Edge) → Holds t e → Holds u e) → AllByRecursion (Holds t) es → AllByRecursion (Holds u) es
all_kept t u [] k h = tt
all_kept t u (e ∷ es) k h = (k e h.0, all_kept t u es k h.1)

all_both : (t : Table) (es fs : List Edge) → AllByRecursion (Holds t) es → AllByRecursion (Holds t) fs → AllByRecursion (Holds t) (es ++ fs)
all_both t [] fs h g = g
all_both t (e ∷ es) fs h g = (h.0, all_both t es fs h.1 g)

all_parts : (t : Table) (es fs : List Edge) → AllByRecursion (Holds t) (es ++ fs) → AllByRecursion (Holds t) es × AllByRecursion (Holds t) fs
all_parts t [] fs h = (tt, h)
all_parts t (e ∷ es) fs h = let r = all_parts t es fs h.1 in ((h.0, r.0), r.1)

follows_both : (es fs : List Edge) (t u v : Table) → Follows es t u → Follows fs u v → Follows (es ++ fs) t v
follows_both es fs t u v f g =
    record {
      held = all_both v es fs (all_kept u v es g.kept f.held) g.held;
      kept = λ e h. g.kept e (f.kept e h);
      below = λ w h b. let parts = all_parts w es fs h in g.below w parts.1 (f.below w parts.0 b);
    }

-- ---- one place of a code

module _ (c : Code) where
  -- the edges of a place, followed in two parts
  pub place_followed : (p : ℕ) (ks : Kinds) (o : Option Body) (i : Instruction) (es fs : List Edge) (t u v : Table) → reading_at c p ≡ Some i → o ≡ body_at c p
      → es ++ fs ≡ edges p ks o i → Follows es t u → Follows fs u v → Follows (edges_at c p ks) t v
  place_followed p ks o i es fs t u v r b e f g =
      let there : es ++ fs ≡ edges_at c p ks = e ∙ ap (λ x. edges p ks x i) b ∙ sym (ap (λ x. for_instruction x (edges p ks (body_at c p))) r) in
      subst (λ x. Follows x t v) there (follows_both es fs t u v f g)

  holds_below : (u : Table) (es fs : List Edge) → EdgesBelow es fs → AllByRecursion (Holds u) fs → AllByRecursion (Holds u) es
  holds_below u [] [] b h = tt
  holds_below u (e ∷ es) (f ∷ fs) b h = ((h.0.0, ap u b.0 ∙ h.0.1, below_trans e.kinds f.kinds h.0.0 b.1 h.0.2), holds_below u es fs b.2 h.1)
  holds_below u _ _ b h = absurd b

  -- the edges with smaller kinds hold in a closed table
  edges_hold : (u : Table) → IsClosed c u → (p : ℕ) (ks ms : Kinds) → u p ≡ Some ms → IsBelow ks ms → AllByRecursion (Holds u) (edges_at c p ks)
  edges_hold u closed p ks ms known b = by_reading (reading_at c p) (closed.along p ms known)
    where
      by_reading : (o : Option Instruction) → AllByRecursion (Holds u) (for_instruction o (edges p ms (body_at c p)))
          → AllByRecursion (Holds u) (for_instruction o (edges p ks (body_at c p)))
      by_reading None k = tt
      by_reading (Some i) k = holds_below u (edges p ks (body_at c p) i) (edges p ms (body_at c p) i) (edges_below p ks ms (body_at c p) i b) k

  pub below_on : (p : ℕ) (ks : Kinds) (t new : Table) → t p ≡ Some ks → Follows (edges_at c p ks) t new → IsBelowClosed c t → IsBelowClosed c new
  below_on p ks t new known f b u closed =
      let here = b u closed p ks known in
      f.below u (edges_hold u closed p ks here.0 here.1 here.2) (b u closed)

  -- the edges of a place hold, and those of the places before it, up to where kinds rose
  pub closed_on : (p to : ℕ) (ks : Kinds) (t new : Table) → t p ≡ Some ks → Follows (edges_at c p ks) t new → IsSameBefore to t new → to ≤ p + 1
      → IsClosedBefore c p t → IsClosedBefore c to new
  closed_on p to ks t new known f same le h =
      record {
        first = f.kept (edge 0 any_kinds) h.first;
        along = λ q ms lt is. let was : t q ≡ Some ms = sym (same q lt) ∙ is in
            ⊎_elim (λ less. all_kept t new (edges_at c q ms) f.kept (h.along q ms less was)) (λ more. let e : q ≡ p = omega arith in by_place q ms e was)
            (cases_lt q p);
      }
    where
      by_place : (q : ℕ) (ms : Kinds) → q ≡ p → t q ≡ Some ms → AllByRecursion (Holds new) (edges_at c q ms)
      by_place q ms e was =
          let is : ks ≡ ms = same_Some _ _ (sym known ∙ ap t (sym e) ∙ was) in
          subst (λ x. AllByRecursion (Holds new) (edges_at c x ms)) (sym e) (subst (λ x. AllByRecursion (Holds new) (edges_at c p x)) is f.held)

  -- a place without kinds has no edges
  pub closed_past_none : (p : ℕ) (t : Table) → t p ≡ None → IsClosedBefore c p t → IsClosedBefore c (p + 1) t
  closed_past_none p t none h = grind (arith, common_steps)

  above_any : (k : Kind) → kind_le Any k ≡ true → k ≡ Any
  above_any Any h = refl
  above_any _ h = absurd (cc)

  -- closed before the end is closed
  pub closed_all : (n : ℕ) (t : Table) → length c.instrs ≤ n → IsClosedBefore c n t → IsClosed c t
  closed_all n t le h = grind (arith, above_any, cases_lt, slice_get_past)

  pub least_of : (n : ℕ) (t : Table) → length c.instrs ≤ n → IsClosedBefore c n t → IsBelowClosed c t → IsLeast c t
  least_of n t le h b = record { closed = closed_all n t le h; least = b }

-- ---- the measure

-- one place further, or back with fewer possible rises left
pub less_left : (n from to old new : ℕ) → from < n → to ≤ from + 1 → new ≤ old → (to < from + 1 → new < old)
    → new * (n + 1) + (n - to) < old * (n + 1) + (n - from)
less_left n from to old new lt on less back = grind (arith, common_steps)

pub less_left_in : (n m from to old new : ℕ) → m ≡ n → from < n → to ≤ from + 1 → new ≤ old → (to < from + 1 → new < old)
    → new * (m + 1) + (m - to) < old * (n + 1) + (n - from)
less_left_in n m from to old new e lt on less back =
    subst (λ k. new * (k + 1) + (k - to) < old * (n + 1) + (n - from)) (sym e) (less_left n from to old new lt on less back)
