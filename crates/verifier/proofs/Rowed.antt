-- Rows of kinds, and tables of rows, in which one place is changed.
use Rattle.std.proofs.Common.{◌≡◌, ℕ, ◌<◌, List, [], ◌∷◌, length, set, Option, Some, None, Bool, true, false, refl, sym, ap, ◌∙◌, subst, get_or-set_other}
use Rattle.std.proofs.lemmas.Grind.{common_steps}
use Rattle.std.proofs.Common.{get_or-set_same, arith}
use Rattle.std.specs.Prelude.{◌==◌}
use Rattle.std.specs.List.{AllByRecursion}
use Rattle.std.proofs.lemmas.Bool.{eqb-true, eq-eqb, false≢true}
use Rattle.std.proofs.lemmas.Option.{same_Some}
use Rattle.machine_model.specs.Kinds.{Kinds, kind_le, kind_join, IsBelow, Edge}
use Rattle.machine_model.specs.Typable.{Table, Holds, TableBelow}
use Rattle.machine_model.proofs.Orders.{kind_le_refl, below_trans, kind_le-join_left, kind_le-join_right, kind_join-least}
use Rattle.verifier.specs.declared.row.Row.{Row}
use Rattle.verifier.specs.Private.Rows.{kinds_of, table_of}
use Rattle.verifier.specs.Private.Walks.{Follows, IsSameAt}

-- ---- a table in which one place has other kinds

-- the kinds of a place are at or above those of an edge to it and those that it had before, and at or below all kinds that are above both
pub record Arrives (old : Option Kinds) (ks new : Kinds) : Type 0 where
  pub above : IsBelow ks new
  pub kept : (ms : Kinds) → old ≡ Some ms → IsBelow ms new
  pub least : (ns : Kinds) → ((ms : Kinds) → old ≡ Some ms → IsBelow ms ns) → IsBelow ks ns → IsBelow new ns

pub follows_one : (t u : Table) (e : Edge) (ks : Kinds) → Arrives (t e.to) e.kinds ks → u e.to ≡ Some ks → IsSameAt e.to t u → Follows (e ∷ []) t u
follows_one t u e ks a here other =
    record {
      held = ((ks, here, a.above), tt);
      kept = λ f h. kept f h (f.to == e.to) refl;
      below = λ v holds b p ms known. below v holds b p ms known (p == e.to) refl;
    }
  where
    kept : (f : Edge) → Holds t f → (b : Bool) → (f.to == e.to) ≡ b → Holds u f
    kept f h true s =
        let same = eqb-true f.to e.to s in
        (ks, ap u same ∙ here, below_trans f.kinds h.0 ks h.2 (a.kept h.0 (ap t (sym same) ∙ h.1)))
    kept f h false s = (h.0, other f.to (λ same. false≢true (sym s ∙ eq-eqb f.to e.to same)) ∙ h.1, h.2)

    below : (v : Table) → AllByRecursion (Holds v) (e ∷ []) → TableBelow t v → (p : ℕ) (ms : Kinds) → u p ≡ Some ms → (b : Bool) → (p == e.to) ≡ b
        → (ns : Kinds) × (v p ≡ Some ns) × IsBelow ms ns
    below v holds b p ms known true s = grind (arith, common_steps)
    below v holds b p ms known false s = b p ms (sym (other p (λ same. false≢true (sym s ∙ eq-eqb p e.to same))) ∙ known)

pub arrives_first : (ks : Kinds) → Arrives None ks ks
arrives_first ks = record { above = record { at = λ r. kind_le_refl (ks r) }; kept = λ ms e. absurd (cc); least = λ ns f b. b }

pub arrives_joined : (ms ks ns : Kinds) → ((r : ℕ) → ns r ≡ kind_join (ms r) (ks r)) → Arrives (Some ms) ks ns
arrives_joined ms ks ns j =
    record {
      above = record { at = λ r. subst (λ x. kind_le (ks r) x ≡ true) (sym (j r)) (kind_le-join_right (ms r) (ks r)) };
      kept = λ xs e. subst (λ y. IsBelow y ns) (same_Some _ _ e)
          (record { at = λ r. subst (λ x. kind_le (ms r) x ≡ true) (sym (j r)) (kind_le-join_left (ms r) (ks r)) });
      least = λ xs f b.
          record { at = λ r. subst (λ x. kind_le x (xs r) ≡ true) (sym (j r)) (kind_join-least (ms r) (ks r) (xs r) ((f ms refl).at r) (b.at r)) };
    }

-- ---- and as lists

module _ (rows : List (Option Row)) (p : ℕ) (row : Row) where
  pub table_here : p < length rows → table_of (set rows p (Some row)) p ≡ Some (kinds_of row)
  table_here lt = rw get_or-set_same refl

  pub table_other : IsSameAt p (table_of rows) (table_of (set rows p (Some row)))
  table_other q ne = rw get_or-set_other refl
