-- The least table of a code: there is at most one, and it decides whether the code is typable, and which mismatch is the first.
use Rattle.std.proofs.Common.{◌≡◌, ℕ, ◌≤◌, List, [], ◌∷◌, length, Option, Some, None, Bool, refl, sym, ap, ◌∙◌, subst, ⊎_elim, arith}
use Rattle.std.specs.Prelude.{◌↔◌, if◌then◌else◌, option_and_then}
use Rattle.std.specs.List.{AllByRecursion}
use Rattle.std.proofs.lemmas.Grind.{common_steps}
use Rattle.std.proofs.Math.Path.{fun_ext}
use Rattle.std.proofs.lemmas.Bool.{cases_lt}
use Rattle.std.proofs.lemmas.Option.{same_Some, slice_get_past}
use Rattle.code_model.specs.Code.{Code, reading}
use Rattle.machine_model.specs.First.{Located}
use Rattle.machine_model.specs.Kinds.{kind_le, Kinds, IsBelow, Need, for_instruction, needs, needs_at}
use Rattle.machine_model.specs.Typable.{Table, IsMet, MeetsNeeds, IsTypable, TableBelow, IsLeast}
use Rattle.machine_model.specs.Mismatch.{first_unmet, mismatch_at, first_mismatch, IsFirstMismatch}
use Rattle.machine_model.proofs.Faults.{none_below, first_none}
use Rattle.machine_model.proofs.Orders.{kind_le_trans, below_antisym}

-- ---- there is at most one

same_row : (p : ℕ) (t u : Table) → TableBelow t u → TableBelow u t → t p ≡ u p
same_row p t u b d = by_kinds (t p) refl (u p) refl
  where
    by_kinds : (o : Option Kinds) → t p ≡ o → (o' : Option Kinds) → u p ≡ o' → o ≡ o'
    by_kinds None e None e' = refl
    by_kinds None e (Some ms) e' = let k = d p ms e' in let none : None ≡ Some k.0 = sym e ∙ k.1 in absurd (cc)
    by_kinds (Some ks) e o' e' =
        let k = b p ks e in
        let m = d p k.0 k.1 in
        let back : m.0 ≡ ks = same_Some _ _ (sym m.1 ∙ e) in
        let same : ks ≡ k.0 = below_antisym ks k.0 k.2 (subst (IsBelow k.0) back m.2) in
        ap Some same ∙ sym k.1 ∙ e'

pub least_once : (c : Code) (t u : Table) → IsLeast c t → IsLeast c u → t ≡ u
least_once c t u l m = fun_ext (λ p. same_row p t u (l.least u m.closed) (m.least t l.closed))

-- ---- it decides whether the code is typable

met_below : (ks ms : Kinds) (ns : List Need) → IsBelow ks ms → AllByRecursion (IsMet ms) ns → AllByRecursion (IsMet ks) ns
met_below ks ms [] b h = tt
met_below ks ms (n ∷ ns) b h = (kind_le_trans (ks n.register) (ms n.register) n.kind (b.at n.register) h.0, met_below ks ms ns b h.1)

pub least_decides : (c : Code) (t : Table) → IsLeast c t → MeetsNeeds c t ↔ IsTypable c
least_decides c t l = (
  λ m. (t, l.closed, m),
  λ y. record { at = λ p ks known. let b = l.least y.0 y.1 p ks known in met_below ks b.0 (needs_at c p) b.2 (y.2.at p b.0 b.1) },
)

-- ---- and the first mismatch

all_met : (ks : Kinds) (ns : List Need) → first_unmet ks ns ≡ None → AllByRecursion (IsMet ks) ns
all_met ks [] h = tt
all_met ks (n ∷ ns) h = by_test (all_met ks ns) (kind_le (ks n.register) n.kind) refl h
  where
    by_test : (first_unmet ks ns ≡ None → AllByRecursion (IsMet ks) ns) → (t : Bool) → kind_le (ks n.register) n.kind ≡ t
        → (if t then first_unmet ks ns else Some n.register) ≡ None → AllByRecursion (IsMet ks) (n ∷ ns)
    by_test rest t e h = grind (arith, common_steps)

-- past the code nothing is needed
needs_past : (c : Code) (p : ℕ) → length c.instrs ≤ p → needs_at c p ≡ []
needs_past c p le = ap (λ o. for_instruction o needs) (ap (option_and_then (reading c.version)) (slice_get_past c.instrs p le))

met_at : (c : Code) (t : Table) (p : ℕ) → MeetsNeeds c t → mismatch_at c t p ≡ None
unfolding mismatch_at
met_at c t p m = grind (arith, common_steps)

all_met_at : (c : Code) (t : Table) (p : ℕ) (ks : Kinds) → t p ≡ Some ks → mismatch_at c t p ≡ None → AllByRecursion (IsMet ks) (needs_at c p)
unfolding mismatch_at
all_met_at c t p ks known h = all_met ks (needs_at c p) (rw known at h)

pub mismatch_decides : (c : Code) (t : Table) → MeetsNeeds c t ↔ (first_mismatch c t ≡ None)
mismatch_decides c t = (
  λ m. first_none (mismatch_at c t) (length c.instrs) (λ p lt. met_at c t p m),
  λ h. record {
    at = λ p ks known. ⊎_elim (λ lt. all_met_at c t p ks known (none_below (mismatch_at c t) (length c.instrs) h p lt))
        (λ le. subst (AllByRecursion (IsMet ks)) (sym (needs_past c p le)) tt) (cases_lt p (length c.instrs));
  },
)

-- a code has at most one first mismatch, and a code that has one is not typable
pub one_first_mismatch : (c : Code) (m n : Located ℕ) → IsFirstMismatch c m → IsFirstMismatch c n → m ≡ n
one_first_mismatch c m n h g = same_Some _ _ (sym h.2 ∙ ap (first_mismatch c) (least_once c h.0 g.0 h.1 g.1) ∙ g.2)

pub mismatch_untypable : (c : Code) (m : Located ℕ) → IsFirstMismatch c m → IsTypable c → ⊥
mismatch_untypable c m h y = let none = (mismatch_decides c h.0).0 ((least_decides c h.0 h.1).1 y) in absurd (cc (h.2, none))
