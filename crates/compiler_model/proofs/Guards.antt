-- The block of a guard continues if the guard holds, and leaves the rule if it does not.

use Rattle.std.proofs.Common.{◌≡◌, ℕ, List, [], ◌∷◌, Option, Some, None, Bool, true, false, refl, ap, ◌∙◌, subst, ◌⊎◌, inl, inr, arith}
use Rattle.std.specs.Prelude.{◌&&◌, not, option_and_then}
use Rattle.std.proofs.lemmas.Grind.{common_steps}
use Rattle.std.proofs.lemmas.Bool.{and_parts}
use Rattle.std.proofs.lemmas.Slice.Eq.{bytes_eq-Decides}
use Rattle.text_model.specs.Texts.{Text}
use Rattle.text_model.specs.Number.{leading_number}
use Rattle.environment_model.specs.Environment.{Environment, Meaning, Single, Several, look_up, text_in, members_in, text_of, view}
use Rattle.environment_model.specs.Lists.{is_list, list_names}
use Rattle.machine_model.specs.Values.{text_or_undefined}
use Rattle.machine_model.specs.Values as value
use Rattle.rule_parser.specs.declared.rule.Bound.{Bound}
use Rattle.rule_parser.specs.declared.rule.Bound.TheVariants as bound
use Rattle.rule_parser.specs.declared.rule.Guard.TheVariants as guard
use Rattle.rule_parser.specs.Rules.{bound_fits, bounds_fit}
use Rattle.rule_parser.specs.Meaning.{is_defined, is_given, is_text, bound_number, is_at_least, is_at_most, is_within, is_number_within}
use Rattle.compiler_model.specs.declared.lines.Test.{Test}
use Rattle.compiler_model.specs.declared.lines.Test.TheVariants.{IsUndefined, HasNoNumber, IsLess}
use Rattle.compiler_model.specs.Blocks.{Unless, LeaveIf}
use Rattle.compiler_model.specs.Shapes.{loading, is_missing, bound_block, bounds_block, guard_block}
use Rattle.compiler_model.proofs.Effects.{Store, keeping, Claim, Acted, Tested, Brings}
use Rattle.compiler_model.proofs.SpecPieces.{seen_as}

-- if the Boolean is true, the first claim holds, and otherwise the second, whatever the registers are
abbrev pub Settles : Bool → Text → Claim → Claim → Type 0
Settles true out Q R = (n : Store) → n.output ≡ out → Q n
Settles false out Q R = (n : Store) → n.output ≡ out → R n

pub settles_not : (b : Bool) (out : Text) (Q R : Claim) → Settles (not b) out Q R → Settles b out R Q
settles_not true out Q R k = k
settles_not false out Q R k = k

-- the second Boolean matters only if the first is true
pub settles_and : (a b : Bool) (out : Text) (Q R : Claim) → Settles (a && b) out Q R → Settles a out (λ n. Settles b n.output Q R) R
settles_and false b out Q R k = k
settles_and true true out Q R k = λ n e m f. k m (f ∙ e)
settles_and true false out Q R k = λ n e m f. k m (f ∙ e)

-- ---- numbers

-- if the Boolean is true, r1 still has its number
abbrev Bounds : ℕ → Bool → Text → Claim → Claim → Type 0
Bounds i true out Q R = (n : Store) → n.registers 1 ≡ value.Number i → n.output ≡ out → Q n
Bounds i false out Q R = (n : Store) → n.output ≡ out → R n

-- a test between r1 and r3 jumps if the number of a bound does not allow that of r1
record Compares (i : ℕ) (test : Test) (allows : Option ℕ → Bool) : Type 1 where
  unbounded : allows None ≡ true
  decides : (m : ℕ) (s : Store) (Q R : Claim) → s.registers 1 ≡ value.Number i → s.registers 3 ≡ value.Number m → Bounds i (allows (Some m)) s.output Q R
      → Tested test s (R s) Q

low_test : (i : ℕ) → Compares i (IsLess 1 3) (λ low. is_at_least low i)
low_test i = grind (arith, common_steps)

high_test : (i : ℕ) → Compares i (IsLess 3 1) (λ high. is_at_most high i)
high_test i = grind (arith, common_steps)

module _ (v : Environment) (lists : List Text) where
  abbrev pub look : Text → Option Meaning
  look = view (list_names lists) (look_up v)

  -- ---- what rules see of a name is what is loaded

  text_seen : (m : Option Meaning) (list : Bool) → not list ≡ true → text_in (seen_as v list m) ≡ text_in m
  text_seen m list e = grind (arith, common_steps)

  pub members_seen : (m : Option Meaning) (list : Bool) → list ≡ true → members_in (seen_as v list m) ≡ members_in m
  members_seen m false e = absurd (cc)
  members_seen None true e = refl
  members_seen (Some (Single t)) true e = refl
  members_seen (Some (Several ts)) true e = refl

  pub text_looked : (name : Text) → not (is_list lists name) ≡ true → text_in (look name) ≡ text_of v name
  text_looked name e = text_seen (look_up v name) (is_list lists name) e

  -- ---- bounds

  number_brings : (i r : ℕ) (test : Test) (allows : Option ℕ → Bool) → Compares i test allows → (t : Text) (s : Store) (Q R : Claim)
      → s.registers 1 ≡ value.Number i → s.registers 2 ≡ value.Text t → Bounds i (allows (leading_number t)) s.output Q R
      → Brings v None (Unless (HasNoNumber 3 2) (LeaveIf test)) s Q R
  number_brings i r test allows c t s Q R e f k = (t, f, by_number (leading_number t) refl k)
    where
      by_number : (o : Option ℕ) → leading_number t ≡ o → Bounds i (allows o) s.output Q R → ((leading_number t ≡ None) × Q s)
          ⊎ ((m : ℕ) × (leading_number t ≡ Some m) × Tested test (keeping 3 (value.Number m) s) (R (keeping 3 (value.Number m) s)) Q)
      by_number None h k = inl (h, subst (λ b. Bounds i b s.output Q R) c.unbounded k s e refl)
      by_number (Some m) h k = inr (m, h, c.decides m (keeping 3 (value.Number m) s) Q R e refl k)

  bound_brings : (i : ℕ) (test : Test) (allows : Option ℕ → Bool) → Compares i test allows → (b : Bound) → bound_fits lists b ≡ true
      → (s : Store) (Q R : Claim) → s.registers 1 ≡ value.Number i → Bounds i (allows (bound_number look b)) s.output Q R
      → Brings v None (bound_block test b) s Q R
  bound_brings i test allows c bound.Open z s Q R e k = subst (λ b. Bounds i b s.output Q R) c.unbounded k s e refl
  bound_brings i test allows c (bound.Digits digits) z s Q R e k = number_brings i 2 test allows c digits (keeping 2 (value.Text digits) s) Q R e refl k
  bound_brings i test allows c (bound.Name name) z s Q R e k =
      by_text (text_of v name) refl (subst (λ o. Bounds i (allows (option_and_then leading_number o)) s.output Q R) (text_looked name z) k)
    where
      loaded : Store
      loaded = keeping 2 (text_or_undefined (text_of v name)) s

      by_text : (o : Option Text) → text_of v name ≡ o → Bounds i (allows (option_and_then leading_number o)) s.output Q R
          → Tested (IsUndefined 2) loaded (Q loaded) (λ n. Brings v None (Unless (HasNoNumber 3 2) (LeaveIf test)) n Q R)
      by_text None h k = inl (ap text_or_undefined h, subst (λ b. Bounds i b s.output Q R) c.unbounded k loaded e refl)
      by_text (Some t) h k = inr (t, ap text_or_undefined h, number_brings i 2 test allows c t loaded Q R e (ap text_or_undefined h) k)

  pub bounds_bring : (low high : Bound) → bounds_fit lists low high ≡ true → (i : ℕ) (s : Store) (Q R : Claim) → s.registers 1 ≡ value.Number i
      → Settles (is_within (bound_number look low) (bound_number look high) i) s.output Q R → Brings v None (bounds_block low high) s Q R
  bounds_bring low high z i s Q R e k =
      let both = and_parts (bound_fits lists low) (bound_fits lists high) z in
      bound_brings i (IsLess 1 3) _ (low_test i) low both.0 s _ R e
      (by_low (is_at_least (bound_number look low) i) (settles_and (is_at_least (bound_number look low) i) (is_at_most (bound_number look high) i) s.output Q R
      k) both.1)
    where
      by_high : (b : Bool) (n : Store) → Settles b n.output Q R → Bounds i b n.output Q R
      by_high b n k = grind (arith, common_steps)

      by_low : (b : Bool) → Settles b s.output (λ n. Settles (is_at_most (bound_number look high) i) n.output Q R) R → bound_fits lists high ≡ true
          → Bounds i b s.output (λ n. Brings v None (bound_block (IsLess 3 1) high) n Q R) R
      by_low true k y = λ n f g. bound_brings i (IsLess 3 1) _ (high_test i) high y n Q R f (by_high (is_at_most (bound_number look high) i) n (k n g))
      by_low false k y = k

  -- ---- whether a name is defined

  pub loaded_tested : (list : Bool) (name : Text) (m : Option Meaning) → look_up v name ≡ m → (s : Store) (Q R : Claim)
      → Settles (is_defined (seen_as v list m)) s.output Q R → Acted v None (loading list name) s (λ n. Tested (is_missing list) n (R n) Q)
  loaded_tested false name None e s Q R k = inl (ap (λ m. text_or_undefined (text_in m)) e, k _ refl)
  loaded_tested false name (Some (Several ts)) e s Q R k = inl (ap (λ m. text_or_undefined (text_in m)) e, k _ refl)
  loaded_tested false name (Some (Single t)) e s Q R k = inr (t, ap (λ m. text_or_undefined (text_in m)) e, k _ refl)
  loaded_tested true name None e s Q R k = inl (ap (λ m. value.List (members_in m)) e, k _ refl)
  loaded_tested true name (Some (Single t)) e s Q R k = inl (ap (λ m. value.List (members_in m)) e, k _ refl)
  loaded_tested true name (Some (Several [])) e s Q R k = inl (ap (λ m. value.List (members_in m)) e, k _ refl)
  loaded_tested true name (Some (Several (t ∷ ts))) e s Q R k = inr (t, ts, ap (λ m. value.List (members_in m)) e, k _ refl)

  -- ---- texts

  pub given_brings : (name : Text) (o : Option Text) → text_of v name ≡ o → (s : Store) (Q R : Claim) → Settles (is_given o) s.output Q R
      → Brings v None (guard_block lists (guard.Given name)) s Q R
  given_brings name None e s Q R k = inl (ap text_or_undefined e, k _ refl)
  given_brings name (Some []) e s Q R k = inr ([], ap text_or_undefined e, inl (ap text_or_undefined e, k _ refl))
  given_brings name (Some (b ∷ t)) e s Q R k = inr (b ∷ t, ap text_or_undefined e, inr (b, t, ap text_or_undefined e, k _ refl))

  pub same_brings : (name text : Text) (o : Option Text) → text_of v name ≡ o → (s : Store) (Q R : Claim) → Settles (is_text text o) s.output Q R
      → Brings v None (guard_block lists (guard.Same name text)) s Q R
  same_brings name text None e s Q R k = inl (ap text_or_undefined e, k _ refl)
  same_brings name text (Some t) e s Q R k = grind (arith, bytes_eq-Decides)

  pub between_brings : (name : Text) (low high : Bound) → bounds_fit lists low high ≡ true → (o : Option Text) → text_of v name ≡ o → (s : Store) (Q R : Claim)
      → Settles (is_number_within (bound_number look low) (bound_number look high) (option_and_then leading_number o)) s.output Q R
      → Brings v None (guard_block lists (guard.Between name low high)) s Q R
  between_brings name low high z None e s Q R k = inl (ap text_or_undefined e, k _ refl)
  between_brings name low high z (Some t) e s Q R k = inr (t, ap text_or_undefined e, (t, ap text_or_undefined e, by_number (leading_number t) refl k))
    where
      loaded : Store
      loaded = keeping 0 (text_or_undefined (text_of v name)) s

      by_number : (o : Option ℕ) → leading_number t ≡ o → Settles (is_number_within (bound_number look low) (bound_number look high) o) s.output Q R
          → ((leading_number t ≡ None) × R loaded)
          ⊎ ((i : ℕ) × (leading_number t ≡ Some i) × Brings v None (bounds_block low high) (keeping 1 (value.Number i) loaded) Q R)
      by_number None h k = inl (h, k _ refl)
      by_number (Some i) h k = inr (i, h, bounds_bring low high z i (keeping 1 (value.Number i) loaded) Q R refl k)
