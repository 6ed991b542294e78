-- Accents, and the text after them.
use Rattle.std.proofs.Common.{◌≡◌, ℕ, suc, ◌+◌, ◌<◌, ◌≤◌, [], ◌∷◌}
use Rattle.std.proofs.Common.{Bool, true, false, cond, Option, Some, None, length, drop}
use Rattle.std.proofs.Common.{refl, sym, ap, ◌∙◌, subst, arith}
use Rattle.std.specs.Prelude.{◌==◌}
use Rattle.std.specs.Option.{option_and_then, option_map}
use Rattle.std.specs.Str.{IsUtf8}
use Rattle.std.proofs.lemmas.Bool.{eqb-true}
use Rattle.std.proofs.lemmas.List.{drop-drop, length-drop}
use Rattle.std.proofs.lemmas.Option.{same_Some}
use Rattle.text_model.specs.Texts.{Text}
use Rattle.latex_text.specs.declared.commands.Command.{Command}
use Rattle.latex_text.specs.declared.bases.Base.{Base}
use Rattle.latex_text.specs.declared.places.Place.TheVariants.{Start, Word, Escaped, Name, Sign}
use Rattle.latex_text.specs.Places.{opening, closing, is_letter, next}
use Rattle.latex_text.specs.Groups.{ungrouped}
use Rattle.latex_text.specs.Commands.{composed, base_of, begins, of_letter, braced_letter, argument}
use Rattle.latex_text.specs.Texts.{IsFree}
use Rattle.latex_text.proofs.Characters.{composed_character}
use Rattle.latex_text.proofs.PlaceSteps.{in_text_ordinary}
use Rattle.latex_text.proofs.Settled.{settled_text}
use Rattle.latex_text.proofs.BaseLetters.{after_ascii, after_second, before_lead, IsBase, is_base}
use Rattle.latex_text.proofs.TakenCommands.{IsTaken, IsEnded, made, letter_taken}

-- ---- accents

pub accent_taken : (t : Text) (a others : ℕ) (base : Base) (p : Command) → IsEnded t (base.len + others) → 2 ≤ base.len + others
    → of_letter a others base ≡ Some p → IsTaken t p
accent_taken t a others base p ended two h = by_letter (composed a base.letter) refl h
  where
    by_letter : (o : Option ℕ) → composed a base.letter ≡ o → option_map (λ c. made (base.len + others) (Some c)) o ≡ Some p → IsTaken t p
    by_letter None e g = cc
    by_letter (Some c) e g =
        subst (IsTaken t) (same_Some (made (base.len + others) (Some c)) p g)
        (letter_taken t (base.len + others) 2 c ended (composed_character a base.letter c e).character two)

pub argument_next : (x : Bool) → next (cond x Name Sign) opening ≡ Start
argument_next true = refl
argument_next false = refl

pub space_next : (x : Bool) → next (cond x Name Sign) 0x20 ≡ Start
space_next true = refl
space_next false = refl

-- after a closing brace
pub record IsClosed (v : Text) : Type 0 where
  pub free : IsFree Word v → IsFree Word (ungrouped (drop 1 v))
  pub utf8 : IsUtf8 v → IsUtf8 (drop 1 v)
  pub some : 1 ≤ length v

pub is_closed : (v : Text) → begins closing v ≡ true → IsClosed v
is_closed [] h = cc
is_closed (b ∷ v) h =
    let is = eqb-true b closing h in
    record {
      free = λ free. settled_text Word v refl (subst (λ k. IsFree (next Word k) v) is free.1);
      utf8 = λ utf8. after_ascii b v (subst (λ k. k < 128) (sym is) (omega arith)) utf8;
      some = omega arith;
    }

pub braced_ended : (a b : ℕ) (w : Text) (base : Base) → b ≡ opening → IsBase w base → begins closing (drop base.len w) ≡ true
    → IsEnded (a ∷ b ∷ w) (base.len + 3)
braced_ended a b w base is it close =
    let closed : IsClosed (drop base.len w) = is_closed (drop base.len w) close in
    let some = closed.some in
    let left = length-drop base.len w in
    let count : base.len + 3 ≡ suc (suc (base.len + 1)) = omega arith in
    let rest : drop (base.len + 3) (a ∷ b ∷ w) ≡ drop 1 (drop base.len w) =
    ap (λ k. drop k (a ∷ b ∷ w)) count ∙ sym (drop-drop 1 base.len w) in
    record {
      within = omega (arith, some, left);
      free = λ free. subst (λ v. IsFree Word (ungrouped v)) (sym rest) (closed.free (it.free Start (in_text_ordinary true)
          (subst (λ s. IsFree s w) (ap (next (next Escaped a)) is ∙ argument_next (is_letter a)) free.1.1)));
      utf8 = λ utf8. subst IsUtf8 (sym rest) (closed.utf8 (it.utf8 (after_second a b w (subst (λ k. k < 128) (sym is) (omega arith)) utf8)));
    }

pub spaced_ended : (a b : ℕ) (w : Text) (base : Base) → b ≡ 0x20 → IsBase w base → IsEnded (a ∷ b ∷ w) (base.len + 2)
spaced_ended a b w base is it =
    let within = it.within in
    let count : base.len + 2 ≡ suc (suc base.len) = omega arith in
    let rest : drop (base.len + 2) (a ∷ b ∷ w) ≡ drop base.len w = ap (λ k. drop k (a ∷ b ∷ w)) count in
    record {
      within = omega (arith, within);
      free = λ free. subst (λ v. IsFree Word (ungrouped v)) (sym rest) (settled_text Word (drop base.len w) refl (it.free Start (in_text_ordinary true)
          (subst (λ s. IsFree s w) (ap (next (next Escaped a)) is ∙ space_next (is_letter a)) free.1.1)));
      utf8 = λ utf8. subst IsUtf8 (sym rest) (it.utf8 (after_second a b w (subst (λ k. k < 128) (sym is) (omega arith)) utf8));
    }

pub bare_ended : (a b : ℕ) (w : Text) (base : Base) → is_letter a ≡ false → IsBase (b ∷ w) base → IsEnded (a ∷ b ∷ w) (base.len + 1)
bare_ended a b w base sign it =
    let within = it.within in
    let count : base.len + 1 ≡ suc base.len = omega arith in
    let rest : drop (base.len + 1) (a ∷ b ∷ w) ≡ drop base.len (b ∷ w) = ap (λ k. drop k (a ∷ b ∷ w)) count in
    record {
      within = omega (arith, within);
      free = λ free. subst (λ v. IsFree Word (ungrouped v)) (sym rest) (settled_text Word (drop base.len (b ∷ w)) refl
          (it.free Sign (in_text_ordinary false) (subst (λ x. IsFree (cond x Name Sign) (b ∷ w)) sign free.1)));
      utf8 = λ utf8. subst IsUtf8 (sym rest) (it.utf8 (before_lead a b w it.lead utf8));
    }

pub argument_taken : (a : ℕ) (u : Text) (p : Command) → argument a u ≡ Some p → IsTaken (a ∷ u) p
argument_taken a [] p h = cc
argument_taken a (b ∷ w) p h = by_opening (b == opening) refl h
  where
    braced : (base : Base) → b ≡ opening → IsBase w base → (x : Bool) → begins closing (drop base.len w) ≡ x
        → cond x (of_letter a 3 base) None ≡ Some p → IsTaken (a ∷ b ∷ w) p
    braced base is it true e g = accent_taken (a ∷ b ∷ w) a 3 base p (braced_ended a b w base is it e) (omega arith) g
    braced base is it false e g = cc

    by_braced : (o : Option Base) → base_of w ≡ o → b ≡ opening → option_and_then (braced_letter a w) o ≡ Some p → IsTaken (a ∷ b ∷ w) p
    by_braced None e is g = cc
    by_braced (Some base) e is g = braced base is (is_base w base e) (begins closing (drop base.len w)) refl g

    by_spaced : (o : Option Base) → base_of w ≡ o → b ≡ 0x20 → option_and_then (of_letter a 2) o ≡ Some p → IsTaken (a ∷ b ∷ w) p
    by_spaced None e is g = cc
    by_spaced (Some base) e is g =
        accent_taken (a ∷ b ∷ w) a 2 base p (spaced_ended a b w base is (is_base w base e)) (omega arith) g

    by_bare : (o : Option Base) → base_of (b ∷ w) ≡ o → is_letter a ≡ false → option_and_then (of_letter a 1) o ≡ Some p → IsTaken (a ∷ b ∷ w) p
    by_bare None e sign g = cc
    by_bare (Some base) e sign g =
        let it : IsBase (b ∷ w) base = is_base (b ∷ w) base e in
        let some = it.some in
        accent_taken (a ∷ b ∷ w) a 1 base p (bare_ended a b w base sign it) (omega (arith, some)) g

    by_letter : (x : Bool) → is_letter a ≡ x → cond x None (option_and_then (of_letter a 1) (base_of (b ∷ w))) ≡ Some p → IsTaken (a ∷ b ∷ w) p
    by_letter true e g = cc
    by_letter false e g = by_bare (base_of (b ∷ w)) refl e g

    by_space : (x : Bool) → (b == 0x20) ≡ x
        → cond x (option_and_then (of_letter a 2) (base_of w)) (cond (is_letter a) None (option_and_then (of_letter a 1) (base_of (b ∷ w)))) ≡ Some p
        → IsTaken (a ∷ b ∷ w) p
    by_space true e g = by_spaced (base_of w) refl (eqb-true b 0x20 e) g
    by_space false e g = by_letter (is_letter a) refl g

    by_opening : (x : Bool) → (b == opening) ≡ x
        → cond x (option_and_then (braced_letter a w) (base_of w)) (cond (b == 0x20) (option_and_then (of_letter a 2) (base_of w))
        (cond (is_letter a) None (option_and_then (of_letter a 1) (base_of (b ∷ w))))) ≡ Some p → IsTaken (a ∷ b ∷ w) p
    by_opening true e g = by_braced (base_of w) refl (eqb-true b opening e) g
    by_opening false e g = by_space (b == 0x20) refl g
