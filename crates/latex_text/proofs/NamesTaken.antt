-- Names of letters and fonts, and the text after them.
use Rattle.std.proofs.Common.{◌≡◌, ℕ, suc, ◌+◌, ◌<◌, ◌≤◌, [], ◌∷◌}
use Rattle.std.proofs.Common.{Bool, true, false, cond, Option, Some, None, length, take, drop}
use Rattle.std.proofs.Common.{refl, sym, ap, ◌∙◌, subst, arith}
use Rattle.std.specs.Prelude.{◌==◌, ◌&&◌}
use Rattle.std.specs.Str.{IsUtf8}
use Rattle.std.proofs.lemmas.Bool.{eqb-true}
use Rattle.std.proofs.lemmas.List.{drop-drop, length-drop, length-take-le}
use Rattle.std.proofs.lemmas.Option.{same_Some}
use Rattle.text_model.specs.Texts.{Text}
use Rattle.latex_text.specs.declared.commands.Command.{Command}
use Rattle.latex_text.specs.declared.places.Place.TheVariants.{Start, Word, Escaped, Name, Sign}
use Rattle.latex_text.specs.Places.{opening, is_letter, in_text, next}
use Rattle.latex_text.specs.Letters.{letters_names}
use Rattle.latex_text.specs.Groups.{ungrouped}
use Rattle.latex_text.specs.Commands.{letter_named, begins}
use Rattle.latex_text.specs.Commands.{name_length, space_length, is_font_change, is_font, named_with}
use Rattle.latex_text.specs.Commands.{named_by, named}
use Rattle.latex_text.specs.Texts.{IsFree}
use Rattle.latex_text.proofs.Characters.{named_character}
use Rattle.latex_text.proofs.Settled.{settled_text, is_lettered, settled_name}
use Rattle.latex_text.proofs.BaseLetters.{after_ascii, letter_ascii}
use Rattle.latex_text.proofs.TakenCommands.{IsTaken, IsEnded, made, letter_taken, font_taken}

-- ---- names

pub record IsNamed (t : Text) (n : ℕ) : Type 0 where
  pub within : n ≤ length t
  pub free : IsFree Name t → IsFree Name (drop n t)
  pub utf8 : IsUtf8 t → IsUtf8 (drop n t)
  pub over : is_lettered (drop n t) ≡ false

pub one_more : (n : ℕ) → suc n ≡ 1 + n
one_more n = omega arith

pub is_named : (t : Text) → IsNamed t (name_length t)
is_named [] = record { within = omega arith; free = λ free. free; utf8 = λ utf8. utf8; over = refl }
is_named (b ∷ t) = by_letter (is_letter b) refl (is_named t)
  where
    by_letter : (x : Bool) → is_letter b ≡ x → IsNamed t (name_length t) → IsNamed (b ∷ t) (cond x (1 + name_length t) 0)
    by_letter true e it =
        let within = it.within in
        subst (IsNamed (b ∷ t)) (one_more (name_length t))
        (record {
          within = omega (arith, within);
          free = λ free. it.free (subst (λ x. IsFree (cond x Name (in_text false b)) t) e free.1);
          utf8 = λ utf8. it.utf8 (after_ascii b t (letter_ascii b e) utf8);
          over = it.over;
        })
    by_letter false e it = record { within = omega arith; free = λ free. free; utf8 = λ utf8. utf8; over = e }

-- a name after the backslash
pub record IsName (t : Text) (n : ℕ) : Type 0 where
  pub within : n ≤ length t
  pub free : IsFree Escaped t → IsFree Name (drop n t)
  pub utf8 : IsUtf8 t → IsUtf8 (drop n t)
  pub over : is_lettered (drop n t) ≡ false

pub name_ended : (t : Text) (n : ℕ) → IsName t n → IsEnded t n
name_ended t n it = record {
  within = it.within;
  free = λ free. settled_name (drop n t) it.over (it.free free);
  utf8 = it.utf8;
}

pub space_ended : (t : Text) (n : ℕ) → IsName t n → IsEnded t (n + space_length (drop n t))
space_ended t n it = by_space (drop n t) refl
  where
    after : (x : Bool) (b : ℕ) (u : Text) → drop n t ≡ b ∷ u → (b == 0x20) ≡ x → IsEnded t (n + cond x 1 0)
    after true b u e is =
        let rest : drop (n + 1) t ≡ u = ap (λ k. drop k t) (omega arith) ∙ sym (drop-drop 1 n t) ∙ ap (drop 1) e in
        let all = length-drop n t in
        let here = ap length e in
        let space = eqb-true b 0x20 is in
        record {
          within = omega (arith, all, here);
          free = λ free. subst (λ v. IsFree Word (ungrouped v)) (sym rest) (settled_text Start u refl
              (subst (λ k. IsFree (next Name k) u) space (subst (λ v. IsFree Name v) e (it.free free)).1));
          utf8 = λ utf8. subst IsUtf8 (sym rest)
              (after_ascii b u (subst (λ k. k < 128) (sym space) (omega arith)) (subst IsUtf8 e (it.utf8 utf8)));
        }
    after false b u e is = subst (IsEnded t) (omega arith) (name_ended t n it)

    by_space : (v : Text) → drop n t ≡ v → IsEnded t (n + space_length v)
    by_space [] e = subst (IsEnded t) (omega arith) (name_ended t n it)
    by_space (b ∷ u) e = after (b == 0x20) b u e refl

pub named_taken : (t name : Text) (n : ℕ) (p : Command) → IsName t n → length name ≡ n → named_with name (drop n t) n (letter_named name) ≡ Some p
    → IsTaken t p
named_taken t name n p it size h = by_letter (letter_named name) refl h
  where
    by_font : (x : Bool) → cond x (Some (made n None)) None ≡ Some p → IsTaken t p
    by_font true g = subst (IsTaken t) (same_Some (made n None) p g) (font_taken t n (name_ended t n it))
    by_font false g = cc

    by_change : (x : Bool) → cond x (Some (made (n + space_length (drop n t)) None))
        (cond (is_font name && begins opening (drop n t)) (Some (made n None)) None) ≡ Some p → IsTaken t p
    by_change true g =
        subst (IsTaken t) (same_Some (made (n + space_length (drop n t)) None) p g)
        (font_taken t (n + space_length (drop n t)) (space_ended t n it))
    by_change false g = by_font (is_font name && begins opening (drop n t)) g

    by_letter : (o : Option ℕ) → letter_named name ≡ o → named_with name (drop n t) n o ≡ Some p → IsTaken t p
    by_letter (Some c) e g =
        subst (IsTaken t) (same_Some (made (n + space_length (drop n t)) (Some c)) p g)
        (letter_taken t (n + space_length (drop n t)) (length name) c (space_ended t n it) (named_character name c e).character (omega (arith, size)))
    by_letter None e g = by_change (is_font_change name) g

pub unnamed : (rest : Text) → named_with [] rest 0 (letter_named []) ≡ None
unfolding letter_named is_font_change is_font letters_names
unnamed rest = refl

pub name_taken : (t : Text) (p : Command) → named t ≡ Some p → IsTaken t p
name_taken [] p h = let wrong : None ≡ Some p = sym (unnamed []) ∙ h in cc
name_taken (b ∷ t) p h = by_letter (is_letter b) refl h
  where
    by_letter : (x : Bool) → is_letter b ≡ x → named_by (b ∷ t) (cond x (1 + name_length t) 0) ≡ Some p → IsTaken (b ∷ t) p
    by_letter true e g =
        let it : IsNamed t (name_length t) = is_named t in
        let within = it.within in
        named_taken (b ∷ t) (b ∷ take (name_length t) t) (suc (name_length t)) p
        (record {
          within = omega (arith, within);
          free = λ free. it.free (subst (λ x. IsFree (cond x Name Sign) t) e free.1);
          utf8 = λ utf8. it.utf8 (after_ascii b t (letter_ascii b e) utf8);
          over = it.over;
        }) (ap suc (length-take-le (name_length t) t within))
        (subst (λ n. named_by (b ∷ t) n ≡ Some p) (sym (one_more (name_length t))) g)
    by_letter false e g = let wrong : None ≡ Some p = sym (unnamed (b ∷ t)) ∙ g in cc
