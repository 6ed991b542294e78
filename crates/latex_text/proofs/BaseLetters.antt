-- The letters of accents.
use Rattle.std.proofs.Common.{◌≡◌, ℕ, ◌<◌, ◌≤◌, [], ◌∷◌}
use Rattle.std.proofs.Common.{◌++◌, Bool, true, false, cond, Some, None, length, get_or, drop}
use Rattle.std.proofs.Common.{refl, sym, ap, ◌∙◌, subst, arith}
use Rattle.std.specs.Prelude.{◌==◌, ◌&&◌, encode_utf8}
use Rattle.std.specs.Str.{IsUtf8}
use Rattle.std.proofs.lemmas.Bool.{and_parts, eqb-true}
use Rattle.std.proofs.lemmas.Option.{same_Some}
use Rattle.std.proofs.lemmas.Str.{IsUtf8-drop, IsUtf8-past_char, IsCharBoundary-after_ascii}
use Rattle.text_model.specs.Texts.{Text}
use Rattle.latex_text.specs.declared.bases.Base.{Base}
use Rattle.latex_text.specs.declared.places.Place.{Place}
use Rattle.latex_text.specs.declared.places.Place.TheVariants.{Word}
use Rattle.latex_text.specs.Places.{backslash, dollar, is_letter, next, has_groups}
use Rattle.latex_text.specs.Commands.{dotless, base_of}
use Rattle.latex_text.specs.Texts.{IsFree}
use Rattle.latex_text.proofs.PlaceSteps.{text_next}
use Rattle.latex_text.proofs.Frees.{weak}

-- ---- UTF-8

-- after a byte of ASCII
pub after_ascii : (b : ℕ) (t : Text) → b < 128 → IsUtf8 (b ∷ t) → IsUtf8 t
after_ascii b t h utf8 = IsUtf8-drop (b ∷ t) 1 utf8 (IsCharBoundary-after_ascii (b ∷ t) 0 utf8 (omega arith) h)

pub after_second : (a b : ℕ) (t : Text) → b < 128 → IsUtf8 (a ∷ b ∷ t) → IsUtf8 t
after_second a b t h utf8 = IsUtf8-drop (a ∷ b ∷ t) 2 utf8 (IsCharBoundary-after_ascii (a ∷ b ∷ t) 1 utf8 (omega arith) h)

-- before a byte with which a character begins
pub before_lead : (a b : ℕ) (t : Text) → (128 ≤ b → 192 ≤ b) → IsUtf8 (a ∷ b ∷ t) → IsUtf8 (b ∷ t)
before_lead a b t h utf8 = IsUtf8-drop (a ∷ b ∷ t) 1 utf8 (omega arith, λ _ g. h g)

pub letter_ascii : (b : ℕ) → is_letter b ≡ true → b < 128
letter_ascii b h = grind arith

pub letter_not : (b mark : ℕ) → is_letter mark ≡ false → is_letter b ≡ true → (b == mark) ≡ false
letter_not b mark m h = by_mark (b == mark) refl
  where
    by_mark : (x : Bool) → (b == mark) ≡ x → x ≡ false
    by_mark true e = let wrong : true ≡ false = sym h ∙ ap is_letter (eqb-true b mark e) ∙ m in cc
    by_mark false e = refl

-- ---- the letter of an accent

-- after a place in a text
abbrev pub FollowsText : Place → Type 0
FollowsText s = (b : ℕ) → (b == backslash) ≡ false → (b == dollar) ≡ false → has_groups (next s b) ≡ true

pub record IsBase (t : Text) (base : Base) : Type 0 where
  pub within : base.len ≤ length t
  pub some : 1 ≤ base.len
  pub few : base.len ≤ 2
  pub lead : 128 ≤ get_or t 0 0 → 192 ≤ get_or t 0 0
  pub free : (s : Place) → FollowsText s → IsFree s t → IsFree Word (drop base.len t)
  pub utf8 : IsUtf8 t → IsUtf8 (drop base.len t)

abbrev pub made_base : ℕ → ℕ → Base
made_base n l = record { len = n; letter = l }

pub letter_base : (b : ℕ) (t : Text) → is_letter b ≡ true → IsBase (b ∷ t) (record { len = 1; letter = b })
letter_base b t h =
    let ascii = letter_ascii b h in
    record {
      within = omega arith;
      some = omega arith;
      few = omega arith;
      lead = λ g. absurd (omega (arith, ascii, g));
      free = λ s follows free. weak (next s b) Word t (follows b (letter_not b backslash refl h) (letter_not b dollar refl h)) refl free.1;
      utf8 = λ utf8. after_ascii b t ascii utf8;
    }

-- two bytes that are a character
pub pair_base : (b c l n : ℕ) (t : Text) → (b == backslash) ≡ false → (b == dollar) ≡ false → (c == backslash) ≡ false → (c == dollar) ≡ false
    → 192 ≤ b → encode_utf8 n ≡ b ∷ c ∷ [] → IsBase (b ∷ c ∷ t) (record { len = 2; letter = l })
pair_base b c l n t e d f g lead is = record {
  within = omega arith;
  some = omega arith;
  few = omega arith;
  lead = λ _. lead;
  free = λ s follows free. weak (next (next s b) c) Word t (text_next (next s b) c (follows b e d) f g) refl free.1.1;
  utf8 = λ utf8. IsUtf8-past_char (b ∷ c ∷ t) t n utf8 (ap (λ u. u ++ t) (sym is));
}

pub dotless_base : (t : Text) (base : Base) → dotless t ≡ Some base → IsBase t base
unfolding lib.Utf8.encode
dotless_base [] base h = cc
dotless_base (b ∷ []) base h = cc
dotless_base (b ∷ c ∷ t) base h = by_first (b == 0xc4 && c == 0xb1) refl h
  where
    by_second : (x : Bool) → (b == 0xc8 && c == 0xb7) ≡ x → cond x (Some (made_base 2 0x6a)) None ≡ Some base → IsBase (b ∷ c ∷ t) base
    by_second true e g =
        let parts = and_parts (b == 0xc8) (c == 0xb7) e in
        let first = sym (eqb-true b 0xc8 parts.0) in
        let second = sym (eqb-true c 0xb7 parts.1) in
        subst (λ k. IsBase (k ∷ c ∷ t) base) first (subst (λ k. IsBase (0xc8 ∷ k ∷ t) base) second
        (subst (IsBase (0xc8 ∷ 0xb7 ∷ t)) (same_Some (made_base 2 0x6a) base g) (pair_base 0xc8 0xb7 0x6a 0x237 t refl refl refl refl (omega arith) refl)))
    by_second false e g = cc

    by_first : (x : Bool) → (b == 0xc4 && c == 0xb1) ≡ x
        → cond x (Some (made_base 2 0x69)) (cond (b == 0xc8 && c == 0xb7) (Some (made_base 2 0x6a)) None) ≡ Some base → IsBase (b ∷ c ∷ t) base
    by_first true e g =
        let parts = and_parts (b == 0xc4) (c == 0xb1) e in
        let first = sym (eqb-true b 0xc4 parts.0) in
        let second = sym (eqb-true c 0xb1 parts.1) in
        subst (λ k. IsBase (k ∷ c ∷ t) base) first (subst (λ k. IsBase (0xc4 ∷ k ∷ t) base) second
        (subst (IsBase (0xc4 ∷ 0xb1 ∷ t)) (same_Some (made_base 2 0x69) base g) (pair_base 0xc4 0xb1 0x69 0x131 t refl refl refl refl (omega arith) refl)))
    by_first false e g = by_second (b == 0xc8 && c == 0xb7) refl g

pub is_base : (t : Text) (base : Base) → base_of t ≡ Some base → IsBase t base
is_base [] base h = cc
is_base (b ∷ t) base h = by_letter (is_letter b) refl h
  where
    by_letter : (x : Bool) → is_letter b ≡ x → cond x (Some (made_base 1 b)) (dotless (b ∷ t)) ≡ Some base → IsBase (b ∷ t) base
    by_letter true e g = subst (IsBase (b ∷ t)) (same_Some (made_base 1 b) base g) (letter_base b t e)
    by_letter false e g = dotless_base (b ∷ t) base g
