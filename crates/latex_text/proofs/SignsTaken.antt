-- Reserved characters and apostrophes, and the text after them.
use Rattle.std.proofs.Common.{◌≡◌, ℕ, ◌<◌, ◌⊎◌, inl, inr, [], ◌∷◌}
use Rattle.std.proofs.Common.{◌++◌, Bool, true, false, cond, Some, None, length}
use Rattle.std.proofs.Common.{refl, sym, ap, subst, arith}
use Rattle.std.specs.Prelude.{◌==◌, ◌&&◌, ◌||◌, not, encode_utf8}
use Rattle.std.specs.Char.{is_ascii_uppercase}
use Rattle.std.specs.List.{list_all}
use Rattle.std.specs.Option.{unwrap_or}
use Rattle.std.specs.Str.{IsUtf8}
use Rattle.std.proofs.lemmas.Bool.{and_parts, or_cases, eqb-true, not-true}
use Rattle.std.proofs.lemmas.Option.{same_Some}
use Rattle.std.proofs.lemmas.Str.{IsUtf8-encode, encode_ascii, length-encode}
use Rattle.std.proofs.lemmas.Str.{len_utf8_ascii}
use Rattle.text_model.specs.Texts.{Text}
use Rattle.latex_text.specs.declared.commands.Command.{Command}
use Rattle.latex_text.specs.declared.places.Place.TheVariants.{Name, Sign}
use Rattle.latex_text.specs.Places.{backslash, opening, dollar, is_letter}
use Rattle.latex_text.specs.Groups.{opened, ungrouped}
use Rattle.latex_text.specs.Commands.{is_reserved, is_plain, reserved}
use Rattle.latex_text.specs.Commands.{is_quoted, apostrophe}
use Rattle.latex_text.specs.Texts.{IsFree}
use Rattle.latex_text.proofs.Characters.{IsCharacter, is_scalar}
use Rattle.latex_text.proofs.Settled.{settled_sign, is_quiet, plain_free}
use Rattle.latex_text.proofs.BaseLetters.{after_ascii}
use Rattle.latex_text.proofs.TakenCommands.{IsTaken, IsEnded, made, letter_taken}

-- ---- signs

pub sign_ended : (b : ℕ) (t : Text) → is_letter b ≡ false → b < 128 → IsEnded (b ∷ t) 1
sign_ended b t sign ascii = record {
  within = omega arith;
  free = λ free. settled_sign t (subst (λ x. IsFree (cond x Name Sign) t) sign free.1);
  utf8 = λ utf8. after_ascii b t ascii utf8;
}

pub sign_taken : (b : ℕ) (t : Text) (c : ℕ) → is_letter b ≡ false → b < 128 → IsCharacter 1 c → IsTaken (b ∷ t) (record { len = 1; character = Some c })
sign_taken b t c sign ascii character = letter_taken (b ∷ t) 1 1 c (sign_ended b t sign ascii) character (omega arith)

pub ascii_character : (c : ℕ) → IsUtf8 (encode_utf8 c) → list_all is_quiet (encode_utf8 c) ≡ true → length (encode_utf8 c) ≡ 1 → IsCharacter 1 c
ascii_character c utf8 quiet one = record { utf8 = utf8; quiet = quiet; short = omega (arith, one) }

pub marks_character : (c : ℕ) → c < 128 → list_all is_quiet (encode_utf8 c) ≡ true → length (encode_utf8 c) ≡ 1 → IsCharacter 1 c
marks_character c h quiet one = ascii_character c (IsUtf8-encode c (is_scalar c (omega (arith, h)))) quiet one

-- the four reserved characters that are written, one after another
pub reserved_taken : (b : ℕ) (t : Text) → is_reserved b ≡ true → IsTaken (b ∷ t) (made 1 (Some b))
unfolding lib.Utf8.encode
reserved_taken b t h = by_last (or_cases _ (b == 0x5f) h)
  where
    at : (c : ℕ) → b ≡ c → IsTaken (c ∷ t) (made 1 (Some c)) → IsTaken (b ∷ t) (made 1 (Some b))
    at c e it = subst (λ k. IsTaken (k ∷ t) (made 1 (Some k))) (sym e) it

    by_first : ((b == 0x26) ≡ true) ⊎ ((b == 0x25) ≡ true) → IsTaken (b ∷ t) (made 1 (Some b))
    by_first (inl e) = at 0x26 (eqb-true b 0x26 e) (sign_taken 0x26 t 0x26 refl (omega arith) (marks_character 0x26 (omega arith) refl refl))
    by_first (inr e) = at 0x25 (eqb-true b 0x25 e) (sign_taken 0x25 t 0x25 refl (omega arith) (marks_character 0x25 (omega arith) refl refl))

    by_third : ((b == 0x26 || b == 0x25) ≡ true) ⊎ ((b == 0x23) ≡ true) → IsTaken (b ∷ t) (made 1 (Some b))
    by_third (inl e) = by_first (or_cases (b == 0x26) (b == 0x25) e)
    by_third (inr e) = at 0x23 (eqb-true b 0x23 e) (sign_taken 0x23 t 0x23 refl (omega arith) (marks_character 0x23 (omega arith) refl refl))

    by_last : ((b == 0x26 || b == 0x25 || b == 0x23) ≡ true) ⊎ ((b == 0x5f) ≡ true) → IsTaken (b ∷ t) (made 1 (Some b))
    by_last (inl e) = by_third (or_cases (b == 0x26 || b == 0x25) (b == 0x23) e)
    by_last (inr e) = at 0x5f (eqb-true b 0x5f e) (sign_taken 0x5f t 0x5f refl (omega arith) (marks_character 0x5f (omega arith) refl refl))

pub plain_ungrouped : (t : Text) → is_plain t ≡ true → ungrouped t ≡ t
plain_ungrouped [] h = refl
plain_ungrouped (b ∷ t) h =
    let parts = and_parts (not (b == backslash) && not (b == opening)) (is_plain t) h in
    let byte = and_parts (not (b == backslash)) (not (b == opening)) parts.0 in
    ap (λ x. cond x (unwrap_or (opened t) (b ∷ t)) (b ∷ t)) (not-true (b == opening) byte.1)

pub dollar_taken : (t : Text) → is_plain t ≡ true → IsTaken (dollar ∷ t) (made 1 (Some dollar))
dollar_taken t h = record {
  within = omega arith;
  short = omega (arith, length-encode dollar, len_utf8_ascii dollar (omega arith));
  free = λ s o free. subst (λ u. IsFree s (u ++ ungrouped t)) (sym (encode_ascii dollar (omega arith)))
      (subst (λ u. IsFree s (dollar ∷ u)) (sym (plain_ungrouped t h)) (plain_free s (dollar ∷ t) h));
  utf8 = λ utf8. after_ascii dollar t (omega arith) utf8;
  character = IsUtf8-encode dollar (is_scalar dollar (omega arith));
}

pub sign_command : (t : Text) (p : Command) → reserved t ≡ Some p → IsTaken t p
sign_command [] p h = cc
sign_command (b ∷ t) p h = by_sign (is_reserved b || b == dollar && is_plain t) refl h
  where
    by_kind : (is_reserved b ≡ true) ⊎ ((b == dollar && is_plain t) ≡ true) → IsTaken (b ∷ t) (made 1 (Some b))
    by_kind (inl e) = reserved_taken b t e
    by_kind (inr e) =
        let parts = and_parts (b == dollar) (is_plain t) e in
        subst (λ k. IsTaken (k ∷ t) (made 1 (Some k))) (sym (eqb-true b dollar parts.0)) (dollar_taken t parts.1)

    by_sign : (x : Bool) → (is_reserved b || b == dollar && is_plain t) ≡ x → cond x (Some (made 1 (Some b))) None ≡ Some p → IsTaken (b ∷ t) p
    by_sign true e g = subst (IsTaken (b ∷ t)) (same_Some (made 1 (Some b)) p g) (by_kind (or_cases (is_reserved b) (b == dollar && is_plain t) e))
    by_sign false e g = cc

pub quoted_taken : (t : Text) → is_quoted t ≡ true → IsTaken t (made 1 (Some 0x27))
unfolding lib.Utf8.encode
quoted_taken [] h = cc
quoted_taken (b ∷ []) h = cc
quoted_taken (b ∷ c ∷ t) h =
    let parts = and_parts (b == 0x27) (is_ascii_uppercase c) h in
    subst (λ k. IsTaken (k ∷ c ∷ t) (made 1 (Some 0x27))) (sym (eqb-true b 0x27 parts.0))
    (sign_taken 0x27 (c ∷ t) 0x27 refl (omega arith) (marks_character 0x27 (omega arith) refl refl))

pub apostrophe_taken : (x : Bool) (t : Text) (p : Command) → (x ≡ true → is_quoted t ≡ true) → apostrophe x ≡ Some p → IsTaken t p
apostrophe_taken true t p is h = subst (IsTaken t) (same_Some (made 1 (Some 0x27)) p h) (quoted_taken t (is refl))
apostrophe_taken false t p is h = cc
