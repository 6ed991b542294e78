-- How values that are written into a link lead on: without reserved characters they are plain, and otherwise as they stand.
use Rattle.std.proofs.Common.{◌≡◌, ℕ, ◌/◌, Bool, true, false, cond, [], ◌∷◌, ◌++◌, refl, ap, ◌∙◌, arith}
use Rattle.std.proofs.lemmas.Grind.{common_steps}
use Rattle.std.proofs.lemmas.Bool.{both_ways}
use Rattle.text_model.specs.Texts.{Text, is_unreserved, is_reserved, is_triplet}
use Rattle.text_model.specs.Writing.{hexadecimal_digit, is_unreserved_or_reserved, triplet_of, written_byte, written_u, written_ur}
use Rattle.rule_lint.specs.declared.host_state.HostState.{HostState}
use Rattle.rule_lint.specs.HostStates.{after_byte, after_text}
use Rattle.lint_laws.proofs.HostStates.{IsPlain, after_append, is_special, plain_append, plain_byte, plain_state}

-- ---- bytes

not_special : (test : ℕ → Bool) (kept : Bool) (b : ℕ) → test b ≡ kept → (test 0x2F ≡ kept → ⊥) → (test 0x3F ≡ kept → ⊥) → (test 0x23 ≡ kept → ⊥)
    → (test 0x40 ≡ kept → ⊥) → is_special b ≡ false
not_special test kept b is slash question hash at = grind (arith, common_steps)

unreserved_plain : (b : ℕ) → is_unreserved b ≡ true → is_special b ≡ false
unfolding is_unreserved
unreserved_plain b is = grind (arith, common_steps)

encoded_plain : (b : ℕ) → is_unreserved_or_reserved b ≡ false → is_special b ≡ false
unfolding is_unreserved is_reserved
encoded_plain b is =
    not_special is_unreserved_or_reserved false b is (λ e. both_ways true e refl) (λ e. both_ways true e refl) (λ e. both_ways true e refl)
    (λ e. both_ways true e refl)

digit_plain : (n : ℕ) → is_special (hexadecimal_digit n) ≡ false
digit_plain n = grind (arith, common_steps)

triplet_plain : (b : ℕ) → IsPlain (triplet_of b)
triplet_plain b = (refl, (digit_plain (b / 16), (digit_plain b, tt)))

-- ---- values without reserved characters

byte_plain : (stays : Bool) (b : ℕ) → is_unreserved b ≡ stays → IsPlain (written_byte stays b)
byte_plain stays b e = grind (arith, unreserved_plain, triplet_plain)

pub written_plain : (t : Text) → IsPlain (written_u t)
unfolding written_u
written_plain [] = tt
written_plain (b ∷ t) = plain_append (written_byte (is_unreserved b) b) (written_u t) (byte_plain (is_unreserved b) b refl) (written_plain t)

-- ---- values with reserved characters

byte_state : (s : HostState) (b : ℕ) → after_text s (written_byte (is_unreserved_or_reserved b) b) ≡ after_byte s b
byte_state s b = grind (arith, plain_state, triplet_plain, plain_byte, encoded_plain)

pub written_state : (s : HostState) (t : Text) → after_text s (written_ur t) ≡ after_text s t
unfolding written_ur
written_state s [] = refl
written_state s (b ∷ []) = byte_state s b
written_state s (b ∷ c ∷ []) =
    let first = written_byte (is_unreserved_or_reserved b) b in
    let second = written_byte (is_unreserved_or_reserved c) c in
    after_append s first second ∙ (byte_state (after_text s first) c ∙ ap (λ (r : HostState). after_byte r c) (byte_state s b))
written_state s (b ∷ c ∷ d ∷ t) =
    by_test (is_triplet b c d) (written_state (after_text s (b ∷ c ∷ d ∷ [])) t)
    (ap (λ (r : HostState). after_text r (written_ur (c ∷ d ∷ t))) (byte_state s b) ∙ written_state (after_byte s b) (c ∷ d ∷ t))
  where
    first : Text
    first = written_byte (is_unreserved_or_reserved b) b

    by_test : (x : Bool) → after_text (after_text s (b ∷ c ∷ d ∷ [])) (written_ur t) ≡ after_text s (b ∷ c ∷ d ∷ t)
        → after_text (after_text s first) (written_ur (c ∷ d ∷ t)) ≡ after_text s (b ∷ c ∷ d ∷ t)
        → after_text s (cond x (b ∷ c ∷ d ∷ written_ur t) (first ++ written_ur (c ∷ d ∷ t))) ≡ after_text s (b ∷ c ∷ d ∷ t)
    by_test x copied made = grind (arith, common_steps)
