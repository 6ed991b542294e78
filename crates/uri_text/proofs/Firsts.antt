-- The first byte of a text is encoded first.
use Rattle.std.proofs.Common.{◌≡◌, ℕ, ◌<◌, [], ◌∷◌, ◌++◌, length, drop, get_or, Bool, true, false, ◌&&◌, ◌||◌, ◌==◌, refl, sym, ap, ◌∙◌, arith, append-nil}
use Rattle.std.specs.Prelude.{if◌then◌else◌}
use Rattle.std.proofs.lemmas.Bool.{and_parts}
use Rattle.std.proofs.lemmas.Bool.Decides.{nat_tests}
use Rattle.std.proofs.Math.Bool.{or-false, or-true}
use Rattle.text_model.specs.Texts.{Text, begins_with_triplet, is_unreserved, is_hexadecimal, is_triplet}
use Rattle.text_model.specs.Writing.{written, written_byte, written_u, written_ur, is_unreserved_or_reserved}
use Rattle.text_model.specs.declared.writing.Writing.{Writing}
use Rattle.text_model.specs.declared.writing.Writing.TheVariants.{U, UR}
use Rattle.text_model.proofs.Unchanged.{not_percent}
use Rattle.text_model.proofs.Written.{written_ur-byte, written_ur-nothing}
use Rattle.uri_text.specs.Private.Copied.{is_copied}

written_u-nothing : (t : Text) → length t ≡ 0 → written_u t ≡ []
unfolding written_u
written_u-nothing [] e = refl
written_u-nothing (b ∷ t) e = absurd (omega arith)

written_u-first : (t : Text) → 0 < length t → written_u t ≡ written_byte (is_unreserved (get_or t 0 0)) (get_or t 0 0) ++ written_u (drop 1 t)
unfolding written_u
written_u-first [] some = absurd (omega arith)
written_u-first (b ∷ t) some = refl

-- ---- UR

no_triplet : (b : ℕ) (t : Text) → is_unreserved_or_reserved b ≡ true → begins_with_triplet (b ∷ t) ≡ false
no_triplet b t stays = grind (arith, not_percent)

hexadecimal_stays : (b : ℕ) → is_hexadecimal b ≡ true → is_unreserved_or_reserved b ≡ true
unfolding is_unreserved
hexadecimal_stays b h = grind (arith, nat_tests)

-- a digit after a `%` is copied
digit_copied : (b : ℕ) (t : Text) → is_hexadecimal b ≡ true → written_ur (b ∷ t) ≡ b ∷ written_ur t
digit_copied b t h = grind (arith, hexadecimal_stays, written_ur-byte, no_triplet)

-- the first byte is copied if it may stay, or if a triplet begins with it
written_ur-first : (t : Text) → 0 < length t
    → written_ur t ≡ written_byte (is_unreserved_or_reserved (get_or t 0 0) || begins_with_triplet t) (get_or t 0 0) ++ written_ur (drop 1 t)
unfolding written_ur
written_ur-first [] some = absurd (omega arith)
written_ur-first (b ∷ []) some = ap (λ x. written_byte x b) (sym (or-false (is_unreserved_or_reserved b))) ∙ sym (append-nil _)
written_ur-first (b ∷ c ∷ []) some = ap (λ x. written_byte x b ++ written_byte (is_unreserved_or_reserved c) c) (sym (or-false (is_unreserved_or_reserved b)))
written_ur-first (b ∷ high ∷ low ∷ t) some = by_test (is_triplet b high low) refl
  where
    by_test : (x : Bool) → is_triplet b high low ≡ x
        → (if x then (b ∷ high ∷ low ∷ written_ur t) else (written_byte (is_unreserved_or_reserved b) b ++ written_ur (high ∷ low ∷ t)))
        ≡ written_byte (is_unreserved_or_reserved b || x) b ++ written_ur (high ∷ low ∷ t)
    by_test true e =
        let digits = and_parts (is_hexadecimal high) (is_hexadecimal low) ((and_parts (b == 37) (is_hexadecimal high && is_hexadecimal low) e).1) in
        let rest : written_ur (high ∷ low ∷ t) ≡ high ∷ low ∷ written_ur t =
        digit_copied high (low ∷ t) digits.0 ∙ ap (λ x. high ∷ x) (digit_copied low t digits.1) in
        ap (λ x. b ∷ x) (sym rest) ∙ ap (λ x. written_byte x b ++ written_ur (high ∷ low ∷ t)) (sym (or-true (is_unreserved_or_reserved b)))
    by_test false e = ap (λ x. written_byte x b ++ written_ur (high ∷ low ∷ t)) (sym (or-false (is_unreserved_or_reserved b)))

-- ---- both

pub written-nothing : (w : Writing) (t : Text) → length t ≡ 0 → written w t ≡ []
written-nothing U t e = written_u-nothing t e
written-nothing UR t e = written_ur-nothing t e

pub written-first : (w : Writing) (t : Text) → 0 < length t → written w t ≡ written_byte (is_copied w t) (get_or t 0 0) ++ written w (drop 1 t)
written-first U t some = written_u-first t some
written-first UR t some = written_ur-first t some
