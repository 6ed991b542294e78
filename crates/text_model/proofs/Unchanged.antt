-- A text is URI text exactly if encoding it by UR changes nothing.
use Rattle.std.proofs.Common.{◌≡◌, ◌≢◌, ℕ, [], ◌∷◌, ◌++◌, true, false, refl, sym, ap, ◌∙◌, subst, append_assoc, append-nil, arith}
use Rattle.std.specs.Prelude.{◌↔◌}
use Rattle.std.proofs.lemmas.Bool.{both_ways}
use Rattle.std.proofs.lemmas.Grind.{common_steps}
use Rattle.text_model.specs.Texts.{Text, begins_with_triplet, is_hexadecimal, is_unreserved, is_reserved}
use Rattle.text_model.specs.Writing.{written_byte, is_unreserved_or_reserved, written_ur}
use Rattle.text_model.specs.UriText.{IsUriText, nothing, and_character, and_triplet}
use Rattle.text_model.proofs.UriTexts.{written_ur-uri}
use Rattle.text_model.proofs.Written.{written_ur-triplet, written_ur-byte}

-- no character that denotes itself is the percent sign
pub not_percent : (b : ℕ) → is_unreserved_or_reserved b ≡ true → b ≢ 37
unfolding is_unreserved is_reserved
not_percent b h e = both_ways (is_unreserved_or_reserved b) (subst (λ (k : ℕ). is_unreserved_or_reserved k ≡ false) (sym e) refl) h

no_triplet : (b : ℕ) (t : Text) → b ≢ 37 → begins_with_triplet (b ∷ t) ≡ false
no_triplet b t h = grind (arith, common_steps)

-- ---- URI text is copied

copied_character : (b : ℕ) (t : Text) → is_unreserved_or_reserved b ≡ true → written_ur (b ∷ t) ≡ b ∷ written_ur t
copied_character b t h =
    written_ur-byte (b ∷ t) (no_triplet b t (not_percent b h)) (omega arith) ∙ ap (λ stays. written_byte stays b ++ written_ur t) h

copied_triplet : (high low : ℕ) (t : Text) → is_hexadecimal high ≡ true → is_hexadecimal low ≡ true
    → written_ur (37 ∷ high ∷ low ∷ t) ≡ 37 ∷ high ∷ low ∷ written_ur t
copied_triplet high low t h k = written_ur-triplet (37 ∷ high ∷ low ∷ t) (rw (h, k) refl)

copied : (front t : Text) → IsUriText front → written_ur (front ++ t) ≡ front ++ written_ur t
copied _ t nothing = refl
copied _ t (and_character front b u h) = grind (arith, append_assoc, copied_character, copied front (b ∷ t) u)
copied _ t (and_triplet front high low u h k) = grind (arith, append_assoc, copied_triplet, copied front (37 ∷ high ∷ low ∷ t) u)

-- ---- both ways

pub unchanged_by_ur : (t : Text) → IsUriText t ↔ (written_ur t ≡ t)
unfolding written_ur
unchanged_by_ur t = (
  λ u. ap written_ur (sym (append-nil t)) ∙ (copied t [] u ∙ append-nil t),
  λ e. subst IsUriText e (written_ur-uri t),
)
