-- The encoded text, piece by piece, and its length.
use Rattle.std.proofs.Common.{◌≡◌, ℕ, ◌*◌, ◌<◌, ◌≤◌, [], ◌∷◌, ◌++◌, length, get_or, take, drop, Bool, true, false, refl, sym, arith, append-nil, length-append}
use Rattle.std.specs.Prelude.{if◌then◌else◌}
use Rattle.std.proofs.lemmas.Bool.{cond-true, cond-false}
use Rattle.std.proofs.lemmas.Grind.{common_steps}
use Rattle.text_model.specs.Texts.{Text, is_unreserved, is_triplet, begins_with_triplet}
use Rattle.text_model.specs.Writing.{written_byte, is_unreserved_or_reserved, written_u, written_ur, written}
use Rattle.text_model.specs.declared.writing.Writing.{Writing}
use Rattle.text_model.specs.declared.writing.Writing.TheVariants.{U, UR}

-- ---- piece by piece

pub written_ur-nothing : (t : Text) → length t ≡ 0 → written_ur t ≡ []
unfolding written_ur
written_ur-nothing [] e = refl
written_ur-nothing (b ∷ t) e = absurd (omega arith)

-- a whole triplet at the beginning is copied
pub written_ur-triplet : (t : Text) → begins_with_triplet t ≡ true → written_ur t ≡ take 3 t ++ written_ur (drop 3 t)
unfolding written_ur
written_ur-triplet [] e = cc
written_ur-triplet (b ∷ []) e = cc
written_ur-triplet (b ∷ c ∷ []) e = cc
written_ur-triplet (b ∷ c ∷ d ∷ t) e = cond-true (is_triplet b c d) _ _ e

-- and if there is none, the first byte is encoded separately
pub written_ur-byte : (t : Text) → begins_with_triplet t ≡ false → 0 < length t → written_ur t ≡ written_byte (is_unreserved_or_reserved (get_or t 0 0))
    (get_or t 0 0) ++ written_ur (drop 1 t)
unfolding written_ur
written_ur-byte [] e l = absurd (omega arith)
written_ur-byte (b ∷ []) e l = sym (append-nil _)
written_ur-byte (b ∷ c ∷ []) e l = refl
written_ur-byte (b ∷ c ∷ d ∷ t) e l = cond-false (is_triplet b c d) _ _ e

-- ---- at most three bytes for each

pub length-written_byte : (stays : Bool) (b : ℕ) → length (written_byte stays b) ≤ 3
length-written_byte true b = omega arith
length-written_byte false b = omega arith

pub length-written_u : (t : Text) → length (written_u t) ≤ 3 * length t
unfolding written_u
length-written_u [] = omega arith
length-written_u (b ∷ t) =
    omega (arith, length-written_u t, length-append (written_byte (is_unreserved b) b) (written_u t), length-written_byte (is_unreserved b) b)

pub length-written_ur : (t : Text) → length (written_ur t) ≤ 3 * length t
unfolding written_ur
length-written_ur [] = omega arith
length-written_ur (b ∷ []) = length-written_byte (is_unreserved_or_reserved b) b
length-written_ur (b ∷ c ∷ []) = grind (arith, common_steps)
length-written_ur (b ∷ high ∷ low ∷ t) = by_test (is_triplet b high low) (length-written_ur t) (length-written_ur (high ∷ low ∷ t))
  where
    by_test : (x : Bool) → length (written_ur t) ≤ 3 * length t → length (written_ur (high ∷ low ∷ t)) ≤ 3 * length (high ∷ low ∷ t)
        → length (if x then (b ∷ high ∷ low ∷ written_ur t) else (written_byte (is_unreserved_or_reserved b) b ++ written_ur (high ∷ low ∷ t)))
        ≤ 3 * length (b ∷ high ∷ low ∷ t)
    by_test x i j = grind (arith, common_steps)

pub length-written : (w : Writing) (t : Text) → length (written w t) ≤ 3 * length t
length-written U t = length-written_u t
length-written UR t = length-written_ur t

pub ruleset length_laws = (length-written_u, length-written_ur, length-written)
