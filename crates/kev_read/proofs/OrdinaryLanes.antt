-- What the lanes of a vector tell of the bytes that they were read from.
use Rattle.std.proofs.Common.{◌≡◌, ℕ, ◌<◌, List, [], ◌∷◌, Bool, false, cond, length, map, replicate, refl, ap, arith, bit_or}
use Rattle.std.proofs.lemmas.Grind.{common_steps}
use Rattle.std.specs.Simd.Lanes.{zip2, sel_l}
use Rattle.kev_read.specs.Private.Ordinary.{IsOrdinary, all_bits_at, is_special, special_lane}

-- a choice of two splats
pub chosen : (p : ℕ → Bool) (y z : ℕ) (xs : List ℕ) → sel_l (map p xs) (replicate (length xs) y) (replicate (length xs) z) ≡ map (λ x. cond (p x) y z) xs
chosen p y z [] = refl
chosen p y z (x ∷ xs) = ap (λ rest. cond (p x) y z ∷ rest) (chosen p y z xs)

pub special_lanes : (xs : List ℕ)
    → zip2 bit_or (zip2 bit_or (zip2 bit_or (map (all_bits_at 38) xs) (map (all_bits_at 61) xs))
    (zip2 bit_or (map (all_bits_at 43) xs) (map (all_bits_at 37) xs))) xs
    ≡ map special_lane xs
special_lanes [] = refl
special_lanes (x ∷ xs) = ap (λ rest. special_lane x ∷ rest) (special_lanes xs)

pub ordinary_from : (x : ℕ) → x < 256 → is_special x ≡ false → IsOrdinary x
ordinary_from x small unset = grind (arith, common_steps)
