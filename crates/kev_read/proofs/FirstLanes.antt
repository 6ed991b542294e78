-- The first of 16 bytes that passes a test, found by a mask of the bytes that pass.
use Rattle.std.proofs.Common.{◌≡◌, ℕ, ◌+◌, ◌<◌, ◌≤◌, List, length, Bool, not, map, arith}
use Rattle.std.specs.List.{prefix_len}
use Rattle.std.specs.Simd.Lanes.{chunk, mask_l}
use Rattle.std.proofs.lemmas.Simd.{trailing_mask_l}
use lib.Count.{count_trailing_zeros}

pub lowest_bit : (p : ℕ → Bool) (bytes : List ℕ) (place m : ℕ) → m ≡ mask_l (map p (chunk place 16 bytes)) → place + 16 ≤ length bytes → 0 < m
    → count_trailing_zeros 64 m ≡ prefix_len (λ b. not (p b)) (chunk place 16 bytes)
lowest_bit p bytes place m is room some = grind (arith, trailing_mask_l)
