-- How many pairs a query can have.
use Rattle.std.proofs.Common.{◌≡◌, ℕ, ◌+◌, ◌*◌, ◌≤◌, ◌<◌, List, [], ◌∷◌, length, filter, sum_by, arith}
use Rattle.std.proofs.lemmas.List.{length-map}
use Rattle.std.proofs.lemmas.Grind.{common_steps}
use Rattle.form_urlencoded.specs.Form as form
use Rattle.kev_read.specs.Pairs.{pairs_of}

-- each byte belongs to a piece, or separates two of them
record IsParted (bytes : ℕ) (pieces : List (List ℕ)) : Type 0 where
  some : 0 < length pieces
  whole : sum_by length pieces + length pieces ≡ bytes + 1

split_parts : (separator : ℕ) (bs : List ℕ) → IsParted (length bs) (form.split separator bs)
unfolding form.split
split_parts separator [] = record { some = omega arith; whole = omega arith }
split_parts separator (b ∷ bs) = grind (arith, common_steps, split_parts separator bs)

-- the pieces have at most as many bytes as the query
pub split_bytes : (separator : ℕ) (bs : List ℕ) → sum_by length (form.split separator bs) ≤ length bs
split_bytes separator bs = let parts = split_parts separator bs in let whole = parts.whole in let some = parts.some in omega arith

few_nonempty : (pieces : List (List ℕ)) → 2 * length (filter form.is_nonempty pieces) ≤ sum_by length pieces + length pieces
few_nonempty [] = omega arith
few_nonempty (piece ∷ pieces) = grind (arith, common_steps, few_nonempty pieces)

-- a pair has at least one byte, and another byte separates it from the next
pub two_bytes_a_pair : (query : List ℕ) → 2 * length (pairs_of query) ≤ length query + 1
unfolding form.raw_pairs
two_bytes_a_pair query =
    let pieces = form.split form.ampersand query in
    let parts = split_parts form.ampersand query in
    rw (length-map, length-map) (omega (arith, few_nonempty pieces))
