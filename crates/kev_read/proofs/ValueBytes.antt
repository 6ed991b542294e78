-- How many bytes the values of a query have together.
use Rattle.std.proofs.Common.{ℕ, ◌*◌, ◌≤◌, true, false, cond, List, [], ◌∷◌, length, map, filter, sum_by, arith, length-drop}
use Rattle.std.proofs.lemmas.List.Sums.{sum_by-cons}
use Rattle.form_urlencoded.specs.Form as form
use Rattle.kev_read.specs.Pairs.{KeyValue, decoded_pair, pairs_of, value_bytes}
use Rattle.kev_read.proofs.PairCount.{split_bytes}
use Rattle.kev_read.proofs.DecodedLength.{length-decoded-le}

decoded_value_bytes : (piece : List ℕ) → length (decoded_pair (form.split_pair piece)).value ≤ 3 * length piece
decoded_value_bytes piece = grind (arith, length-decoded-le, length-drop)

pieces_value_bytes : (pieces : List (List ℕ)) → value_bytes (map decoded_pair (map form.split_pair (filter form.is_nonempty pieces))) ≤ 3 * sum_by length pieces
pieces_value_bytes [] = omega arith
pieces_value_bytes (piece ∷ pieces) =
    let later = pieces_value_bytes pieces in
    let here = decoded_value_bytes piece in
    let pairs = map decoded_pair (map form.split_pair (filter form.is_nonempty pieces)) in
    let both = sum_by-cons length piece pieces in
    elim (form.is_nonempty piece) as (λ t. value_bytes
    (map decoded_pair (map form.split_pair (cond t (piece ∷ filter form.is_nonempty pieces) (filter form.is_nonempty pieces))))
    ≤ 3 * sum_by length (piece ∷ pieces)) [
      | true ↦ omega (arith, sum_by-cons (λ (pair : KeyValue). length pair.value) (decoded_pair (form.split_pair piece)) pairs)
      | false ↦ omega arith
    ]

-- a byte of the query makes at most three bytes of a value
pub value_bytes-pairs_of-le : (query : List ℕ) → value_bytes (pairs_of query) ≤ 3 * length query
unfolding form.raw_pairs
value_bytes-pairs_of-le query = omega (arith, pieces_value_bytes (form.split form.ampersand query), split_bytes form.ampersand query)
