-- The values of a key, and their spans.
use Rattle.std.proofs.Common.{◌≡◌, ℕ, zero, suc, ◌+◌, ◌<◌, ◌≤◌, List, ◌∷◌, Some, length, map, take, drop, slice_get, ap, ◌∙◌, arith}
use Rattle.std.proofs.lemmas.List.{drop_more}
use Rattle.std.proofs.lemmas.Option.{slice_get_within, get_or_from_slice_get}
use Rattle.target_vars.specs.EnvValue.{piece_at}
use Rattle.kev_read.specs.Pairs.{all_of, first_of}
use Rattle.row_laws.specs.Shadowing.{first_bytes}
use Rattle.row_scope.specs.RequestValues.{RequestValue, AreValuesAt}
use Rattle.row_scope.proofs.Pieces.{piece_length}

taken : (spans : List (ℕ × ℕ)) (first count : ℕ) (at : ℕ × ℕ) → slice_get spans first ≡ Some at → 0 < count
    → (rest : List (ℕ × ℕ)) × (take count (drop first spans) ≡ at ∷ rest)
taken spans first zero at there some = absurd (omega (arith, some))
taken spans first (suc n) at there some = (
  take n (drop (first + 1) spans),
  ap (take (suc n)) (drop_more spans first at (slice_get_within spans first at there)
      ∙ ap (λ x. x ∷ drop (first + 1) spans) (get_or_from_slice_get spans first at at there)),
)

module _ (request : RequestValue) (key : List ℕ) (first count : ℕ) (at : ℕ × ℕ) (place : AreValuesAt request key first count)
    (there : slice_get request.values.spans first ≡ Some at) (some : 0 < count) where
  values : (rest : List (List ℕ)) × (all_of request.pairs key ≡ piece_at request.values.buffer at ∷ rest)
  values =
      let found = taken request.values.spans first count at there some in
      (map (piece_at request.values.buffer) found.0, place.are ∙ ap (map (piece_at request.values.buffer)) found.1)

  pub first_value : first_of request.pairs key ≡ Some (piece_at request.values.buffer at)
  first_value = ap (λ vs. slice_get vs 0) values.1

  pub first_value_bytes : at.0 + at.1 ≤ length request.values.buffer → first_bytes (all_of request.pairs key) ≡ at.1
  first_value_bytes within = ap first_bytes values.1 ∙ piece_length request.values.buffer at within
