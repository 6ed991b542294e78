-- Sums over the columns of a table.
use Rattle.std.proofs.Common.{◌≡◌, ℕ, ◌+◌, ◌<◌, ◌≤◌, length, take, get_or, subst, ap, ◌∙◌, zero-add, arith}
use Rattle.std.specs.Prelude.{sum_by}
use Rattle.std.specs.List.{range_with_len}
use Rattle.std.proofs.lemmas.List.{take_all}
use Rattle.std.proofs.lemmas.List.FromFn.{get_or-range_with_len, length-range_with_len}
use Rattle.std.proofs.lemmas.List.Sums.{sum_by_more, sum_by_more_le}

-- the sum of f over the first of n columns
abbrev pub sum_of_first : (ℕ → ℕ) → ℕ → ℕ → ℕ
sum_of_first f n k = sum_by f (take k (range_with_len 0 n))

module _ (f : ℕ → ℕ) (n k : ℕ) (within : k < n) where
  at : get_or (range_with_len 0 n) k 0 ≡ k
  at = get_or-range_with_len 0 n k 0 within ∙ zero-add k

  inside : k < length (range_with_len 0 n)
  inside = omega (arith, length-range_with_len 0 n)

  pub one_column_more : sum_of_first f n (k + 1) ≡ sum_of_first f n k + f k
  one_column_more = sum_by_more f (range_with_len 0 n) k 0 inside ∙ ap (λ column. sum_of_first f n k + f column) at

  pub within_all : sum_of_first f n k + f k ≤ sum_by f (range_with_len 0 n)
  within_all =
      subst (λ column. sum_of_first f n k + f column ≤ sum_by f (range_with_len 0 n)) at (sum_by_more_le f (range_with_len 0 n) k 0 inside)

pub all_columns : (f : ℕ → ℕ) (n : ℕ) → sum_of_first f n n ≡ sum_by f (range_with_len 0 n)
all_columns f n = ap (sum_by f) (take_all n (range_with_len 0 n) (omega (arith, length-range_with_len 0 n)))
