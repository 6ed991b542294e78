-- The sums over the first places of a code.
use Rattle.std.specs.Prelude.{ℕ, ◌+◌}
use Rattle.code_model.specs.Code.{Code}
use Rattle.machine_model.specs.Budget.{Sums, total, where_outside, where_inside, fixed_at, separator_at, written_at, of_element, of_others}

-- over the places below n
abbrev pub sums_below : Code → ℕ → Sums
sums_below c n =
    record {
      s0 = total (where_outside c (λ p. 1)) n;
      s1 = total (where_inside c (λ p. 1)) n;
      o0 = total (where_outside c (fixed_at c)) n;
      o1 = total (where_inside c (λ p. of_others c (fixed_at c) p + separator_at c p)) n;
      o2 = total (where_outside c (written_at c)) n + total (where_inside c (of_element c (written_at c))) n;
      o3 = total (where_inside c (of_others c (written_at c))) n;
    }
