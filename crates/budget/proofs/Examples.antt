-- The bounds on the sums of every code: each holds at its limit, and fails one above it.
use Rattle.std.proofs.Common.{ℕ, arith}
use Rattle.machine_model.specs.Budget.{Sums}
use Rattle.budget.specs.Small.{IsSmall}

abbrev sums : ℕ → ℕ → ℕ → ℕ → ℕ → ℕ → Sums
sums s0 s1 o0 o1 o2 o3 = record { s0 = s0; s1 = s1; o0 = o0; o1 = o1; o2 = o2; o3 = o3 }

-- 1,073,741,824 is 2^30
largest : IsSmall (sums 4096 4096 1073741823 1073741823 12288 12288)
largest = record { s0 = omega arith; s1 = omega arith; o0 = omega arith; o1 = omega arith; o2 = omega arith; o3 = omega arith }

more_steps_outside : IsSmall (sums 4097 0 0 0 0 0) → ⊥
more_steps_outside small = omega (arith, small.s0)

more_steps_inside : IsSmall (sums 0 4097 0 0 0 0) → ⊥
more_steps_inside small = omega (arith, small.s1)

more_bytes : IsSmall (sums 0 0 1073741824 0 0 0) → ⊥
more_bytes small = omega (arith, small.o0)

more_bytes_a_member : IsSmall (sums 0 0 0 1073741824 0 0) → ⊥
more_bytes_a_member small = omega (arith, small.o1)

more_bytes_a_byte : IsSmall (sums 0 0 0 0 12289 0) → ⊥
more_bytes_a_byte small = omega (arith, small.o2)

more_bytes_for_both : IsSmall (sums 0 0 0 0 0 12289) → ⊥
more_bytes_for_both small = omega (arith, small.o3)
