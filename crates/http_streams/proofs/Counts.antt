-- Counts that stop at the largest number of 64 bits.
use Rattle.std.proofs.Common.{◌≡◌, ℕ, ◌+◌, ◌-◌, ◌^◌, ◌≤◌, ◌<◌, min, arith}
use Rattle.http_streams.specs.Streams.{raised}

-- ---- the same for any largest number

none_to : (most count : ℕ) → count + min 0 (most - count) ≡ count
none_to most count = omega arith

more_to : (most count one two : ℕ)
    → count + min one (most - count) + min two (most - (count + min one (most - count))) ≡ count + min (one + two) (most - count)
more_to most count one two = omega arith

saturated_to : (most count more : ℕ) → count ≤ most → min (count + more) most ≡ count + min more (most - count)
saturated_to most count more fits = omega arith

-- ---- counts

pub raised-none : (count : ℕ) → raised count 0 ≡ count
unfolding raised
raised-none count = none_to (2 ^ 64 - 1) count

pub raised-more : (count one two : ℕ) → raised (raised count one) two ≡ raised count (one + two)
unfolding raised
raised-more count one two = more_to (2 ^ 64 - 1) count one two

-- a saturating sum of numbers of 64 bits
pub saturated : (count more : ℕ) → count < 2 ^ 64 → min (count + more) (2 ^ 64 - 1) ≡ raised count more
unfolding raised
saturated count more fits = saturated_to (2 ^ 64 - 1) count more (omega arith)

pub ruleset counts = raised-none
