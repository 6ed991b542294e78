-- Bounds on the sums of every code.
use Rattle.std.specs.Prelude.{◌^◌, ◌<◌, ◌≤◌}
use Rattle.machine_model.specs.Budget.{Sums}

-- A code has at most 4,096 instructions. A PUT or CUT counts three bytes for each byte that it writes, and a comparison text or a link text has at most 65,535
-- bytes. 4,096 times three times 65,535 is below 2^30.
pub record IsSmall (b : Sums) : Type 0 where
  pub s0 : b.s0 ≤ 4096
  pub s1 : b.s1 ≤ 4096
  pub o0 : b.o0 < 2 ^ 30
  pub o1 : b.o1 < 2 ^ 30
  pub o2 : b.o2 ≤ 12288
  pub o3 : b.o3 ≤ 12288
