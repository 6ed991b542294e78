-- The table agrees with the definition at each byte, by computing.
use Rattle.std.proofs.Common.{◌≡◌, ℕ, ◌-◌, true, Bool, cond, ◌&&◌, nat_eq, get_or, refl, arith}
use Rattle.std.specs.Prelude.{nat_le, nat_lt}
use Rattle.std.specs.Char.{digit_value}
use Rattle.std.proofs.lemmas.Bool.{agree_below_at}
use Rattle.std.proofs.lemmas.Bool.Decides.{nat_tests}
use Rattle.kev_read.specs.declared.decoding.TheConstants.{DIGITS}
use Rattle.kev_read.proofs.decoding.digit.Goals as goal

abbrev agrees : ℕ → Bool
agrees k =
    cond (nat_lt (get_or DIGITS k 0) 64) (nat_le 16 (digit_value k)) (nat_lt (get_or DIGITS k 0 - 64) 16 && nat_eq (get_or DIGITS k 0 - 64) (digit_value k))

pub returns-then-code-lt64 : goal.returns-then-code-lt64
returns-then-code-lt64 c =
    let checked : agrees c.args.byte ≡ true = agree_below_at agrees (λ k. true) 256 c.args.byte refl (omega arith) in
    grind (arith, nat_tests, checked)

pub returns-else-code-lt64 : goal.returns-else-code-lt64
returns-else-code-lt64 c =
    let checked : agrees c.args.byte ≡ true = agree_below_at agrees (λ k. true) 256 c.args.byte refl (omega arith) in
    grind (arith, nat_tests, checked)
