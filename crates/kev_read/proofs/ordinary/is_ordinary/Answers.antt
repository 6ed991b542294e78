-- The table agrees with the definition at each byte, by computing.
use Rattle.std.proofs.Common.{true, ◌&&◌, ◌||◌, not, nat_eq, get_or, refl, arith}
use Rattle.std.specs.Prelude.{nat_lt}
use Rattle.std.proofs.lemmas.Bool.{agree_below_at}
use Rattle.std.proofs.lemmas.Grind.{common_steps}
use Rattle.kev_read.specs.declared.ordinary.TheConstants.{ORDINARY}
use Rattle.kev_read.proofs.ordinary.is_ordinary.Goals as goal

pub returns : goal.returns
returns c = λ is.
    let b = c.args.byte in
    let checked = agree_below_at
    (λ k. not (nat_eq (get_or ORDINARY k 0) 46) || (nat_lt k 128 && (not (nat_eq k 38) && (not (nat_eq k 61) && (not (nat_eq k 43) && not (nat_eq k 37))))))
    (λ k. true) 256 b refl (omega arith) in
    grind (arith, common_steps)
