-- The table agrees with the definition at each byte, by computing.
use Rattle.std.proofs.Common.{◌*◌, ◌/◌, true, nat_eq, get_or, refl, arith}
use Rattle.std.proofs.lemmas.Bool.{agree_below_at, eqb-true}
use Rattle.text_model.specs.Writing.{hexadecimal_digit}
use Rattle.uri_text.specs.declared.classes.TheConstants.{DIGITS}
use Rattle.uri_text.proofs.classes.high_digit.Goals as goal

pub returns : goal.returns
returns c =
    eqb-true _ _ (agree_below_at (λ k. nat_eq (get_or DIGITS (2 * k) 0) (hexadecimal_digit (k / 16))) (λ k. true) 256 c.args.byte refl (omega arith))
