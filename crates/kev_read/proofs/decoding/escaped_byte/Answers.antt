use Rattle.std.proofs.Common.{arith, rules}
use Rattle.kev_read.proofs.DecodedForms.{decoded_first, decoded_escape}
use Rattle.kev_read.proofs.decoding.escaped_byte.Goals as goal

pub returns-in_default : goal.returns-in_default
returns-in_default c = λ some. decoded_first _ some (λ long percent high low. grind arith)

pub returns-in_default-2 : goal.returns-in_default-2
returns-in_default-2 c = λ some. decoded_first _ some (λ long percent high low. grind arith)

pub returns-in_err-high : goal.returns-in_err-high
returns-in_err-high c = rw c.from_residual.ensures (λ some. decoded_first _ some (λ long percent high low. search rules))

pub returns-in_err-low : goal.returns-in_err-low
returns-in_err-low c = rw c.from_residual-in_err-low.ensures (λ some. decoded_first _ some (λ long percent high low. search rules))

pub returns : goal.returns
returns c = grind (arith, decoded_escape)
