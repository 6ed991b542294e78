use Rattle.std.proofs.Common.{◌≡◌, ℕ, zero, suc, refl, ap}
use Rattle.std.specs.Prelude.{slice_index_or}
use Rattle.std.proofs.Math.ListN.{replicate}
use Rattle.std.proofs.Math.Path.{fun_ext}
use Rattle.checked_machine.specs.Private.Values.{value_of}
use Rattle.checked_machine.proofs.registers.Registers.new.Goals as goal

-- every register, even one past the last, reads as the value that all of them hold
read_anywhere : {X : Type 0} (n r : ℕ) (x : X) → slice_index_or (replicate n x) r x ≡ x
read_anywhere zero r x = refl
read_anywhere (suc n) zero x = refl
read_anywhere (suc n) (suc r) x = read_anywhere n r x

pub returns : goal.returns
returns c = fun_ext (λ r. ap value_of (read_anywhere 64 r _))
