use Rattle.std.proofs.Common.{◌≡◌, ℕ, zero, suc, get_or, replicate, refl}
use Rattle.std.proofs.Math.Path.{fun_ext}
use Rattle.machine_model.specs.declared.kind.Kind.TheVariants.{Any}
use Rattle.verifier.proofs.row.Row.any.Goals as goal

any_any : (n r : ℕ) → get_or (replicate n Any) r Any ≡ Any
any_any zero r = refl
any_any (suc n) zero = refl
any_any (suc n) (suc r) = any_any n r

pub returns : goal.returns
returns c = fun_ext (λ r. any_any 64 r)
