-- What decides the fate of code in an environment.
use Rattle.std.proofs.Common.{◌≡◌, ◌<◌, ◌≤◌, true, false, refl, ap, arith, nat_lt}
use Rattle.std.proofs.lemmas.Bool.Decides.{nat_tests}
use Rattle.environment_model.specs.Environment.{Environment}
use Rattle.code_model.specs.Code.{Code}
use Rattle.machine_model.specs.Runs.{Outcome}
use Rattle.machine_model.specs.Next.{outcome_of}
use Rattle.verified_runs.specs.declared.run.TheConstants.{MAX_LINK_BYTES}
use Rattle.verified_runs.specs.Fates.{OverBudget, ended, fate_in, most_bytes_in}

pub over_budget : (code : Code) (env : Environment) → MAX_LINK_BYTES < most_bytes_in code env → fate_in code env ≡ OverBudget (most_bytes_in code env)
unfolding fate_in
over_budget code env over =
    let test : nat_lt MAX_LINK_BYTES (most_bytes_in code env) ≡ true = grind (arith, nat_tests) in
    rw test refl

pub within_budget : (code : Code) (env : Environment) (outcome : Outcome) → most_bytes_in code env ≤ MAX_LINK_BYTES → outcome_of code env ≡ outcome
    → fate_in code env ≡ ended outcome
unfolding fate_in
within_budget code env outcome within is =
    let test : nat_lt MAX_LINK_BYTES (most_bytes_in code env) ≡ false = grind (arith, nat_tests) in
    rw test (ap ended is)
