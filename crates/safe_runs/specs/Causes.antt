-- Why the code of a file is not run.
use Rattle.std.specs.Prelude.{◌≡◌, ℕ, ◌<◌, ◌≤◌}
use Rattle.text_model.specs.Texts.{Text}
use Rattle.code_model.specs.Code.{Code}
use Rattle.target_vars.specs.EnvValue.{EnvValue}
use Rattle.verifier.specs.Accepted.{IsAcceptedFile}
use Rattle.verifier.specs.Faults.{IsLoadFault}
use Rattle.verified_runs.specs.RunValue.{most_bytes}
use Rattle.verified_runs.specs.declared.run.TheConstants.{MAX_LINK_BYTES}
use Rattle.verified_runs.specs.declared.error.PrepareError.TheVariants.{OverBudget, NoMemory}
use Rattle.safe_runs.specs.declared.error.RunError.{RunError}
use Rattle.safe_runs.specs.declared.error.RunError.TheVariants.{Load, Prepare}

-- the bytes are the file of accepted code that might print more than the limit of a link
pub record IsOverBudget (bytes : Text) (e : EnvValue) (n : ℕ) : Type 0 where
  -- the verifier accepts the code of the bytes
  pub code : Code
  pub file : IsAcceptedFile bytes code
  -- the number is its bound on output bytes
  pub bound : n ≡ most_bytes code e
  -- the number is over the limit
  pub passes : MAX_LINK_BYTES < n

-- the bytes are the file of accepted code that cannot print more than the limit of a link
pub record IsWithinBudget (bytes : Text) (e : EnvValue) : Type 0 where
  -- the verifier accepts the code of the bytes
  pub code : Code
  pub file : IsAcceptedFile bytes code
  -- its bound on output bytes is within the limit
  pub within : most_bytes code e ≤ MAX_LINK_BYTES

-- what each error says about the bytes
abbrev pub IsCause : Text → EnvValue → RunError → Type 0
-- this is the error for which the verifier rejects them, or they are a code file and memory ran out while it was loaded
IsCause bytes e (Load error) = IsLoadFault bytes error
-- they are accepted, and the bound on output bytes, this number, is over the limit
IsCause bytes e (Prepare (OverBudget n)) = IsOverBudget bytes e n
-- they are accepted, the bound is within the limit, and memory ran out before the first step
IsCause bytes e (Prepare NoMemory) = IsWithinBudget bytes e
