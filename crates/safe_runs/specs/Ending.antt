-- How a run of accepted code ends.
use Rattle.std.specs.Prelude.{◌≡◌, ℕ, ◌≤◌, length}
use Rattle.text_model.specs.Texts.{Text}
use Rattle.text_model.specs.UriText.{IsUriText}
use Rattle.code_model.specs.Code.{Code}
use Rattle.machine_model.specs.States.{State}
use Rattle.machine_model.specs.Runs.{Outcome, Link, After, EndsWith}
use Rattle.machine_model.specs.Safe.{output_of}
use Rattle.target_vars.specs.EnvValue.{EnvValue}
use Rattle.verifier.specs.Accepted.{IsAcceptedFile}
use Rattle.verified_runs.specs.RunValue.{most_steps, most_bytes}
use Rattle.verified_runs.specs.declared.run.TheConstants.{MAX_LINK_BYTES}

-- the run of a code on an environment, with its outcome
pub record EndsSafely (c : Code) (e : EnvValue) (o : Outcome) : Type 0 where
  -- the machine ends with this outcome, after this number of steps
  pub steps : ℕ
  pub ending : EndsWith c e.entries steps o
  -- the steps are within the budget of the code
  pub in_time : steps ≤ most_steps c e
  -- at every moment the output has at most the bytes of the budget, even in a run that gives no link
  pub printed : (k : ℕ) (s : State) → After c e.entries k s → length (output_of s) ≤ most_bytes c e
  -- a link has at most the bytes of the budget
  pub bounded : (link : Text) → o ≡ Link link → length link ≤ most_bytes c e
  -- a link is URI text (RFC 3986, sections 2.1 to 2.3)
  pub uri : (link : Text) → o ≡ Link link → IsUriText link

-- the run of a code file on an environment, with its outcome
pub record FileEndsSafely (bytes : Text) (e : EnvValue) (o : Outcome) : Type 0 where
  -- the verifier accepts the code of the bytes
  pub code : Code
  pub file : IsAcceptedFile bytes code
  -- its bound on output bytes is within the limit
  pub within : most_bytes code e ≤ MAX_LINK_BYTES
  -- its run ends safely, with this outcome
  pub ends : EndsSafely code e o
