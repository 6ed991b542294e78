-- How a run of accepted code ends, and why it is not started, from what is known about the code.
use Rattle.std.proofs.Common.{◌≡◌, ℕ, ◌<◌, ◌≤◌, Err, length, refl, ap, subst, inl, inr, arith}
use Rattle.std.proofs.lemmas.Bool.{cases_lt}
use Rattle.std.specs.Prelude.{◌↔◌, Result}
use Rattle.text_model.specs.Texts.{Text}
use Rattle.text_model.specs.UriText.{IsUriText}
use Rattle.environment_model.specs.Environment.{Environment}
use Rattle.code_model.specs.Code.{Code}
use Rattle.machine_model.specs.States.{Ended}
use Rattle.machine_model.specs.States as end
use Rattle.machine_model.specs.Runs.{After, EndsAfter, HasOutcome}
use Rattle.machine_model.specs.Runs as run
use Rattle.machine_model.specs.Safe.{IsSafe}
use Rattle.target_vars.specs.EnvValue.{EnvValue}
use Rattle.verifier.specs.Accepted.{IsAcceptedFile}
use Rattle.verified_runs.specs.RunValue.{most_steps, most_bytes, outcome_value}
use Rattle.verified_runs.specs.declared.outcome.Outcome.{Outcome}
use Rattle.verified_runs.specs.declared.outcome.Outcome.TheVariants.{Link, NoLink}
use Rattle.verified_runs.specs.declared.run.TheConstants.{MAX_LINK_BYTES}
use Rattle.verified_runs.specs.declared.error.PrepareError.{PrepareError}
use Rattle.verified_runs.specs.declared.error.PrepareError.TheVariants.{OverBudget, NoMemory}
use Rattle.safe_runs.specs.declared.error.RunError.TheVariants.{Prepare}
use Rattle.safe_runs.specs.Ending.{EndsSafely}
use Rattle.safe_runs.specs.Causes.{IsCause}

abbrev pub EndsOnce : Type 0
EndsOnce = (c : Code) (v : Environment) (k m : ℕ) → EndsAfter c v k → EndsAfter c v m → k ≡ m

module _ (once : EndsOnce) (c : Code) (e : EnvValue) (safe : IsSafe c) where
  in_time : (k : ℕ) → EndsAfter c e.entries k → k ≤ most_steps c e
  in_time k h =
      let ends = safe.ends e.entries in
      let same = once c e.entries k ends.0 h (ends.1, ends.2) in
      let within = ends.3 in
      omega arith

  link_is : (t u : Text) → run.Link t ≡ run.Link u → t ≡ u
  link_is t u same = cc

  ends_with : (k : ℕ) (t : Text) → After c e.entries k (Ended (end.Link t)) → EndsSafely c e (run.Link t)
  ends_with k t after = record {
    steps = k;
    ending = after;
    in_time = in_time k (end.Link t, after);
    printed = λ n s. safe.bounded e.entries n s;
    bounded = λ u same. subst (λ x. length x ≤ most_bytes c e) (link_is t u same) (safe.bounded e.entries k (Ended (end.Link t)) after);
    uri = λ u same. subst IsUriText (link_is t u same) (safe.uri e.entries k (Ended (end.Link t)) after);
  }

  pub ends_safely : (o : Outcome) → HasOutcome c e.entries (outcome_value o) → EndsSafely c e (outcome_value o)
  ends_safely (Link link) h = ends_with h.0 _ h.1
  ends_safely NoLink h = record {
    steps = h.0;
    ending = h.1;
    in_time = in_time h.0 (end.NoLink, h.1);
    printed = λ n s. safe.bounded e.entries n s;
    bounded = λ u same. absurd (cc);
    uri = λ u same. absurd (cc);
  }

-- an error, of a result of any type
abbrev pub wrong : (T : Type 0) → PrepareError → Result T PrepareError
wrong T d = Err d

error_is : (T : Type 0) (d f : PrepareError) → wrong T d ≡ wrong T f → d ≡ f
error_is T d f same = cc

-- the error over budget is the same for results of any type
pub same_over : (T U : Type 0) (d : PrepareError) (n : ℕ) (P : Type 0) → (wrong T d ≡ wrong T (OverBudget n)) ↔ P → (wrong U d ≡ wrong U (OverBudget n)) ↔ P
same_over T U d n P h = ((λ same. h.0 (ap (wrong T) (error_is U d (OverBudget n) same))), (λ p. ap (wrong U) (error_is T d (OverBudget n) (h.1 p))))

-- an error other than over budget is returned only within the limit, since for a bound over the limit the error is over budget
pub within_limit : (T : Type 0) (d : PrepareError) (most : ℕ)
    → ((n : ℕ) → (wrong T d ≡ wrong T (OverBudget n)) ↔ ((n ≡ most) × (MAX_LINK_BYTES < n))) → d ≡ NoMemory → most ≤ MAX_LINK_BYTES
within_limit T d most over same = elim (cases_lt MAX_LINK_BYTES most) [
  | inr within ↦ within
  | inl passes ↦
      let is_over : d ≡ OverBudget most = error_is T d (OverBudget most) ((over most).1 (refl, passes)) in
      absurd (cc (is_over, same))
]

-- out of memory is the same error for results of any type
pub no_memory_is : (U : Type 0) (d : PrepareError) → wrong U d ≡ wrong U NoMemory → d ≡ NoMemory
no_memory_is U d same = error_is U d NoMemory same

-- what is known about an error of the run
pub record IsExact (c : Code) (e : EnvValue) (error : PrepareError) : Type 0 where
  pub over : (n : ℕ) → error ≡ OverBudget n → (n ≡ most_bytes c e) × (MAX_LINK_BYTES < n)
  pub no_memory : error ≡ NoMemory → most_bytes c e ≤ MAX_LINK_BYTES

pub is_cause : (bytes : Text) (c : Code) (e : EnvValue) (error : PrepareError) → IsAcceptedFile bytes c → IsExact c e error → IsCause bytes e (Prepare error)
is_cause bytes c e (OverBudget n) file exact =
    let over = exact.over n refl in
    record { code = c; file = file; bound = over.0; passes = over.1 }
is_cause bytes c e NoMemory file exact = record { code = c; file = file; within = exact.no_memory refl }
