-- The link that code gives for a query, and why it gives none.
use Rattle.std.specs.Prelude.{◌≡◌, ℕ, ◌<◌, ◌≤◌, [], ◌∷◌, ◌++◌, None, map, filter, Result, Ok, Err}
use Rattle.text_model.specs.Texts.{Text}
use Rattle.code_model.specs.Code as model
use Rattle.environment_model.specs.Environment.{Environment}
use Rattle.target_vars.specs.EnvValue.{EnvValue}
use Rattle.machine_model.specs.Runs as runs
use Rattle.kev_read.specs.Pairs.{pairs_of}
use Rattle.kev_read.specs.Refusal.{refusal}
use Rattle.kev_read.specs.Filling.{filled}
use Rattle.verified_runs.specs.RunValue.{most_bytes}
use Rattle.verified_runs.specs.declared.run.TheConstants.{MAX_LINK_BYTES}
use Rattle.verifier.specs.Accepted.{IsAcceptedFile}
use Rattle.safe_runs.specs.Ending.{EndsSafely}
use Rattle.answers.specs.Reading.{IsNotAccepted, IsNoRequest}
use Rattle.answers.specs.declared.refusal.Refusal.{Refusal}
use Rattle.answers.specs.declared.refusal.Refusal.TheVariants.{OverBudget, NoLink, Memory}

-- the entries of the query's pairs, in which the names that the code declares as lists are lists
abbrev pub request_entries : model.Code → Text → Environment
request_entries code query = filled (map (λ n. n.text) (filter (λ n. n.list) code.names)) [] (pairs_of query)

-- the query is a request, and this is an environment with its entries
pub record IsRequest (code : model.Code) (query : Text) (env : EnvValue) : Type 0 where
  pub request : refusal query ≡ None
  pub filled : env.entries ≡ request_entries code query

-- the bound of the code for the request is within the limit of a link, and its run ends with this outcome, within its budget
pub record IsRequestRun (code : model.Code) (query : Text) (end : runs.Outcome) : Type 0 where
  pub env : EnvValue
  pub request : IsRequest code query env
  pub within : most_bytes code env ≤ MAX_LINK_BYTES
  pub ends : EndsSafely code env end

-- the code may print this number of bytes for the request, which is more than the limit of a link
pub record IsRequestOverBudget (code : model.Code) (query : Text) (n : ℕ) : Type 0 where
  pub env : EnvValue
  pub request : IsRequest code query env
  pub bound : n ≡ most_bytes code env
  pub over : MAX_LINK_BYTES < n

-- the line of the link that the code gives, or the first reason why there is none; an allocation is reported to have failed only for a request
pub data IsLinkFor (code : model.Code) (query : Text) : Result Text Refusal → Type 0 where
  no_memory : refusal query ≡ None → IsLinkFor code query (Err Memory)
  no_request : (e : Refusal) → IsNoRequest query e → IsLinkFor code query (Err e)
  over_budget : (n : ℕ) → IsRequestOverBudget code query n → IsLinkFor code query (Err (OverBudget n))
  no_link : IsRequestRun code query runs.NoLink → IsLinkFor code query (Err NoLink)
  linked : (link line : Text) → IsRequestRun code query (runs.Link link) → line ≡ link ++ 10 ∷ [] → IsLinkFor code query (Ok line)

-- the line of the link of accepted code, or the first reason why there is none
pub data IsRunLinkOf (bytes query : Text) : Result Text Refusal → Type 0 where
  not_accepted : (e : Refusal) → IsNotAccepted bytes e → IsRunLinkOf bytes query (Err e)
  accepted : (code : model.Code) (end : Result Text Refusal) → IsAcceptedFile bytes code → IsLinkFor code query end → IsRunLinkOf bytes query end
