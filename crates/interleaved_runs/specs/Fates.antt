-- How codes end on environments.
use Rattle.std.specs.Prelude.{List, Option, Some, None, Bool, nat_lt, if◌then◌else◌, string_bytes}
use Rattle.std.specs.List.{filter_map}
use Rattle.code_model.specs.Code.{Code}
use Rattle.target_vars.specs.EnvValue.{EnvValue}
use Rattle.verified_runs.specs.RunValue.{RunValue, new_run, most_bytes}
use Rattle.verified_runs.specs.declared.run.TheConstants.{MAX_LINK_BYTES}
use Rattle.verified_runs.specs.Fates.{FateValue, OverBudget, Link, NoLink, fate_in}
use Rattle.interleaved_runs.specs.declared.fate.Fate as answer
use Rattle.interleaved_runs.specs.declared.fate.Fate.TheVariants as variant

-- the fate of a code on an environment
abbrev pub fate_of : Code × EnvValue → FateValue
fate_of p = fate_in p.0 p.1.entries

-- by its budget the code may print more than the limit
abbrev pub is_over_budget : Code → EnvValue → Bool
is_over_budget c e = nat_lt MAX_LINK_BYTES (most_bytes c e)

-- the run that is started, unless the code is over budget
abbrev pub run_of : Code × EnvValue → Option RunValue
run_of p = if is_over_budget p.0 p.1 then None else Some (new_run p.0 p.1)

abbrev pub runs_of : List (Code × EnvValue) → List RunValue
runs_of pairs = filter_map run_of pairs

-- the value of a fate of the program
abbrev pub fate_value : answer.Fate → FateValue
fate_value (variant.OverBudget bytes) = OverBudget bytes
fate_value (variant.Link link) = Link (string_bytes link)
fate_value variant.NoLink = NoLink
