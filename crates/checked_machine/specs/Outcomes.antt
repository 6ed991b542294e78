-- What the result of `run_checked` says about a run.
use Rattle.std.specs.Prelude.{◌≡◌, string_bytes}
use Rattle.code_model.specs.Code.{Code}
use Rattle.environment_model.specs.Environment.{Environment}
use Rattle.machine_model.specs.Runs as run
use Rattle.checked_machine.specs.declared.run.Checked.{Checked}
use Rattle.checked_machine.specs.declared.run.Checked.TheVariants.{Link, NoLink, Stuck}

abbrev pub checked_outcome : Checked → run.Outcome
checked_outcome (Link link) = run.Link (string_bytes link)
checked_outcome NoLink = run.NoLink
checked_outcome (Stuck place) = run.Stuck place

-- the run ends with this outcome, and with no other
pub record IsOutcome (c : Code) (v : Environment) (o : run.Outcome) : Type 0 where
  pub has_outcome : run.HasOutcome c v o
  pub only : (other : run.Outcome) → run.HasOutcome c v other → other ≡ o
