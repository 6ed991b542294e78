-- What the walk over a code knows about the body that it is in.
use Rattle.std.specs.Prelude.{ℕ, Option, Some, None}
use Rattle.code_model.specs.Code.{Code}
use Rattle.machine_model.specs.declared.form.Body.{Body}
use Rattle.machine_model.specs.Form.{body_at}
use Rattle.machine_model.specs.Budget.{keeps_element}
use Rattle.budget.specs.declared.running.Running.{Running}

-- the body, and whether none of its instructions writes the register of its element
abbrev pub running_in : Code → Option Body → Option Running
running_in c None = None
running_in c (Some b) = Some (record { body = b; kept = keeps_element c b })

abbrev pub running_at : Code → ℕ → Option Running
running_at c place = running_in c (body_at c place)
