-- The outcome that rules mean.
use Rattle.std.specs.Prelude.{Option, Some, None}
use Rattle.text_model.specs.Texts.{Text}
use Rattle.machine_model.specs.Runs.{Outcome, Link, NoLink}

-- the link that rules mean, or no link if no rule holds
abbrev pub answer : Option Text → Outcome
answer None = NoLink
answer (Some link) = Link link
