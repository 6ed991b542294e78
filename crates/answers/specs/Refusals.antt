-- The exit statuses of refusals.
use Rattle.std.specs.Prelude.{ℕ}
use Rattle.answers.specs.declared.refusal.Refusal.{Refusal}
use Rattle.answers.specs.declared.refusal.Refusal.TheVariants.{NoLink, Memory}

abbrev pub status_of_refusal : Refusal → ℕ
status_of_refusal NoLink = 1
status_of_refusal Memory = 4
status_of_refusal refusal = 3
