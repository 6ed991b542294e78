use Rattle.machine_laws.proofs.Upgrades.{after_more, outcome_kept}
use Rattle.machine_laws.proofs.UpgradedForm.{form_kept, typable_kept, budget_kept}
use Rattle.machine_laws.proofs.upgrade.upgrade_keeps_what_code_does.Goals as goal

pub returns-clause-states : goal.returns-clause-states
returns-clause-states start = after_more

pub returns-clause-outcome : goal.returns-clause-outcome
returns-clause-outcome start = outcome_kept

pub returns-clause-form : goal.returns-clause-form
returns-clause-form start = form_kept

pub returns-clause-typable : goal.returns-clause-typable
returns-clause-typable start = typable_kept

pub returns-clause-budget : goal.returns-clause-budget
returns-clause-budget start = budget_kept
