use Rattle.std.proofs.Common.{◌≡◌, ◌-◌, true}
use Rattle.machine_model.specs.Budget.{is_kept}
use Rattle.budget.proofs.running.keeps_element.Given as goal

abbrev pub invariant-loop-place : goal.invariant-loop-place
invariant-loop-place l = is_kept l.code l.body.element l.body.start (l.place - l.body.start) ≡ true
