use Rattle.std.proofs.Common.{◌++◌, ◌∷◌, [], Err, append-nil, ap, ◌∙◌, sym}
use Rattle.interleaved_runs.proofs.RunSetLemmas.{an_excess, no_run, fresh_alone}
use Rattle.interleaved_runs.proofs.run_set.RunSet.begin.Goals as goal

pub returns-in_ok-push-in-Ok-2-clause-fresh : goal.returns-in_ok-push-in-Ok-2-clause-fresh
returns-in_ok-push-in-Ok-2-clause-fresh g c = fresh_alone c.course_is_decided.ensures.course c.args.code.now (g.E.Scope.environment c.args.env.now)
    c.code-known.ensures.safe

pub returns-in_ok-push-in-Err-OverBudget-clause-over_budget : goal.returns-in_ok-push-in-Err-OverBudget-clause-over_budget
returns-in_ok-push-in-Err-OverBudget-clause-over_budget g c =
    let arm = c.in-Err-OverBudget in
    let over = (arm.ensures.over arm.bytes).0 (ap Err arm.field-0-is) in
    c.in_ok-push-in-Err-OverBudget.ensures.items
    ∙ ap (λ o. c.args.self.now.over_budget.items ++ o ∷ []) (sym (an_excess c.args.code.now (g.E.Scope.environment c.args.env.now) arm.bytes over.0 over.1))

pub returns-in_ok-push-in-Err-OverBudget-clause-runs : goal.returns-in_ok-push-in-Err-OverBudget-clause-runs
returns-in_ok-push-in-Err-OverBudget-clause-runs g c =
    let arm = c.in-Err-OverBudget in
    let over = (arm.ensures.over arm.bytes).0 (ap Err arm.field-0-is) in
    let runs = c.args.self.now.runs.items in
    sym (append-nil runs) ∙ ap (λ rs. runs ++ rs) (sym (no_run c.args.code.now (g.E.Scope.environment c.args.env.now) arm.bytes over.0 over.1))

pub returns-in_ok-push-in-Err-OverBudget-clause-fresh : goal.returns-in_ok-push-in-Err-OverBudget-clause-fresh
returns-in_ok-push-in-Err-OverBudget-clause-fresh g c = fresh_alone c.course_is_decided.ensures.course c.args.code.now (g.E.Scope.environment c.args.env.now)
    c.code-known.ensures.safe
