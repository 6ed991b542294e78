use Rattle.std.proofs.Common.{◌≡◌, ◌<◌, subst}
use Rattle.machine_model.specs.Runs.{HasOutcome}
use Rattle.verified_runs.specs.RunValue.{RunValue, outcome_value, most_bytes}
use Rattle.verified_runs.specs.declared.run.TheConstants.{MAX_LINK_BYTES}
use Rattle.safe_runs.proofs.Safely.{ends_safely, same_over, within_limit, no_memory_is}
use Rattle.safe_runs.proofs.ending.run_verified.Goals as goal

pub returns-in-Ok-clause-ends : goal.returns-in-Ok-clause-ends
returns-in-Ok-clause-ends c =
    let o = outcome_value c.finish.result in
    ends_safely c.run_ends_once.ensures c.args.code.now c.args.env.now c.code-known.ensures.safe c.finish.result
    (subst (λ (r : RunValue). HasOutcome r.code r.env.entries o) c.in-Ok.ensures.ok c.finish.ensures)

pub returns-in-Err-clause-over : goal.returns-in-Err-clause-over
returns-in-Err-clause-over c = λ n.
    same_over _ _ c.in-Err.error n ((n ≡ most_bytes c.args.code.now c.args.env.now) × (MAX_LINK_BYTES < n)) (c.in-Err.ensures.over n)

pub returns-in-Err-clause-no_memory : goal.returns-in-Err-clause-no_memory
returns-in-Err-clause-no_memory c = λ same.
    within_limit _ c.in-Err.error (most_bytes c.args.code.now c.args.env.now) c.in-Err.ensures.over (no_memory_is _ c.in-Err.error same)
