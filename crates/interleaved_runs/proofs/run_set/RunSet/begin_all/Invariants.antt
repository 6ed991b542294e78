use Rattle.std.proofs.Common.{length, map, take}
use Rattle.std.specs.List.{zip}
use Rattle.interleaved_runs.specs.Private.RunSets.{IsRunSetOf}
use Rattle.interleaved_runs.proofs.run_set.RunSet.begin_all.Given as goal

abbrev pub invariant-loop-code : goal.invariant-loop-code
invariant-loop-code g l =
    IsRunSetOf (take (length l.yielded) (zip (map (λ c. c.now) l.codes) (map g.E.Scope.environment l.envs))) l.run_set.over_budget.items l.run_set.runs.items
