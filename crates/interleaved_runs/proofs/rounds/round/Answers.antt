use Rattle.std.proofs.Common.{◌≡◌, List, [], ◌∷◌, map, refl, ap, subst, arith}
use Rattle.std.specs.Prelude.{IfOk}
use Rattle.std.specs.List.{zip}
use Rattle.std.proofs.lemmas.Grind.{common_steps}
use Rattle.target_vars.specs.EnvValue.{EnvValue}
use Rattle.interleaved_runs.specs.Fates.{fate_of, fate_value}
use Rattle.interleaved_runs.proofs.rounds.round.Goals as goal

-- an `Env` as a scope has the same value
each_itself : (envs : List EnvValue) → map (λ env. env) envs ≡ envs
each_itself [] = refl
each_itself (env ∷ envs) = ap (λ es. env ∷ es) (each_itself envs)

pub returns-clause-fates : goal.returns-clause-fates
returns-clause-fates g c =
    subst (λ envs. IfOk c.round_over.result (λ fates. map fate_value fates.items ≡ map fate_of (zip (map (λ code. code.now) c.args.codes.now) envs)))
    (each_itself c.args.envs.now) c.round_over.ensures.fates

pub returns-clause-observed : goal.returns-clause-observed
returns-clause-observed g c = grind (arith, common_steps)

pub returns-clause-err : goal.returns-clause-err
returns-clause-err g c = grind (arith, common_steps)
