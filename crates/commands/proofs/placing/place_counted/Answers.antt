use Rattle.std.proofs.Common.{refl, inl}
use Rattle.answers.proofs.RefusalLemmas.{is_err}
use Rattle.commands.specs.Placing.{no_place, no_memory, placed}
use Rattle.commands.proofs.placing.place_counted.Goals as goal

pub returns-in_err-line : goal.returns-in_err-line
returns-in_err-line g c =
    rw (is_err _ _ c.from_residual.ensures.1)
    (no_memory (inl (refl {a = c.args.files.now})) (record { others = λ other apart. refl; nothing_left = inl refl }))

pub returns-in-Ok : goal.returns-in-Ok
returns-in-Ok g c = placed _ c.in-Ok.ensures.placed c.in-Ok.ensures.modes c.in_ok-line.ensures

pub returns-in-Err-Failed : goal.returns-in-Err-Failed
returns-in-Err-Failed g c = no_place (c.place.ensures.failed (cc)) c.in-Err-Failed.ensures.err

pub returns : goal.returns
returns g c = no_memory (c.place.ensures.ran_out (cc)) c.in-Err-NoMemory.ensures.err
