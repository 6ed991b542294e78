use Rattle.answers.proofs.RefusalLemmas.{is_err}
use Rattle.commands.specs.Serving.{unbound, no_memory}
use Rattle.commands.proofs.serving.listen.Goals as goal

pub returns-in_default-clause-err : goal.returns-in_default-clause-err
returns-in_default-clause-err g c = unbound c.in_default.ensures.fails

pub returns-in_err-line-clause-err : goal.returns-in_err-line-clause-err
returns-in_err-line-clause-err g c =
    rw (is_err _ _ c.from_residual.ensures.1)
    (no_memory c.in-Ok.listener c.in-Ok.port (record { bound = c.in-Ok.ensures.binds; at_port = c.in-Ok.ensures.port }))
