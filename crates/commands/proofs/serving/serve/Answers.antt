use Rattle.std.proofs.Common.{refl}
use Rattle.answers.proofs.RefusalLemmas.{is_err}
use Rattle.commands.specs.Serving.{unloaded, loaded}
use Rattle.commands.proofs.serving.serve.Goals as goal

pub returns-in_err-registry-clause-ends : goal.returns-in_err-registry-clause-ends
returns-in_err-registry-clause-ends g c =
    rw (is_err _ _ c.from_residual.ensures.1) (unloaded _ c.in_err-registry.ensures.err (refl {a = c.args.rt.now.ports}) (refl {a = c.args.output.now})
    (refl {a = c.args.errors.now}))

pub returns-clause-ends : goal.returns-clause-ends
returns-clause-ends g c = loaded _ _ c.in_ok-registry.ensures.ok c.serve_menus.ensures
