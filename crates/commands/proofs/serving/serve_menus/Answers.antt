use Rattle.std.proofs.Common.{refl}
use Rattle.std.specs.Prelude.{string_bytes}
use Rattle.answers.proofs.RefusalLemmas.{is_err}
use Rattle.commands.specs.Serving.{deaf, unprinted, stops, serves}
use Rattle.commands.proofs.serving.serve_menus.Goals as goal

pub returns-in_err-listener : goal.returns-in_err-listener
returns-in_err-listener g c =
    rw (is_err _ _ c.from_residual.ensures.1) (deaf _ c.in_err-listener.ensures.err (refl {a = c.args.output.now}) (refl {a = c.args.errors.now}))

pub returns-in_default : goal.returns-in_default
returns-in_default g c =
    unprinted c.in_ok-listener.listener (string_bytes c.in_ok-listener.line) _ c.in_ok-listener.ensures.ok refl (rw c.deref.ensures at c.in_default.ensures.err)
    (refl {a = c.args.errors.now})

pub returns-in-Ok-serve_on : goal.returns-in-Ok-serve_on
returns-in-Ok-serve_on g c =
    let parts = c.in_ok-listener in
    serves parts.listener c.serve_on.new.listener (string_bytes parts.line) _ parts.ensures.ok (rw c.deref.ensures at c.in-Ok.ensures.ok)
    (rw c.new-menus.ensures at c.in-Ok-serve_on.ensures.served) c.print_counts.ensures

pub returns : goal.returns
returns g c =
    let parts = c.in_ok-listener in
    stops parts.listener c.serve_on.new.listener (string_bytes parts.line) parts.ensures.ok (rw c.deref.ensures at c.in-Ok.ensures.ok)
    (rw c.new-menus.ensures at c.in-Err.ensures.stopped) (refl {a = c.args.errors.now})
