use Rattle.std.proofs.Common.{refl}
use Rattle.answers.proofs.RefusalLemmas.{is_err}
use Rattle.commands.specs.Reading.{no_rules, no_table}
use Rattle.commands.proofs.reading.read_target.Goals as goal

pub returns-in_err-rules-clause-err : goal.returns-in_err-rules-clause-err
returns-in_err-rules-clause-err g c =
    rw (is_err _ _ c.from_residual.ensures.1) (no_rules _ c.in_err-rules.ensures.err (refl {a = c.args.keys.now}))

pub returns-in_err-bytes-clause-err : goal.returns-in_err-bytes-clause-err
returns-in_err-bytes-clause-err g c =
    rw (is_err _ _ c.from_residual-in_err-bytes.ensures.1)
    (no_table c.read_rules.new.files _ _ c.in_ok-rules.ensures.ok c.in_ok-rules.ensures.same c.in_err-bytes.ensures.err)

pub returns-clause-ok : goal.returns-clause-ok
returns-clause-ok g c =
    let gives = rw (c.in_ok-rules.ensures.same c.args.table.now) at c.in_ok-bytes.ensures.ok in
    record { ruled = c.in_ok-rules.ensures.ok; gives = gives; drawn = c.in_ok-bytes.ensures.drawn }
