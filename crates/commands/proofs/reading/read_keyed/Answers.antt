use Rattle.std.proofs.Common.{refl}
use Rattle.answers.proofs.RefusalLemmas.{is_err}
use Rattle.commands.specs.Reading.{unread, keyless}
use Rattle.commands.proofs.reading.read_keyed.Goals as goal

pub returns-in_err-bytes-clause-err : goal.returns-in_err-bytes-clause-err
returns-in_err-bytes-clause-err g c = rw (is_err _ _ c.from_residual.ensures.1) (unread _ c.in_err-bytes.ensures.err (refl {a = c.args.keys.now}))

pub returns-in-Err-clause-err : goal.returns-in-Err-clause-err
returns-in-Err-clause-err g c =
    keyless (c.in_ok-bytes.bytes.items, c.in_ok-bytes.ensures.ok, c.in_ok-bytes.ensures.short) c.in-Err.ensures.failed
