use Rattle.answers.proofs.RefusalLemmas.{is_err}
use Rattle.commands.specs.Reading.{unread, no_rules}
use Rattle.commands.proofs.reading.read_rules.Goals as goal

pub returns-in_err-bytes-clause-err : goal.returns-in_err-bytes-clause-err
returns-in_err-bytes-clause-err g c = rw (is_err _ _ c.from_residual.ensures.1) (unread _ c.in_err-bytes.ensures.err)

pub returns-in_err-rules_of-clause-err : goal.returns-in_err-rules_of-clause-err
returns-in_err-rules_of-clause-err g c =
    rw (is_err _ _ c.from_residual-in_err-rules_of.ensures.1)
    (no_rules _ _ c.in_ok-bytes.ensures.ok (rw c.deref.ensures.value at c.in_err-rules_of.ensures.err))
