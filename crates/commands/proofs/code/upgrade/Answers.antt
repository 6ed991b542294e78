use Rattle.answers.proofs.RefusalLemmas.{is_err}
use Rattle.commands.specs.Answers.{unread, read, refused, not_made, made}
use Rattle.commands.proofs.code.upgrade.Goals as goal

pub returns-in_err-bytes : goal.returns-in_err-bytes
returns-in_err-bytes g c =
    rw (is_err _ _ c.from_residual.ensures.1) (not_made _ (unread _ c.in_err-bytes.ensures.err) c.in_err-bytes.ensures.same)

pub returns-in_err-file : goal.returns-in_err-file
returns-in_err-file g c =
    rw (is_err _ _ c.from_residual-in_err-file.ensures.1)
    (not_made _ (read _ _ c.in_ok-bytes.ensures.ok (refused _ (rw c.deref.ensures.value at c.in_err-file.ensures))) c.in_ok-bytes.ensures.same)

pub returns : goal.returns
returns g c =
    made c.read_file.new.files _ c.in_ok-file.file.items _ c.in_ok-bytes.ensures.ok (rw c.deref.ensures.value at c.in_ok-file.ensures)
    c.in_ok-bytes.ensures.same (rw c.deref-2.ensures.value at c.place_counted.ensures)
