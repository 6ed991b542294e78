use Rattle.std.proofs.Common.{arith}
use Rattle.text_model.proofs.Written.{length-written}
use Rattle.checked_machine.proofs.printing.append_written.Goals as goal

pub encode-requires : goal.encode-requires
encode-requires c = record { room = omega (arith, length-written c.args.writing c.args.text.now, c.saturating_mul.ensures, c.in_ok-reserve.ensures.ok) }
