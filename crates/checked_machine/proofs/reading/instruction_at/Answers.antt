use Rattle.std.proofs.Common.{sym, ◌∙◌}
use Rattle.checked_machine.proofs.Operands.{are_given}
use Rattle.checked_machine.proofs.reading.instruction_at.Goals as goal

pub returns-then-has_right_operands-clause-given : goal.returns-then-has_right_operands-clause-given
returns-then-has_right_operands-clause-given c =
    are_given c.args.code.now c.in_ok-read.read c.len.ensures.is_code (sym c.has_right_operands.ensures ∙ c.if-has_right_operands.true)
