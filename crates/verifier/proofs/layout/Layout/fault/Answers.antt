use Rattle.std.proofs.Common.{sym, ◌∙◌}
use Rattle.verifier.proofs.Firsts.{fault_unread_at, first_part, second_part, third_part, last_part}
use Rattle.verifier.proofs.layout.Layout.fault.Goals as goal

pub returns-in_default : goal.returns-in_default
returns-in_default c = fault_unread_at c.args.self.now.code.now c.args.place c.requires (sym c.reading.ensures ∙ c.in_default.is)

pub returns-in-Some-operand_fault : goal.returns-in-Some-operand_fault
returns-in-Some-operand_fault c = first_part c.args.self.now.code.now c.args.place _ _ c.instr.ensures (sym c.reading.ensures ∙ c.in-Some.is) _
    (sym c.operand_fault.ensures ∙ c.in-Some-operand_fault.is)

pub returns-in-Some-jump_fault : goal.returns-in-Some-jump_fault
returns-in-Some-jump_fault c = second_part c.args.self.now.code.now c.args.place _ _ c.instr.ensures (sym c.reading.ensures ∙ c.in-Some.is)
    (sym c.operand_fault.ensures ∙ c.in_default-operand_fault.is) _ (sym c.jump_fault.ensures ∙ c.in-Some-jump_fault.is)

pub returns-in-Some-each_fault : goal.returns-in-Some-each_fault
returns-in-Some-each_fault c = third_part c.args.self.now.code.now c.args.place _ _ c.instr.ensures (sym c.reading.ensures ∙ c.in-Some.is)
    (sym c.operand_fault.ensures ∙ c.in_default-operand_fault.is) (sym c.jump_fault.ensures ∙ c.in_default-jump_fault.is) _
    (sym c.each_fault.ensures ∙ c.in-Some-each_fault.is)

pub returns : goal.returns
returns c = c.order_fault.ensures ∙ last_part c.args.self.now.code.now c.args.place _ _ c.instr.ensures (sym c.reading.ensures ∙ c.in-Some.is)
    (sym c.operand_fault.ensures ∙ c.in_default-operand_fault.is) (sym c.jump_fault.ensures ∙ c.in_default-jump_fault.is)
    (sym c.each_fault.ensures ∙ c.in_default-each_fault.is)
