use Rattle.std.proofs.Common.{length, sym, ◌∙◌, arith}
use Rattle.machine_model.specs.Form.{fault_at}
use Rattle.verifier.proofs.Firsts.{first_zero, first_more, first_found}
use Rattle.verifier.proofs.layout.Layout.first_fault.Goals as goal

pub loop-place-init : goal.loop-place-init
loop-place-init c = first_zero (fault_at c.args.self.now.code.now)

pub loop-place-preserved : goal.loop-place-preserved
loop-place-preserved c = first_more (fault_at c.args.self.now.code.now) c.loop-place.place c.loop-place.invariant (sym c.fault.ensures ∙ c.in_default.is)

pub returns-in-Some : goal.returns-in-Some
returns-in-Some c =
    sym (first_found (fault_at c.args.self.now.code.now) (length c.args.self.now.code.now.instrs) c.loop-place.place c.in-Some.fault
    (omega (arith, c.len-place-end.ensures.count)) c.loop-place.invariant (sym c.fault.ensures ∙ c.in-Some.is))
