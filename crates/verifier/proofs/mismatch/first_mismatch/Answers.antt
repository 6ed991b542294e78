use Rattle.std.proofs.Common.{length, sym, ◌∙◌, arith}
use Rattle.machine_model.specs.Mismatch.{mismatch_at}
use Rattle.verifier.specs.Private.Rows.{table_of}
use Rattle.verifier.proofs.Firsts.{first_zero, first_more, first_found}
use Rattle.verifier.proofs.mismatch.first_mismatch.Goals as goal

pub loop-place-init : goal.loop-place-init
loop-place-init c = first_zero (mismatch_at c.args.layout.now.code.now (table_of c.args.table.now))

pub loop-place-preserved : goal.loop-place-preserved
loop-place-preserved c = first_more (mismatch_at c.args.layout.now.code.now (table_of c.args.table.now)) c.loop-place.place c.loop-place.invariant
    (sym c.mismatch.ensures ∙ c.in_default.is)

pub returns-in-Some : goal.returns-in-Some
returns-in-Some c =
    sym (first_found (mismatch_at c.args.layout.now.code.now (table_of c.args.table.now)) (length c.args.layout.now.code.now.instrs) c.loop-place.place
    c.in-Some.register (omega (arith, c.len-place-end.ensures.count)) c.loop-place.invariant (sym c.mismatch.ensures ∙ c.in-Some.is))
