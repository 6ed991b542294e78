use Rattle.verifier.proofs.Firsts.{mismatch_none, mismatch_some}
use Rattle.verifier.proofs.GoodEdges.{registers_fit}
use Rattle.verifier.proofs.mismatch.mismatch.Goals as goal

pub returns-in_default : goal.returns-in_default
returns-in_default c = mismatch_none c.args.layout.now.code.now c.args.table.now c.args.place c.in_default.is

pub unmet-requires : goal.unmet-requires
unmet-requires c = registers_fit c.args.layout.now.code.now c.requires.form c.args.place c.instruction.result c.requires.place c.instruction.ensures

pub returns : goal.returns
returns c = mismatch_some c.args.layout.now.code.now c.args.table.now c.args.place c.in-Some.row c.instruction.result _ c.in-Some.is c.instruction.ensures
    c.unmet.ensures
