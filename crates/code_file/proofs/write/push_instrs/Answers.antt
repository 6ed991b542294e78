use Rattle.std.proofs.Common.{arith}
use Rattle.std.proofs.lemmas.Grind.{common_steps}
use Rattle.std.proofs.lemmas.List.Elements.{All-more}
use Rattle.code_file.specs.Grammar.{IsInstr}
use Rattle.code_file.proofs.write.push_instrs.Goals as goal

pub loop-instr-preserved : goal.loop-instr-preserved
loop-instr-preserved c = (
  grind (arith, common_steps),
  All-more IsInstr c.args.instrs.now c.loop-instr.instr-index _ (omega arith) c.loop-instr.invariant.1 c.in_ok-push_instr.ensures.fields,
)
