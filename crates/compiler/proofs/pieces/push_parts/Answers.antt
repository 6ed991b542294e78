use Rattle.std.proofs.Common.{refl}
use Rattle.compiler_model.specs.Shapes.{part_block, parts_block}
use Rattle.compiler.proofs.BlockSteps.{block_step}
use Rattle.compiler.proofs.pieces.push_parts.Goals as goal

pub loop-part-preserved : goal.loop-part-preserved
loop-part-preserved c =
    block_step (parts_block c.args.rules.now.lists) (part_block c.args.rules.now.lists) (λ x xs. refl) c.args.parts.now c.loop-part.part-index
    c.part-item.result _ _ _ c.loop-part-test.true c.part-item.is c.loop-part.invariant c.in_ok-push_part.ensures
