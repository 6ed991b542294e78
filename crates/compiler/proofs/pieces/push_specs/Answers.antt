use Rattle.std.proofs.Common.{refl}
use Rattle.compiler_model.specs.Shapes.{spec_block, specs_block}
use Rattle.compiler.proofs.BlockSteps.{block_step}
use Rattle.compiler.proofs.pieces.push_specs.Goals as goal

pub loop-spec-preserved : goal.loop-spec-preserved
loop-spec-preserved c =
    block_step (specs_block c.args.rules.now.lists c.args.style.now) (spec_block c.args.rules.now.lists c.args.style.now) (λ x xs. refl) c.args.specs.now
    c.loop-spec.spec-index
    c.spec-item.result _ _ _ c.loop-spec-test.true c.spec-item.is c.loop-spec.invariant c.in_ok-push_spec.ensures
