use Rattle.std.proofs.Common.{refl}
use Rattle.compiler_model.specs.Shapes.{guard_block, guards_block}
use Rattle.compiler.proofs.BlockSteps.{block_step}
use Rattle.compiler.proofs.guards.push_guards.Goals as goal

pub loop-guard-preserved : goal.loop-guard-preserved
loop-guard-preserved c =
    block_step (guards_block c.args.rules.now.lists) (guard_block c.args.rules.now.lists) (λ x xs. refl) c.args.guards.now c.loop-guard.guard-index
    c.guard-item.result _ _ _ c.loop-guard-test.true c.guard-item.is c.loop-guard.invariant c.in_ok-push_guard.ensures
