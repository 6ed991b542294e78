use Rattle.std.proofs.Common.{◌≡◌, ◌++◌, drop}
use Rattle.compiler_model.specs.Blocks.{lines}
use Rattle.compiler_model.specs.Shapes.{specs_block}
use Rattle.compiler.proofs.pieces.push_specs.Given as goal

-- what has been pushed, with the specs that are left, is the whole
abbrev pub invariant-loop-spec : goal.invariant-loop-spec
invariant-loop-spec l =
    l.out.items ++ lines (specs_block l.rules.lists l.style (drop l.spec-index l.specs)) ≡ l.fn.out.items ++ lines (specs_block l.rules.lists l.style l.specs)
