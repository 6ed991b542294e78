use Rattle.std.proofs.Common.{◌≡◌, ◌++◌, drop}
use Rattle.compiler_model.specs.Blocks.{lines}
use Rattle.compiler_model.specs.Shapes.{parts_block}
use Rattle.compiler.proofs.pieces.push_parts.Given as goal

-- what has been pushed, with the parts that are left, is the whole
abbrev pub invariant-loop-part : goal.invariant-loop-part
invariant-loop-part l =
    l.out.items ++ lines (parts_block l.rules.lists (drop l.part-index l.parts)) ≡ l.fn.out.items ++ lines (parts_block l.rules.lists l.parts)
