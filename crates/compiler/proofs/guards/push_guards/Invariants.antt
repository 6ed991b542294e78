use Rattle.std.proofs.Common.{◌≡◌, ◌++◌, drop}
use Rattle.compiler_model.specs.Blocks.{lines}
use Rattle.compiler_model.specs.Shapes.{guards_block}
use Rattle.compiler.proofs.guards.push_guards.Given as goal

-- what has been pushed, with the guards that are left, is the whole
abbrev pub invariant-loop-guard : goal.invariant-loop-guard
invariant-loop-guard l =
    l.out.items ++ lines (guards_block l.rules.lists (drop l.guard-index l.guards)) ≡ l.fn.out.items ++ lines (guards_block l.rules.lists l.guards)
