use Rattle.std.proofs.Common.{◌≡◌, ◌+◌, ◌++◌, All, drop, length, map}
use Rattle.code_model.specs.Code.{spelling}
use Rattle.code_file.specs.Grammar.{IsInstr}
use Rattle.compiler_model.specs.Compiled.{instructions_from}
use Rattle.compiler.specs.Private.Reach.{StayWithin}
use Rattle.compiler.proofs.instructions.push_rule.Given as goal

-- what has been pushed, with the lines that are left, is the whole; these lines stay within the rule, and each has one instruction
abbrev pub invariant-loop-line : goal.invariant-loop-line
invariant-loop-line l =
    (l.instrs.items ++ map spelling (instructions_from l.names l.literals l.away (length l.instrs.items) (drop l.line-index l.lines))
    ≡ l.fn.instrs.items ++ map spelling (instructions_from l.names l.literals l.away (length l.fn.instrs.items) l.lines))
    × (length l.instrs.items ≡ length l.fn.instrs.items + l.line-index)
    × StayWithin 0 (drop l.line-index l.lines)
    × All IsInstr l.instrs.items
