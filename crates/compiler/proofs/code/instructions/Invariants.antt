use Rattle.std.proofs.Common.{◌≡◌, ◌+◌, ◌≤◌, ◌++◌, All, drop, length, map}
use Rattle.code_model.specs.Code.{spelling}
use Rattle.code_file.specs.Grammar.{IsInstr}
use Rattle.code_file.specs.declared.limits.TheConstants.{MAX_INSTRS}
use Rattle.compiler.specs.Private.Reach.{StayWithin}
use Rattle.compiler.specs.Private.RuleLines.{instructions_of, joined, lines_in}
use Rattle.compiler.proofs.code.instructions.Given as goal

-- what has been pushed, with the rules that are left, is the whole, and there is room for it; the lines that are left stay within their rules
abbrev pub invariant-loop-lines : goal.invariant-loop-lines
invariant-loop-lines l = record {
  whole : l.instrs.items ++ map spelling (instructions_of l.tables.names.items l.tables.literals.items (length l.instrs.items)
      (lines_in (drop l.lines-index l.rules)))
      ≡ map spelling (instructions_of l.tables.names.items l.tables.literals.items 0 (lines_in l.rules));
  room : length l.instrs.items + length (joined (lines_in (drop l.lines-index l.rules))) + 1 ≤ MAX_INSTRS;
  within : All (StayWithin 0) (lines_in (drop l.lines-index l.rules));
  fields : All IsInstr l.instrs.items;
}
