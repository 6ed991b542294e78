use Rattle.std.proofs.Common.{◌≡◌, ◌++◌, take}
use Rattle.std.specs.Prelude.{All}
use Rattle.std.specs.List.{flat_map}
use Rattle.code_file.specs.Grammar.{instr_field, IsInstr}
use Rattle.code_file.proofs.write.push_instrs.Given as goal

abbrev pub invariant-loop-instr : goal.invariant-loop-instr
invariant-loop-instr l =
    (l.out.items ≡ l.initial.out.items ++ flat_map instr_field (take l.instr-index l.instrs))
    × All IsInstr (take l.instr-index l.instrs)
