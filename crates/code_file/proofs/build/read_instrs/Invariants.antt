use Rattle.std.proofs.Common.{◌≡◌, ◌-◌, ◌*◌, ◌++◌, length}
use Rattle.std.specs.Prelude.{All}
use Rattle.std.specs.List.{flat_map}
use Rattle.code_file.specs.Grammar.{IsInstr, instr_field}
use Rattle.code_file.proofs.build.read_instrs.Given as goal

abbrev pub invariant-loop : goal.invariant-loop
invariant-loop l =
    All IsInstr l.instrs.items × (length l.instrs.items ≡ l.counter) × (length l.rest ≡ 8 * (l.count - l.counter))
    × (l.bytes ≡ flat_map instr_field l.instrs.items ++ l.rest)
