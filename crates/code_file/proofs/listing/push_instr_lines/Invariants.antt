use Rattle.std.proofs.Common.{◌≡◌, ◌++◌, take}
use Rattle.std.specs.Prelude.{string_bytes}
use Rattle.code_file.specs.Listing.{lines_from, instr_line}
use Rattle.code_file.proofs.listing.push_instr_lines.Given as goal

abbrev pub invariant-loop-place : goal.invariant-loop-place
invariant-loop-place l =
    string_bytes l.out ≡ string_bytes l.initial.out ++ lines_from (instr_line l.version) 0 (take l.place l.instrs)
