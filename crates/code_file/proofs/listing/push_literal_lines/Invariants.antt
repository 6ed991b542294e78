use Rattle.std.proofs.Common.{◌≡◌, ◌++◌, take}
use Rattle.std.specs.Prelude.{string_bytes}
use Rattle.code_file.specs.Listing.{lines_from, literal_line}
use Rattle.code_file.proofs.listing.push_literal_lines.Given as goal

abbrev pub invariant-loop-place : goal.invariant-loop-place
invariant-loop-place l =
    string_bytes l.out ≡ string_bytes l.initial.out ++ lines_from literal_line 0 (take l.place l.literals)
