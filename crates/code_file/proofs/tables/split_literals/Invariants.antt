use Rattle.std.proofs.Common.{◌≤◌, length, take}
use Rattle.code_file.specs.Fault.{AreLiterals}
use Rattle.code_file.proofs.tables.split_literals.Given as goal

abbrev pub invariant-loop : goal.invariant-loop
invariant-loop l = (l.at ≤ length l.bytes) × AreLiterals l.counter (take l.at l.bytes)
