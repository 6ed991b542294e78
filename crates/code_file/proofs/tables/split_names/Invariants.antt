use Rattle.std.proofs.Common.{◌≤◌, length, take}
use Rattle.code_file.specs.Fault.{AreNames}
use Rattle.code_file.proofs.tables.split_names.Given as goal

abbrev pub invariant-loop : goal.invariant-loop
invariant-loop l = (l.at ≤ length l.bytes) × AreNames l.counter (take l.at l.bytes)
