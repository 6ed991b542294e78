use Rattle.std.proofs.Common.{◌≡◌, drop}
use Rattle.retraction_remarks.specs.Remarks.{is_capital}
use Rattle.retraction_remarks.proofs.ends.is_capital.Given as goal

abbrev pub invariant-loop-byte : goal.invariant-loop-byte
invariant-loop-byte l = is_capital (drop l.byte-index l.text) ≡ is_capital l.text
