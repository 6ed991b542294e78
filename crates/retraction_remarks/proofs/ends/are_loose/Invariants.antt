use Rattle.std.proofs.Common.{◌≡◌, drop}
use Rattle.std.specs.List.{list_all}
use Rattle.retraction_remarks.specs.Remarks.{is_loose}
use Rattle.retraction_remarks.proofs.ends.are_loose.Given as goal

abbrev pub invariant-loop-byte : goal.invariant-loop-byte
invariant-loop-byte l = list_all is_loose (drop l.byte-index l.text) ≡ list_all is_loose l.text
