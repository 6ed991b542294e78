use Rattle.std.proofs.Common.{◌≡◌, drop}
use Rattle.retraction_remarks.specs.Titles.{is_blank}
use Rattle.retraction_remarks.proofs.remarks.is_blank.Given as goal

abbrev pub invariant-loop-byte : goal.invariant-loop-byte
invariant-loop-byte l = is_blank (drop l.byte-index l.text) ≡ is_blank l.text
