use Rattle.std.proofs.Common.{◌≡◌, length}
use Rattle.std.specs.Str.{bytes_eq}
use Rattle.kbart_rows.specs.Private.Normal.{normal}
use Rattle.kbart_rows.proofs.identifier.is_normal_form.Given as goal

-- what is left of the cell decides
abbrev pub invariant-loop-byte : goal.invariant-loop-byte
invariant-loop-byte l = bytes_eq l.fn.id (normal l.fn.cell) ≡ bytes_eq l.rest (normal l.left)

abbrev pub decreases-loop-byte : goal.decreases-loop-byte
decreases-loop-byte l = length l.left
