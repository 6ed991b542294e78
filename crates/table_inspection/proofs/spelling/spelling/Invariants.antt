use Rattle.std.proofs.Common.{◌≡◌, ◌++◌, drop, string_bytes}
use Rattle.table_inspection.specs.Columns.{spelled, spelling}
use Rattle.table_inspection.specs.Private.Spelling.{continued}
use Rattle.table_inspection.proofs.spelling.spelling.Given as goal

-- the spelling so far, and the rest
abbrev pub invariant-loop-b : goal.invariant-loop-b
invariant-loop-b l = string_bytes l.name ++ continued (string_bytes l.name) l.is_after_other (spelled (drop l.b-index l.text)) ≡ spelling l.text
