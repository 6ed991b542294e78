-- Lines that are added one after the other.
use Rattle.std.proofs.Common.{◌≡◌, Bool, true, false, List, [], ◌∷◌, if◌then◌else◌}
use Rattle.printed_text.specs.declared.findings.Findings.{Findings}
use Rattle.printed_text.proofs.Adding.{adds_line, adds_none}
use Rattle.table_inspection.specs.Findings.{TableFinding, finding_text, is_table_warning}
use Rattle.table_inspection.specs.Private.AddedLines.{AddsLine, Adds}

pub adds_one : (a b : Findings) (finding : TableFinding) → AddsLine a b (finding_text finding) (is_table_warning finding) → Adds a b (finding ∷ [])
adds_one a b finding added = adds_line a b finding added.text added.warned

pub adds_if_true : (has : Bool) (findings : List TableFinding) (a b : Findings) → has ≡ true → Adds a b findings → Adds a b (if has then findings else [])
adds_if_true has findings a b is added = rw is added

pub adds_if_false : (has : Bool) (findings : List TableFinding) (a : Findings) → has ≡ false → Adds a a (if has then findings else [])
adds_if_false has findings a is = rw is (adds_none a)
