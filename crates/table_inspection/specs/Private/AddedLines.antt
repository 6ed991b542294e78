-- Lines that are added to findings.
use Rattle.std.specs.Prelude.{◌≡◌, ◌||◌, ◌++◌, Bool, List, string_bytes}
use Rattle.text_model.specs.Texts.{Text}
use Rattle.printed_text.specs.Adding.{AddsLines}
use Rattle.printed_text.specs.declared.findings.Findings.{Findings}
use Rattle.table_inspection.specs.Findings.{TableFinding, is_table_warning, newline, finding_line}

-- a line was added, and whether it is a warning
pub record AddsLine (old new : Findings) (line : Text) (warns : Bool) : Type 0 where
  pub text : string_bytes new.text ≡ string_bytes old.text ++ (line ++ newline)
  pub warned : new.warned ≡ (old.warned || warns)

-- the lines of these findings were added
abbrev pub Adds : Findings → Findings → List TableFinding → Type 0
Adds = AddsLines finding_line is_table_warning
