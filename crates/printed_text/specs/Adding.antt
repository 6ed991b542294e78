-- How findings grow when the lines of some are added.
use Rattle.std.specs.Prelude.{◌≡◌, ◌++◌, ◌||◌, Bool, List, string_bytes}
use Rattle.std.specs.List.{flat_map, list_any}
use Rattle.text_model.specs.Texts.{Text}
use Rattle.printed_text.specs.declared.findings.Findings.{Findings}

-- the line of each of these was added, and whether one of them is a warning
pub record AddsLines {F : Type 0} (line_of : F → Text) (warns : F → Bool) (old new : Findings) (list : List F) : Type 0 where
  pub text : string_bytes new.text ≡ string_bytes old.text ++ flat_map line_of list
  pub warned : new.warned ≡ (old.warned || list_any warns list)
