-- A registry file whose code files were compiled from rule texts.
use Rattle.std.specs.Prelude.{◌≡◌, List}
use Rattle.std.specs.List.{AllZip}
use Rattle.text_model.specs.Texts.{Text}
use Rattle.kbart_rows.specs.Cells.{Row}
use Rattle.kbart_rows.specs.Reading.{AreLines}
use Rattle.files.specs.Found.{Disk, File}
use Rattle.registry_file.specs.Lines.{IsTargetLine}
use Rattle.rule_menus.specs.RuleFiles.{TargetFiles}
use Rattle.rule_menus.specs.CodeFiles.{IsCodeFileOf}

-- the line has the target's name and two paths: at one is the code file of its rule text, at the other its table
pub record IsLineOf (disk : Disk) (row : Row) (files : TargetFiles) : Type 0 where
  pub code_path : Text
  pub table_path : Text
  pub line : IsTargetLine row files.name code_path table_path
  pub code_file : Text
  pub code : disk code_path ≡ File code_file
  pub compiled : IsCodeFileOf files.rules code_file
  pub table : disk table_path ≡ File files.table

-- each line is of the files at the same position
abbrev pub AreLinesOf : Disk → List Row → List TargetFiles → Type 0
AreLinesOf disk rows files = AllZip (IsLineOf disk) rows files

-- at the path is a registry file, and each of its lines is of the files at the same position
pub record IsRegistryOf (disk : Disk) (path : Text) (files : List TargetFiles) : Type 0 where
  pub registry : Text
  pub file : disk path ≡ File registry
  pub rows : List Row
  pub lines : AreLines registry rows
  pub targets : AreLinesOf disk rows files
