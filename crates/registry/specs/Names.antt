-- The names of the columns and of the codes of all targets, by which requests are read.
use Rattle.std.specs.Prelude.{◌≡◌, List, [], ◌∷◌, All, fold}
use Rattle.std.specs.List.{AllZip}
use Rattle.text_model.specs.Texts.{Text}
use Rattle.kbart_rows.specs.NameSets.{NameSetValue, with_names}
use Rattle.kbart_rows.specs.declared.keys.Keys.{Keys}
use Rattle.row_scope.specs.RequestValues.{AreAmong}
use Rattle.row_scope.specs.NameNumbers.{AreOwnNumbers, with_code_names}
use Rattle.row_scope.specs.NameColumns.{AreNameColumns}
use Rattle.row_scope.specs.declared.name_columns.NameColumns.{NameColumns}
use Rattle.registry.specs.Targets.{TargetValue}

-- the names of the columns of all tables, each once
abbrev pub column_names : List TargetValue → List Text
column_names targets = fold (λ names target. with_names names target.table.header) [] targets

-- the names of all codes that have numbers
abbrev pub numbered_names : List TargetValue → List Text
numbered_names targets = fold (λ names target. with_code_names names target.code) [] targets

-- the keys are those of the first target's table
abbrev pub AreKeysOfFirst : Keys → List TargetValue → Type 0
AreKeysOfFirst keys [] = Unit {0}
AreKeysOfFirst keys (first ∷ others) = keys ≡ first.table.keys

-- the columns of each target's table are among these
abbrev pub AreAllAmong : List Text → List TargetValue → Type 0
AreAllAmong columns targets = All (λ target. AreAmong columns target.table.header) targets

-- the columns and the own numbers of the names of a target's code
pub record AreNamesOf (numbered : List Text) (target : TargetValue) (places : NameColumns) : Type 0 where
  pub columns : AreNameColumns target.code target.table.header places
  pub own : AreOwnNumbers numbered target.code places.numbers.items

-- the same of each target
abbrev pub AreAllNames : List Text → List TargetValue → List NameColumns → Type 0
AreAllNames numbered targets places = AllZip (AreNamesOf numbered) targets places

-- all that is kept of the names
pub record AreNames (targets : List TargetValue) (columns numbered : NameSetValue) (all : List NameColumns) : Type 0 where
  pub column_names : columns.names ≡ column_names targets
  pub numbered_names : numbered.names ≡ numbered_names targets
  pub column_keys : AreKeysOfFirst columns.keys targets
  pub number_keys : AreKeysOfFirst numbered.keys targets
  pub places : AreAllNames numbered.names targets all
