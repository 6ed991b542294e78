-- Targets, and which of them belong together in a registry.
use Rattle.std.specs.Prelude.{◌≡◌, ◌≢◌, ◌≤◌, Bool, false, List, length, All}
use Rattle.std.specs.List.{AllPairs, list_any}
use Rattle.std.specs.Str.{bytes_eq}
use Rattle.text_model.specs.Texts.{Text}
use Rattle.code_model.specs.Code.{Code}
use Rattle.machine_model.specs.Safe.{IsSafe}
use Rattle.kbart_rows.specs.Cells.{Holdings}
use Rattle.menu.specs.Contained.{IsTargetName}
use Rattle.registry.specs.declared.registry.TheConstants.{MAX_TARGETS}

-- a content provider: its name, its accepted code, and the table of its holdings
pub record TargetValue : Type 0 where
  pub name : Text
  pub code : Code
  pub table : Holdings

-- a target has the name
abbrev pub has_name : List TargetValue → Text → Bool
has_name targets name = list_any (λ target. bytes_eq target.name name) targets

-- not too many targets, each with a valid name and safe code, and no two with the same name
pub record IsRegistry (targets : List TargetValue) : Type 0 where
  pub few : length targets ≤ MAX_TARGETS
  pub named : All (λ target. IsTargetName target.name) targets
  pub safe : All (λ target. IsSafe target.code) targets
  pub once : AllPairs (λ a b. a.name ≢ b.name) targets

-- one more target may have the name
pub record IsFreeName (targets : List TargetValue) (name : Text) : Type 0 where
  pub is_name : IsTargetName name
  pub is_new : has_name targets name ≡ false
