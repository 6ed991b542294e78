-- The lines of a registry file: for each target its name, the path of its code and the path of its table.
use Rattle.std.specs.Prelude.{◌≡◌, [], ◌∷◌, IsUtf8}
use Rattle.text_model.specs.Texts.{Text}
use Rattle.kbart_rows.specs.Cells.{Row}

-- the line has three cells, each of UTF-8: a name and two paths
pub record IsTargetLine (row : Row) (name code table : Text) : Type 0 where
  pub three : row ≡ name ∷ code ∷ table ∷ []
  pub utf8 : IsUtf8 name × IsUtf8 code × IsUtf8 table

-- it is not the line of a target
abbrev pub IsNoTargetLine : Row → Type 0
IsNoTargetLine row = (name code table : Text) → IsTargetLine row name code table → ⊥
