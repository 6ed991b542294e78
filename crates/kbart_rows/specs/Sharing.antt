-- What the identifiers of a row have in common with other rows.
use Rattle.std.specs.Prelude.{◌≡◌, ℕ, ◌≤◌, Bool, true, [], ◌∷◌, length, get_or}
use Rattle.text_model.specs.Texts.{Text}
use Rattle.kbart_rows.specs.Cells.{Holdings}
use Rattle.kbart_rows.specs.Identifiers.{has_identifier, identifier_columns, matching_rows}

-- a row, counted from 0, has the identifier
abbrev pub row_has : Holdings → ℕ → Text → Bool
row_has table row id = has_identifier (identifier_columns table.header) id (get_or table.rows row [])

-- no identifier of the row has a row before `first`, or more than `most` rows
pub record SharesAtMost (table : Holdings) (row first most : ℕ) : Type 0 where
  pub from : (id : Text) (other : ℕ) → row_has table row id ≡ true → row_has table other id ≡ true → first ≤ other
  pub few : (id : Text) → row_has table row id ≡ true → length (matching_rows table (id ∷ [])) ≤ most
