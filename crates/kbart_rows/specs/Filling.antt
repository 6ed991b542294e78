-- An environment after the defined cells of a row are added.
use Rattle.std.specs.Prelude.{◌≡◌, ◌↔◌, ◌+◌, ◌<◌, false, List, ◌∷◌, ◌++◌, length, fold, Option, None, Some}
use Rattle.environment_model.specs.Environment.{Environment, is_there, byte_count, with_text}
use Rattle.target_vars.specs.declared.env.TheConstants.{MAX_BYTES}
use Rattle.target_vars.specs.declared.error.VarsError.{VarsError}
use Rattle.target_vars.specs.declared.error.VarsError.TheVariants.{TooLarge}
use Rattle.kbart_rows.specs.Cells.{NamedCell}

-- the environment after a cell: the first entry of a name stays
abbrev pub with_named_cell : Environment → NamedCell → Environment
with_named_cell env cell = with_text env cell.name cell.text

abbrev pub with_defined : Environment → Option NamedCell → Environment
with_defined env None = env
with_defined env (Some cell) = with_named_cell env cell

-- the environment after each cell, in order
abbrev pub with_named_cells : Environment → List NamedCell → Environment
with_named_cells env cells = fold with_named_cell env cells

-- the environment has the cells before a rejected one, which would otherwise have been added
pub record StopsAtCell (old : Environment) (cells : List NamedCell) (new : Environment) (e : VarsError) : Type 0 where
  pub before : List NamedCell
  pub refused : NamedCell
  pub after : List NamedCell
  pub in_order : cells ≡ before ++ refused ∷ after
  pub reached : new ≡ with_named_cells old before
  pub is_new : is_there new refused.name ≡ false
  pub too_large : (e ≡ TooLarge) ↔ (MAX_BYTES < byte_count new + length refused.text)
