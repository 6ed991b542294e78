use Rattle.std.proofs.Common.{◌≡◌, ℕ, ◌<◌, All, Some}
use Rattle.std.specs.List.{Contains}
use Rattle.machine_model.specs.Operands.{name_at}
use Rattle.kbart_rows.specs.Cells.{column_of}
use Rattle.row_scope.specs.NameColumns.{IsNameColumn}
use Rattle.row_scope.proofs.name_columns.columns_of.Given as goal

-- all columns of the names so far
abbrev pub invariant-loop-number : goal.invariant-loop-number
invariant-loop-number l = record {
  are : All (IsNameColumn l.code l.table.header) l.columns.items;
  every : (number column : ℕ) → number < l.number → column_of l.table.header (name_at l.code number) ≡ Some column
      → Contains l.columns.items (record { column = column; number = number });
}
