-- The bytes and the members of a row over a request.
use Rattle.std.proofs.Common.{◌≡◌, ℕ, ◌+◌, ◌*◌, ◌<◌, ◌≤◌, ◌⊎◌, inl, inr, List, [], length, get_or, arith}
use Rattle.std.specs.Prelude.{All}
use Rattle.std.specs.List.{sum_by}
use Rattle.std.proofs.lemmas.Bool.{cases_lt}
use Rattle.std.proofs.lemmas.List.{get_or_past}
use Rattle.std.proofs.lemmas.List.Elements.{All-get_or, All-tail}
use Rattle.text_model.specs.Texts.{Text}
use Rattle.environment_model.specs.Environment.{byte_count, member_count}
use Rattle.kev_read.specs.Pairs.{KeyValue, value_bytes}
use Rattle.kev_read.specs.ReadQuery.{ReadQuery, IsBounded}
use Rattle.kev_read.specs.Filling.{filled}
use Rattle.kbart_rows.specs.Cells.{NamedCell, Row, cell_bytes, named_cells, row_bytes}
use Rattle.kbart_rows.specs.Reading.{IsTable}
use Rattle.kbart_rows.specs.declared.read.TheConstants.{MAX_ROW_BYTES}
use Rattle.kbart_rows.proofs.RowSums.{counted_within, firsts_count}
use Rattle.row_laws.specs.Shadowing.{hidden, requested, row_of}
use Rattle.row_scope.specs.RowEnvironments.{cells_of_row, lists_of}
use Rattle.registry.specs.RowEnvironments.{row_environment}
use Rattle.registry.specs.Targets.{TargetValue}

-- the laws of lower crates
pub record LawsOfSums : Type 0 where
  pub row_members : (cells : List NamedCell) → member_count (row_of cells) ≡ 0
  pub row_bytes : (header cells : Row) → byte_count (row_of (named_cells header cells)) ≡ cell_bytes (named_cells header cells)
  pub members : (lists : List Text) (cells : List NamedCell) (pairs : List KeyValue)
      → member_count (filled lists (row_of cells) pairs) + member_count (hidden (row_of cells) (requested lists pairs)) ≡ member_count (requested lists pairs)
  pub bytes : (lists : List Text) (cells : List NamedCell) (pairs : List KeyValue)
      → byte_count (filled lists (row_of cells) pairs) + byte_count (hidden (row_of cells) (requested lists pairs))
      ≡ byte_count (row_of cells) + byte_count (requested lists pairs)
  pub few : (lists : List Text) (pairs : List KeyValue) → member_count (requested lists pairs) ≤ length pairs
  pub small : (lists : List Text) (pairs : List KeyValue) → byte_count (requested lists pairs) ≤ value_bytes pairs

cells_within : (header cells : Row) → cell_bytes (named_cells header cells) ≤ sum_by length cells
cells_within header cells = rw (← firsts_count header cells) (counted_within _ cells)

row_within : (rows : List Row) (row : ℕ) → All (λ cells. row_bytes cells ≤ MAX_ROW_BYTES) rows → sum_by length (get_or rows row []) ≤ MAX_ROW_BYTES
row_within rows row fit = by_length (cases_lt row (length rows))
  where
    by_length : (row < length rows) ⊎ (length rows ≤ row) → sum_by length (get_or rows row []) ≤ MAX_ROW_BYTES
    by_length (inl within) =
        let here = All-get_or (λ (cells : Row). row_bytes cells ≤ MAX_ROW_BYTES) rows row [] within fit in
        omega (arith, here)
    by_length (inr past) = rw (get_or_past rows row [] past) (omega arith)

module _ (laws : LawsOfSums) where
  pub few_members : (target : TargetValue) (pairs : List KeyValue) (row : ℕ) → member_count (row_environment target pairs row) ≤ length pairs
  few_members target pairs row =
      let lists = lists_of target.code in
      let cells = named_cells target.table.header (cells_of_row target.table row) in
      let sum = laws.members lists cells pairs in
      let few = laws.few lists pairs in
      omega (arith, sum, few)

  pub few_bytes : (target : TargetValue) (file : Text) (request : ReadQuery) (row : ℕ) → IsTable file target.table → IsBounded request
      → byte_count (row_environment target request.pairs row) ≤ MAX_ROW_BYTES + 3 * request.query_bytes
  few_bytes target file request row table bounded =
      let lists = lists_of target.code in
      let header = target.table.header in
      let cells = cells_of_row target.table row in
      let sum = laws.bytes lists (named_cells header cells) request.pairs in
      let of_row = laws.row_bytes header cells in
      let all = cells_within header cells in
      let fit = row_within target.table.rows row
      (All-tail (λ (cells : Row). row_bytes cells ≤ MAX_ROW_BYTES) target.table.header target.table.rows table.fit) in
      let small = laws.small lists request.pairs in
      let values = bounded.values in
      omega (arith, sum, of_row, all, fit, small, values)
