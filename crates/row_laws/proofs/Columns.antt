-- The entries of a row, column by column.
use Rattle.std.proofs.Common.{List, [], add-one, ap, arith, suc, ℕ, ◌++◌, ◌∙◌, ◌≡◌}
use Rattle.std.proofs.lemmas.List.Elements.{filter_map-append}
use Rattle.std.proofs.lemmas.List.Sums.{fold-append}
use Rattle.std.specs.List.{cons_option, filter_map, range_with_len}
use Rattle.text_model.proofs.Lists.{range_more}
use Rattle.environment_model.specs.Environment.{Environment}
use Rattle.kbart_rows.specs.Cells.{NamedCell, Row, named_cell}
use Rattle.kbart_rows.specs.Filling.{with_named_cell, with_defined}
use Rattle.kbart_rows.proofs.FillingLemmas.{one_cell}
use Rattle.row_laws.specs.Shadowing.{row_of}

-- the cells of the columns before n, and their entries
abbrev pub cells_of : Row → Row → ℕ → List NamedCell
cells_of header cells n = filter_map (named_cell header cells) (range_with_len 0 n)

abbrev pub entries_of : Row → Row → ℕ → Environment
entries_of header cells n = row_of (cells_of header cells n)

pub cells_more : (header cells : Row) (n : ℕ) → cells_of header cells (suc n) ≡ cells_of header cells n ++ cons_option (named_cell header cells n) []
cells_more header cells n = grind (arith, add-one, range_more, filter_map-append)

pub entries_more : (header cells : Row) (n : ℕ) → entries_of header cells (suc n) ≡ with_defined (entries_of header cells n) (named_cell header cells n)
entries_more header cells n =
    ap row_of (cells_more header cells n)
    ∙ fold-append with_named_cell [] (cells_of header cells n) (cons_option (named_cell header cells n) [])
    ∙ one_cell (entries_of header cells n) (named_cell header cells n)
