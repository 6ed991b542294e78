use Rattle.std.proofs.Common.{◌≡◌, ◌+◌, ◌≤◌, drop, take, length}
use denote.Text.{Utf8}
use denote.Shadow.{shadow}
use Rattle.std.specs.HashMap.{get_by_text, hasher_of}
use Rattle.text_model.specs.Texts.{Text}
use Rattle.kbart_rows.specs.Cells.{column_of}
use Rattle.kbart_rows.specs.Lines.{cells_in}
use Rattle.kbart_rows.proofs.columns.columns_of.Given as goal

-- the names so far lead to their first columns, with the keys
abbrev pub invariant-loop-name : goal.invariant-loop-name
invariant-loop-name l = shadow (Utf8 l.rest) × (cells_in l.rest ≡ drop l.column (cells_in l.header)) × (l.column ≤ length (cells_in l.header))
    × (l.column + length l.rest ≤ length l.header)
    × (hasher_of l.columns ≡ l.fn.keys)
    × ((name : Text) → get_by_text l.columns name ≡ column_of (take l.column (cells_in l.header)) name)

abbrev pub decreases-loop-name : goal.decreases-loop-name
decreases-loop-name l = length l.rest
