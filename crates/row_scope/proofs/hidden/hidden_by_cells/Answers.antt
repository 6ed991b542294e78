use Rattle.std.proofs.Common.{◌≡◌, ◌+◌, ◌<◌, ◌≤◌, ℕ, zero, suc, Bor, [], ◌∷◌, Option, Some, None, slice_get, length, sym, ap, ◌∙◌, arith}
use Rattle.std.proofs.lemmas.Grind.{common_steps}
use Rattle.std.specs.Option.{option_copied}
use Rattle.std.proofs.lemmas.Option.{slice_get_within, get_or_from_slice_get}
use Rattle.text_model.specs.Texts.{Text}
use Rattle.kbart_rows.specs.Cells.{Row, named_cells}
use Rattle.kbart_rows.specs.Lines.{CursorValue, cells_in}
use Rattle.row_laws.specs.Shadowing.{requested, row_of, hidden_bytes_at, hidden_members_at}
use Rattle.row_scope.specs.RowEnvironments.{lists_of}
use Rattle.kbart_rows.proofs.LineCells.{few_cells}
use Rattle.row_scope.proofs.ColumnSums.{sum_of_first, one_column_more, within_all, all_columns}
use Rattle.row_scope.proofs.SumLemmas.{hidden_bytes_le, hidden_members_le}
use Rattle.row_scope.proofs.hidden.hidden_by_cells.Goals as goal

-- the name that the cursor returns is that of the column
named : (header : Row) (cursor : CursorValue) (column : ℕ) (found : Option (Bor Text)) (name : Bor Text) → cells_in cursor.line ≡ header
    → cursor.column ≡ column
    → option_copied found ≡ slice_get (cells_in cursor.line) cursor.column → found ≡ Some name → slice_get header column ≡ Some name.now
named header cursor column found name line place cell is =
    ap (λ cells. slice_get cells column) (sym line) ∙ ap (slice_get (cells_in cursor.line)) (sym place) ∙ sym cell ∙ ap option_copied is

-- and no column is after the last one of the header
within_line : (header : Row) (cursor : CursorValue) (column : ℕ) (name : Text) → cells_in cursor.line ≡ header → slice_get header column ≡ Some name
    → (column < length header) × (column < length cursor.line)
within_line header cursor column name line is =
    let inside = slice_get_within header column name is in (inside, omega (arith, inside, few_cells cursor.line, ap length line))

past_all : (header : Row) (column : ℕ) → column ≤ length header → slice_get header column ≡ None → column ≡ length header
past_all [] column within none = omega (arith, within)
past_all (name ∷ header) zero within none = absurd (cc)
past_all (name ∷ header) (suc column) within none = ap suc (past_all header column (omega (arith, within)) none)

-- if there is no name, the cursor is past all columns
ended : (header : Row) (cursor : CursorValue) (column : ℕ) (found : Option (Bor Text)) → cells_in cursor.line ≡ header → cursor.column ≡ column
    → option_copied found ≡ slice_get (cells_in cursor.line) cursor.column → found ≡ None → column ≤ length header → column ≡ length header
ended header cursor column found line place cell is within =
    past_all header column within
    (ap (λ cells. slice_get cells column) (sym line) ∙ ap (slice_get (cells_in cursor.line)) (sym place) ∙ sym cell ∙ ap option_copied is)

pub loop-name-init : goal.loop-name-init
loop-name-init c = grind (arith, common_steps)

pub hidden_at-bytes-requires-clause-named : goal.hidden_at-bytes-requires-clause-named
hidden_at-bytes-requires-clause-named c =
    let inv = c.loop-name.invariant in
    let header = c.args.table.now.header in
    get_or_from_slice_get header c.loop-name.column c.in-Some.name.now []
    (named header c.loop-name.header c.loop-name.column c.next_cell.result c.in-Some.name inv.names inv.column c.next_cell.ensures.cell c.in-Some.is)

pub hidden_at-bytes-requires-clause-short : goal.hidden_at-bytes-requires-clause-short
hidden_at-bytes-requires-clause-short c = omega (arith, ap length c.loop-name.invariant.line, c.requires)

pub overflow_add-sums : goal.overflow_add-sums
overflow_add-sums c =
    let inv = c.loop-name.invariant in
    let header = c.args.table.now.header in
    let cells = cells_in c.args.line.now in
    let lists = lists_of c.args.code.now in
    let pairs = c.args.request.now.pairs in
    let column = c.loop-name.column in
    let f = hidden_bytes_at header cells lists pairs in
    let is = named header c.loop-name.header column c.next_cell.result c.in-Some.name inv.names inv.column c.next_cell.ensures.cell c.in-Some.is in
    let here = c.hidden_at-bytes.ensures.bytes ∙ ap (λ (l : Text). hidden_bytes_at header (cells_in l) lists pairs column) inv.line in
    omega (
      arith,
      inv.bytes,
      here,
      within_all f (length header) column (slice_get_within header column c.in-Some.name.now is),
      c.hidden_by_columns.ensures.bytes header cells lists pairs,
      hidden_bytes_le (row_of (named_cells header cells)) (requested lists pairs),
      c.requests_are_small.ensures.bytes lists pairs,
      c.size-known.ensures.known.small,
    )

pub overflow_add-sums-in-Some : goal.overflow_add-sums-in-Some
overflow_add-sums-in-Some c =
    let inv = c.loop-name.invariant in
    let header = c.args.table.now.header in
    let cells = cells_in c.args.line.now in
    let lists = lists_of c.args.code.now in
    let pairs = c.args.request.now.pairs in
    let column = c.loop-name.column in
    let f = hidden_members_at header cells lists pairs in
    let is = named header c.loop-name.header column c.next_cell.result c.in-Some.name inv.names inv.column c.next_cell.ensures.cell c.in-Some.is in
    let here = c.hidden_at-bytes.ensures.members ∙ ap (λ (l : Text). hidden_members_at header (cells_in l) lists pairs column) inv.line in
    omega (
      arith,
      inv.members,
      here,
      within_all f (length header) column (slice_get_within header column c.in-Some.name.now is),
      c.hidden_by_columns.ensures.members header cells lists pairs,
      hidden_members_le (row_of (named_cells header cells)) (requested lists pairs),
      c.requests_are_small.ensures.members lists pairs,
      c.size-known.ensures.known.few_pairs,
    )

pub overflow_add-column : goal.overflow_add-column
overflow_add-column c =
    let inv = c.loop-name.invariant in
    let header = c.args.table.now.header in
    let is = named header c.loop-name.header c.loop-name.column c.next_cell.result c.in-Some.name inv.names inv.column c.next_cell.ensures.cell c.in-Some.is in
    omega (arith, within_line header c.loop-name.header c.loop-name.column c.in-Some.name.now inv.names is, inv.short)

pub loop-name-smaller : goal.loop-name-smaller
loop-name-smaller c =
    let inv = c.loop-name.invariant in
    let header = c.args.table.now.header in
    let is = named header c.loop-name.header c.loop-name.column c.next_cell.result c.in-Some.name inv.names inv.column c.next_cell.ensures.cell c.in-Some.is in
    omega (arith, slice_get_within header c.loop-name.column c.in-Some.name.now is)

pub loop-name-preserved : goal.loop-name-preserved
loop-name-preserved c =
    let inv = c.loop-name.invariant in
    let header = c.args.table.now.header in
    let cells = cells_in c.args.line.now in
    let lists = lists_of c.args.code.now in
    let pairs = c.args.request.now.pairs in
    let column = c.loop-name.column in
    let is = named header c.loop-name.header column c.next_cell.result c.in-Some.name inv.names inv.column c.next_cell.ensures.cell c.in-Some.is in
    let inside = slice_get_within header column c.in-Some.name.now is in
    let hidden = c.hidden_at-bytes.ensures in
    let bytes = hidden.bytes ∙ ap (λ (l : Text). hidden_bytes_at header (cells_in l) lists pairs column) inv.line in
    let members = hidden.members ∙ ap (λ (l : Text). hidden_members_at header (cells_in l) lists pairs column) inv.line in
    record {
      names = ap cells_in c.next_cell.ensures.line ∙ inv.names;
      short = omega (arith, ap length c.next_cell.ensures.line, inv.short);
      column = c.in-Some.ensures.some ∙ ap (λ n. n + 1) inv.column;
      within = omega (arith, inside);
      line = hidden.line ∙ inv.line;
      ahead = omega (arith, hidden.column);
      bytes = omega (arith, inv.bytes, bytes, one_column_more (hidden_bytes_at header cells lists pairs) (length header) column inside);
      members = omega (arith, inv.members, members, one_column_more (hidden_members_at header cells lists pairs) (length header) column inside);
    }

pub returns-clause-bytes : goal.returns-clause-bytes
returns-clause-bytes c =
    let inv = c.loop-name.invariant in
    let header = c.args.table.now.header in
    let f = hidden_bytes_at header (cells_in c.args.line.now) (lists_of c.args.code.now) c.args.request.now.pairs in
    let all = ended header c.loop-name.header c.loop-name.column c.next_cell.result inv.names inv.column c.next_cell.ensures.cell c.in_default.is inv.within in
    inv.bytes ∙ ap (sum_of_first f (length header)) all ∙ all_columns f (length header)

pub returns-clause-members : goal.returns-clause-members
returns-clause-members c =
    let inv = c.loop-name.invariant in
    let header = c.args.table.now.header in
    let f = hidden_members_at header (cells_in c.args.line.now) (lists_of c.args.code.now) c.args.request.now.pairs in
    let all = ended header c.loop-name.header c.loop-name.column c.next_cell.result inv.names inv.column c.next_cell.ensures.cell c.in_default.is inv.within in
    inv.members ∙ ap (sum_of_first f (length header)) all ∙ all_columns f (length header)
