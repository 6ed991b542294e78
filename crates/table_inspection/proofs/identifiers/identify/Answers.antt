use Rattle.std.proofs.Common.{◌≡◌, ◌==◌, ◌+◌, ◌<◌, [], List, Option, length, get_or, sym, ap, subst, ◌∙◌, arith}
use Rattle.std.proofs.lemmas.Grind.{common_steps}
use Rattle.std.specs.List.{list_any}
use Rattle.std.specs.Str.{bytes_eq}
use Rattle.kbart_rows.specs.Identifiers.{identifier_columns}
use Rattle.kbart_rows.specs.Sharing.{SharesAtMost}
use Rattle.kbart_rows.specs.declared.sharing.Sharing.{Sharing}
use Rattle.table_inspection.specs.Cells.{cell_faults, has_no_identifier, is_numbered, row_faults}
use Rattle.table_inspection.specs.Identifiers.{identifiers_of, row_identifiers}
use Rattle.table_inspection.specs.Private.Forms.{normal_form}
use Rattle.table_inspection.proofs.CountingLemmas.{identifiers_of_two, none_of_two}
use Rattle.table_inspection.proofs.KnownRows.{known_in}
use Rattle.table_inspection.proofs.RowCells.{AreCellsSoFar, rows_step, two_cells_step}
use Rattle.table_inspection.proofs.TallyLemmas.{same_ids}
use Rattle.table_inspection.proofs.identifiers.identify.Goals as goal

pub loop-row-init : goal.loop-row-init
unfolding identifiers_of
loop-row-init c = record {
  tallied = c.new-tally.ensures.tallied _;
  few = omega (arith, c.new-tally.ensures.none);
  unidentified = grind (arith, common_steps);
  bad_numbers = grind (arith, common_steps);
}

pub add_row-requires-clause-own : goal.add_row-requires-clause-own
add_row-requires-clause-own c =
    let table = c.args.table.now in
    let row = c.loop-row.row in
    let cells = get_or table.rows row [] in
    let print = c.columns_of-columns.result.print in
    let online = c.columns_of-columns.result.online in
    let columns = c.columns_of-columns.ensures in
    let shared = c.index-shared.result.now in
    let inside : row < length table.rows = omega (arith, c.loop-row-test.true, c.rows-row-end.ensures.count) in
    let first = c.as_slice-print_id.ensures.value ∙ c.in_ok-write_form.ensures ∙ ap normal_form c.cells_of-cells.ensures.print in
    let second = c.as_slice-online_id.ensures.value ∙ c.in_ok-write_form-2.ensures ∙ ap normal_form c.cells_of-cells.ensures.online in
    record {
      inside = inside;
      ids = ap (λ (columns : _). row_identifiers columns cells) (sym columns) ∙ identifiers_of_two print online cells _ _ first second;
      shares = subst (λ (shared : Sharing). SharesAtMost table row shared.first shared.rows) (sym c.index-shared.ensures)
          (c.in_ok-sharing.ensures.bounds row shared inside);
      repeats = λ repeated id has.
          let before = c.is_repeated-is_repeated.ensures.before repeated in
          let same = same_ids print online cells (get_or table.rows shared.first [])
          (sym c.cells_of-cells.ensures.print ∙ c.is_repeated-is_repeated.ensures.print repeated)
          (sym c.cells_of-cells.ensures.online ∙ c.is_repeated-is_repeated.ensures.online repeated) in
          let others : row_identifiers (identifier_columns table.header) cells ≡ row_identifiers (identifier_columns table.header)
          (get_or table.rows shared.first []) =
          subst (λ (columns : List (Option _)). row_identifiers columns cells ≡ row_identifiers columns (get_or table.rows shared.first [])) columns same in
          known_in table row shared.first id before (omega (arith, before, inside)) (ap (list_any (bytes_eq id)) (sym others) ∙ has);
    }

pub loop-row-preserved : goal.loop-row-preserved
loop-row-preserved c =
    let inv = c.loop-row.invariant in
    let table = c.args.table.now in
    let row = c.loop-row.row in
    let cells = get_or table.rows row [] in
    let print = c.columns_of-columns.result.print in
    let online = c.columns_of-columns.result.online in
    let columns = c.columns_of-columns.ensures in
    let first = c.as_slice-print_id.ensures.value ∙ c.in_ok-write_form.ensures ∙ ap normal_form c.cells_of-cells.ensures.print in
    let second = c.as_slice-online_id.ensures.value ∙ c.in_ok-write_form-2.ensures ∙ ap normal_form c.cells_of-cells.ensures.online in
    let ids = ap (λ (columns : _). row_identifiers columns cells) (sym columns) ∙ identifiers_of_two print online cells _ _ first second in
    let old = c.loop-row.bad_numbers in
    let new = c.add_number-in-loop-row.new.cells in
    let none = c.are_empty.ensures ∙ none_of_two c.as_slice-print_id.result.now c.as_slice-online_id.result.now
    ∙ ap (λ (ids : _). length ids == 0) (sym ids) in
    record {
      tallied = c.in_ok-add_row.ensures.tallied inv.tallied;
      few = omega (arith, inv.few, c.in_ok-add_row.ensures.small);
      unidentified = rows_step (has_no_identifier table.header) table row _ _ _ _ c.are_empty.result none c.add_if.ensures.count c.add_if.ensures.first
          inv.unidentified;
      bad_numbers = subst (λ (columns : List (Option _)). AreCellsSoFar is_numbered columns table (row + 1) new.count new.first new.text.now) columns
          (two_cells_step is_numbered print online table row _ _ _ _ _ _ _ _ _ _ _ c.cells_of-cells.ensures.print c.cells_of-cells.ensures.online
          record { added = c.add_number.ensures.added; small = c.add_number.ensures.small }
          record { added = c.add_number-in-loop-row.ensures.added; small = c.add_number-in-loop-row.ensures.small }
          (subst (λ (columns : List (Option _)). AreCellsSoFar is_numbered columns table row old.count old.first old.text.now) (sym columns) inv.bad_numbers));
    }

pub returns : goal.returns
unfolding cell_faults row_faults
returns c = grind (arith, common_steps)
