use Rattle.std.proofs.Common.{◌≡◌, true, false, rules, ap, ◌∙◌}
use Rattle.std.specs.Option.{option_map_or}
use Rattle.printed_text.proofs.Adding.{adds_none}
use Rattle.kbart_rows.specs.Cells.{defined}
use Rattle.kbart_rows.specs.Identifiers.{identifier_columns}
use Rattle.table_inspection.specs.Columns.{is_empty_text}
use Rattle.table_inspection.specs.Findings.{RowsOfOneIdentifier}
use Rattle.table_inspection.specs.Identifiers.{finding_of_most, identifiers_of, most_rows}
use Rattle.table_inspection.specs.Private.Tallying.{rows_in}
use Rattle.table_inspection.proofs.AddingLemmas.{adds_one}
use Rattle.table_inspection.proofs.MostLemmas.{defined_is, empty_is, most_is_first}
use Rattle.table_inspection.proofs.most_rows.add_most.Goals as goal

pub returns-then-is_empty : goal.returns-then-is_empty
unfolding most_rows
returns-then-is_empty c = λ table most.
    let id = c.args.most.now.id.items in
    let empty : is_empty_text id ≡ true = search rules in
    let none = ap defined (empty_is id empty) in
    let is = ap (finding_of_most (rows_in table))
    (most_is_first (rows_in table) (identifiers_of (identifier_columns table.header) table.rows) _ most.first ∙ none) in
    rw is (adds_none _)

pub returns : goal.returns
unfolding most_rows
returns c = λ table most.
    let id = c.args.most.now.id.items in
    let full : is_empty_text id ≡ false = search rules in
    let some = defined_is id full in
    let is = ap (finding_of_most (rows_in table))
    (most_is_first (rows_in table) (identifiers_of (identifier_columns table.header) table.rows) _ most.first ∙ some) in
    let count = most.rows ∙ ap (λ (found : _). option_map_or (rows_in table) found 0) some in
    let text = c.as_slice-id.ensures.value in
    rw is (adds_one _ _ (RowsOfOneIdentifier (rows_in table id) id) (rw (count, text) at c.in_ok-add_most_rows.ensures))
