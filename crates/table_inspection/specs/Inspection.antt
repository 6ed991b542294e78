-- What an inspection of a holdings table prints.
use Rattle.std.specs.Prelude.{Bool, List, [], ◌∷◌, ◌++◌, length, codes}
use Rattle.text_model.specs.Texts.{Text}
use Rattle.kbart_rows.specs.Cells.{Row, Holdings}
use Rattle.kbart_rows.specs.Identifiers.{identifier_columns}
use Rattle.table_inspection.specs.Cells.{unidentified, bad_numbers, bad_dates, bad_links, unlinked, long_rows}
use Rattle.table_inspection.specs.Columns.{missing_columns, unknown_columns, ignored_columns}
use Rattle.table_inspection.specs.Findings.{TableFinding, RowCount, IdentifierCount, lines_of, have_table_warning}
use Rattle.table_inspection.specs.Identifiers.{identifiers_of, distinct, most_rows}

unfoldable pub totals : Holdings → List TableFinding
totals table =
    RowCount (length table.rows) ∷ IdentifierCount (length (distinct (identifiers_of (identifier_columns table.header) table.rows))) ∷ []

unfoldable pub findings_in_columns : Row → List TableFinding
findings_in_columns header = missing_columns header ++ (unknown_columns header ++ ignored_columns header)

unfoldable pub findings_in_identifiers : Holdings → List TableFinding
findings_in_identifiers table = unidentified table ++ (bad_numbers table ++ most_rows table)

unfoldable pub findings_in_values : Holdings → List TableFinding
findings_in_values table =
    bad_dates (codes "date_first_issue_online") table ++ (bad_dates (codes "date_last_issue_online") table
    ++ (bad_links table ++ (unlinked table ++ long_rows table)))

-- all findings, in the order of their lines
unfoldable pub findings_of : Holdings → List TableFinding
findings_of table = totals table ++ (findings_in_columns table.header ++ (findings_in_identifiers table ++ findings_in_values table))

unfoldable pub inspection_text : Holdings → Text
inspection_text table = lines_of (findings_of table)

-- one of the lines is a warning
unfoldable pub has_table_warning : Holdings → Bool
has_table_warning table = have_table_warning (findings_of table)
