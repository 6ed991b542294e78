-- Computing with literals.
use Rattle.std.specs.Prelude.{⊤}
use Rattle.std.specs.Fmt.{digits}
use Rattle.std.specs.Str.{chars}
use lib.Utf8.{encode}
use Rattle.table_inspection.specs.Cells.{cell_faults, bad_numbers, bad_dates, bad_links, row_faults, unidentified, unlinked, long_rows}
use Rattle.table_inspection.specs.Columns.{missing_columns, spelled, unknown_columns, ignored_columns}
use Rattle.table_inspection.specs.Findings.{lines_of, have_table_warning}
use Rattle.table_inspection.specs.Identifiers.{identifiers_of, distinct, rows_having, first_of_most, most_rows}
use Rattle.table_inspection.specs.Inspection.{totals, findings_in_columns, findings_in_identifiers, findings_in_values, findings_of, inspection_text}
use Rattle.table_inspection.specs.Inspection.{has_table_warning}

-- what is unfolded to compute this crate's definitions on literals
unfoldable pub on_literals : ⊤
unfolding digits chars encode cell_faults bad_numbers bad_dates bad_links row_faults unidentified unlinked long_rows missing_columns spelled
    unknown_columns ignored_columns lines_of have_table_warning identifiers_of distinct rows_having first_of_most most_rows totals findings_in_columns
    findings_in_identifiers findings_in_values findings_of inspection_text has_table_warning
on_literals = tt
