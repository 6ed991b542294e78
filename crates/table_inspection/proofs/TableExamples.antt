-- The findings in small tables.
use Rattle.std.proofs.Common.{◌≡◌, ◌++◌, true, false, List, [], ◌∷◌, refl, codes}
use Rattle.std.specs.Prelude.{map}
use Rattle.std.specs.List.{repeat}
use Rattle.kbart_rows.specs.Hashing.{keys_of}
use Rattle.text_model.specs.Texts.{Text}
use Rattle.kbart_rows.specs.Cells.{Row, Holdings}
use Rattle.table_inspection.specs.Cells.{bad_numbers, bad_dates, bad_links, unidentified, unlinked, long_rows}
use Rattle.table_inspection.specs.Columns.{missing_columns, unknown_columns, ignored_columns}
use Rattle.table_inspection.specs.Findings.{MissingColumn, UnknownColumn, MisspelledColumn, IgnoredColumn, finding_line, is_table_warning}
use Rattle.table_inspection.specs.Findings.{RowsWithoutIdentifier, NotNumbers, RowsOfOneIdentifier, NotDates, NotWebLinks, RowsWithoutLink, LongRows}
use Rattle.table_inspection.specs.Findings.{RowCount, IdentifierCount, lines_of}
use Rattle.table_inspection.specs.Identifiers.{most_rows}
use Rattle.table_inspection.specs.Inspection.{totals, inspection_text, has_table_warning}
use Rattle.table_inspection.proofs.OnLiterals.{on_literals}

abbrev table : Row → List Row → Holdings
table header rows = record { header = header; rows = rows; keys = keys_of 0 0 }

abbrev line : Text → Text
line text = text ++ 10 ∷ []

-- ---- a whole table

abbrev misspelled : Holdings
misspelled = table (codes "Print Identifier" ∷ codes "online_identifier" ∷ codes "date_first_issue_online" ∷ codes "x" ∷ [])
    ((codes "1234-5679" ∷ codes "2049-3630" ∷ codes "1995" ∷ [] ∷ []) ∷ (codes "1234-5679" ∷ [] ∷ codes "3/1/1995" ∷ codes "a" ∷ codes "b" ∷ []) ∷ [])

whole_text : inspection_text misspelled
    ≡ line (codes "rows 2") ++ (line (codes "identifiers 1") ++ (line (codes "no column print_identifier")
    ++ (line (codes "unknown column \"Print Identifier\", did you mean print_identifier") ++ (line (codes "unknown column \"x\"")
    ++ (line (codes "rows without an identifier 1, first 1") ++ (line (codes "rows of one identifier 1, \"20493630\"")
    ++ (line (codes "date_first_issue_online not a date 1, first 1 \"3/1/1995\"") ++ line (codes "rows longer than the header 1, first 1"))))))))
unfolding on_literals
whole_text = refl

whole_warning : has_table_warning misspelled ≡ true
unfolding on_literals
whole_warning = refl

-- a table that is as it should be
abbrev sound : Holdings
sound = table (codes "print_identifier" ∷ codes "online_identifier" ∷ codes "title_url" ∷ codes "date_last_issue_online" ∷ [])
    ((codes "1234-5679" ∷ codes "2049-3630" ∷ codes "HTTPS://e.org/" ∷ codes "1995-12" ∷ []) ∷ (codes "1234 5679" ∷ []) ∷ [])

sound_text : inspection_text sound
    ≡ line (codes "rows 2") ++ (line (codes "identifiers 2") ++ (line (codes "rows of one identifier 2, \"12345679\"")
    ++ line (codes "rows without title_url 1, first 1")))
unfolding on_literals
sound_text = refl

sound_warning : has_table_warning sound ≡ false
unfolding on_literals
sound_warning = refl

empty_text : inspection_text (table (codes "print_identifier" ∷ []) [])
    ≡ line (codes "rows 0") ++ (line (codes "identifiers 0") ++ line (codes "no column online_identifier"))
unfolding on_literals
empty_text = refl

-- ---- counts

counts_of_no_rows : map is_table_warning (RowCount 0 ∷ RowCount 1 ∷ IdentifierCount 0 ∷ IdentifierCount 1 ∷ []) ≡ true ∷ false ∷ true ∷ false ∷ []
counts_of_no_rows = refl

-- two forms of one identifier are one; a cell of hyphens has none, and neither has a cell past the header
different_identifiers : totals
    (table (codes "print_identifier" ∷ []) ((codes "1234-567x" ∷ codes "1111-1111" ∷ []) ∷ (codes "1234567X" ∷ []) ∷ (codes "-" ∷ []) ∷ []))
    ≡ RowCount 3 ∷ IdentifierCount 1 ∷ []
unfolding on_literals
different_identifiers = refl

-- the second column with a name does not count
second_columns : totals (table (codes "print_identifier" ∷ codes "print_identifier" ∷ []) ((codes "1" ∷ codes "2" ∷ []) ∷ ([] ∷ codes "3" ∷ []) ∷ []))
    ≡ RowCount 2 ∷ IdentifierCount 1 ∷ []
unfolding on_literals
second_columns = refl

-- ---- columns

missing_both : missing_columns (codes "Print_identifier" ∷ []) ≡ MissingColumn (codes "print_identifier") true
    ∷ MissingColumn (codes "online_identifier") true ∷ []
unfolding on_literals
missing_both = refl

missing_one : missing_columns (codes "online_identifier" ∷ []) ≡ MissingColumn (codes "print_identifier") false ∷ []
unfolding on_literals
missing_one = refl

missing_none : missing_columns (codes "online_identifier" ∷ codes "print_identifier" ∷ []) ≡ []
unfolding on_literals
missing_none = refl

-- empty names, standard names and repeated names are not among them
unknown_names : unknown_columns (codes "title" ∷ [] ∷ codes "notes" ∷ codes "title" ∷ codes "Title ID" ∷ codes "Notes" ∷ [])
    ≡ UnknownColumn (codes "title") ∷ MisspelledColumn (codes "Title ID") (codes "title_id") ∷ UnknownColumn (codes "Notes") ∷ []
unfolding on_literals
unknown_names = refl

repeated_names : ignored_columns (codes "notes" ∷ [] ∷ codes "x" ∷ [] ∷ codes "notes" ∷ codes "x" ∷ codes "x" ∷ codes "Notes" ∷ [])
    ≡ IgnoredColumn (codes "notes") ∷ IgnoredColumn (codes "x") ∷ IgnoredColumn (codes "x") ∷ []
unfolding on_literals
repeated_names = refl

-- ---- identifiers

abbrev identified : List Row → Holdings
identified rows = table (codes "online_identifier" ∷ codes "print_identifier" ∷ []) rows

rows_without_any : map unidentified (identified ((codes "1" ∷ []) ∷ ([] ∷ codes "-" ∷ []) ∷ ([] ∷ codes "x" ∷ []) ∷ (codes " - " ∷ []) ∷ [])
    ∷ identified ((codes "1" ∷ []) ∷ []) ∷ [])
    ≡ (RowsWithoutIdentifier 2 1 ∷ []) ∷ [] ∷ []
unfolding on_literals
rows_without_any = refl

-- the identifier of the print edition comes first in a row, and the identifier for any title counts as a number
first_bad_number : map bad_numbers (identified ((codes "ANY" ∷ codes "1234-5679" ∷ []) ∷ (codes "b" ∷ codes "a" ∷ []) ∷ (codes "c" ∷ []) ∷ [])
    ∷ identified ((codes "any" ∷ []) ∷ []) ∷ [])
    ≡ (NotNumbers 3 1 (codes "a") ∷ []) ∷ [] ∷ []
unfolding on_literals
first_bad_number = refl

-- a row that has an identifier twice counts once, and of two identifiers with as many rows the first one counts
identifier_of_most_rows : map most_rows (identified ((codes "b" ∷ codes "a" ∷ []) ∷ (codes "c-" ∷ codes "C" ∷ []) ∷ (codes "a" ∷ codes "B" ∷ []) ∷ [])
    ∷ identified ((codes "-" ∷ []) ∷ []) ∷ identified ((codes "c" ∷ codes "c" ∷ []) ∷ (codes "b" ∷ []) ∷ (codes "b" ∷ []) ∷ []) ∷ [])
    ≡ (RowsOfOneIdentifier 2 (codes "A") ∷ []) ∷ [] ∷ (RowsOfOneIdentifier 2 (codes "B") ∷ []) ∷ []
unfolding on_literals
identifier_of_most_rows = refl

-- ---- values

first_bad_date : map (bad_dates (codes "d"))
    (table (codes "d" ∷ codes "d" ∷ []) ((codes "2009" ∷ codes "x" ∷ []) ∷ [] ∷ (codes "2009-13" ∷ []) ∷ (codes "y" ∷ []) ∷ [])
    ∷ table (codes "x" ∷ []) ((codes "y" ∷ []) ∷ []) ∷ [])
    ≡ (NotDates (codes "d") 2 2 (codes "2009-13") ∷ []) ∷ [] ∷ []
unfolding on_literals
first_bad_date = refl

first_bad_link : bad_links (table (codes "title_url" ∷ []) ((codes "HTTP://e" ∷ []) ∷ ([] ∷ []) ∷ (codes "www.e.org" ∷ []) ∷ (codes "ftp://e" ∷ []) ∷ []))
    ≡ NotWebLinks 2 2 (codes "www.e.org") ∷ []
unfolding on_literals
first_bad_link = refl

rows_without_a_link : map unlinked (table (codes "title_url" ∷ codes "title_url" ∷ []) ((codes "x" ∷ []) ∷ ([] ∷ codes "x" ∷ []) ∷ [] ∷ [])
    ∷ table (codes "Title_url" ∷ []) ([] ∷ []) ∷ table (codes "title_url" ∷ []) [] ∷ [])
    ≡ (RowsWithoutLink 2 1 ∷ []) ∷ [] ∷ [] ∷ []
unfolding on_literals
rows_without_a_link = refl

-- empty cells beyond the header do not count
rows_past_the_header : map long_rows
    (table (codes "a" ∷ []) ((codes "1" ∷ []) ∷ (codes "1" ∷ [] ∷ []) ∷ (codes "1" ∷ [] ∷ codes "2" ∷ []) ∷ ([] ∷ codes "2" ∷ []) ∷ [])
    ∷ table (codes "a" ∷ codes "b" ∷ []) ((codes "1" ∷ codes "2" ∷ []) ∷ []) ∷ [])
    ≡ (LongRows 2 2 ∷ []) ∷ [] ∷ []
unfolding on_literals
rows_past_the_header = refl

-- ---- lines

lines : lines_of
    (MissingColumn (codes "a") true ∷ UnknownColumn (codes "b\\x") ∷ MisspelledColumn (codes "c") (codes "d") ∷ IgnoredColumn (repeat 60 (codes "e"))
    ∷ [])
    ≡ line (codes "no column a") ++ (line (codes "unknown column \"b\\x5cx\"") ++ (line (codes "unknown column \"c\", did you mean d")
    ++ line (codes "ignored column \"" ++ (repeat 60 (codes "e") ++ codes "\""))))
unfolding on_literals
lines = refl

long_texts : finding_line (IgnoredColumn (repeat 61 (codes "e"))) ≡ line (codes "ignored column \"" ++ (repeat 60 (codes "e") ++ codes "\"..."))
unfolding on_literals
long_texts = refl

counted_lines : lines_of
    (RowsWithoutIdentifier 1 2 ∷ NotNumbers 3 4 (codes "f") ∷ RowsOfOneIdentifier 5 (codes "g") ∷ NotDates (codes "h") 6 7 (codes "i") ∷ [])
    ≡ line (codes "rows without an identifier 1, first 2") ++ (line (codes "not an ISSN or ISBN 3, first 4 \"f\"")
    ++ (line (codes "rows of one identifier 5, \"g\"") ++ line (codes "h not a date 6, first 7 \"i\"")))
unfolding on_literals
counted_lines = refl

more_counted_lines : lines_of (NotWebLinks 1 2 (codes "j") ∷ RowsWithoutLink 10 23 ∷ LongRows 4 5 ∷ [])
    ≡ line (codes "title_url not a web link 1, first 2 \"j\"") ++ (line (codes "rows without title_url 10, first 23")
    ++ line (codes "rows longer than the header 4, first 5"))
unfolding on_literals
more_counted_lines = refl

warnings : map is_table_warning
    (MissingColumn [] true ∷ MissingColumn [] false ∷ UnknownColumn [] ∷ MisspelledColumn [] [] ∷ IgnoredColumn [] ∷ RowsWithoutIdentifier 1 0
    ∷ NotNumbers 1 0 [] ∷ RowsOfOneIdentifier 1 [] ∷ NotDates [] 1 0 [] ∷ NotWebLinks 1 0 [] ∷ RowsWithoutLink 1 0 ∷ LongRows 1 0 ∷ [])
    ≡ true ∷ false ∷ false ∷ true ∷ true ∷ true ∷ true ∷ false ∷ true ∷ true ∷ false ∷ true ∷ []
warnings = refl
