-- The findings in the header of a holdings table (NISO RP-9-2014).
use Rattle.std.specs.Prelude.{ℕ, ◌==◌, ◌&&◌, Bool, not, List, [], ◌∷◌, length, get_or, codes, is_none, Option, None, Some, if◌then◌else◌}
use Rattle.std.specs.Char.{is_ascii_alphabetic, to_ascii_lowercase}
use Rattle.std.specs.List.{find, flat_map, list_any, range_with_len}
use Rattle.std.specs.Str.{bytes_eq}
use Rattle.text_model.specs.Texts.{Text}
use Rattle.kbart_rows.specs.Cells.{Row, column_of, is_first}
use Rattle.standard_names.specs.Columns.{known_columns}
use Rattle.table_inspection.specs.Findings.{TableFinding, MissingColumn, UnknownColumn, MisspelledColumn, IgnoredColumn}

-- ---- the columns of identifiers

abbrev pub identifier_names : List Text
identifier_names = codes "print_identifier" ∷ codes "online_identifier" ∷ []

abbrev pub is_missing : Row → Text → Bool
is_missing header name = is_none (column_of header name)

abbrev pub are_both_missing : Row → Bool
are_both_missing header = is_missing header (codes "print_identifier") && is_missing header (codes "online_identifier")

abbrev pub missing_column : Row → Text → List TableFinding
missing_column header name = if is_missing header name then MissingColumn name (are_both_missing header) ∷ [] else []

unfoldable pub missing_columns : Row → List TableFinding
missing_columns header = flat_map (missing_column header) identifier_names

-- ---- names that resemble each other

abbrev pub underscore : ℕ
underscore = 0x5f

-- an underscore before the rest of a name; it is dropped at the end, and before another one
abbrev pub underscored : Text → Text
underscored [] = []
underscored (c ∷ rest) = if c == underscore then c ∷ rest else underscore ∷ c ∷ rest

-- the letters in lower case, and one `_` for each run of other bytes that is followed by a letter
unfoldable pub spelled : Text → Text
spelled [] = []
spelled (b ∷ text) = if is_ascii_alphabetic b then to_ascii_lowercase b ∷ spelled text else underscored (spelled text)

abbrev pub without_first_underscore : Text → Text
without_first_underscore [] = []
without_first_underscore (c ∷ rest) = if c == underscore then rest else c ∷ rest

-- the letters in lower case, and one `_` for each run of other bytes between letters
abbrev pub spelling : Text → Text
spelling text = without_first_underscore (spelled text)

abbrev pub resembles : Text → Text → Bool
resembles text name = bytes_eq (spelling text) (spelling name)

-- the known name that was meant, unless another column has it
abbrev pub meant : Row → Text → Option Text
meant header text = find (λ name. is_missing header name && resembles text name) known_columns

-- ---- other columns

abbrev pub is_empty_text : Text → Bool
is_empty_text text = length text == 0

-- a column with a name that an earlier one has is ignored
abbrev pub is_ignored : Row → ℕ → Bool
is_ignored header column = not (is_empty_text (get_or header column [])) && not (is_first header column)

abbrev pub is_unknown : Row → ℕ → Bool
is_unknown header column =
    not (is_empty_text (get_or header column [])) && (is_first header column && not (list_any (bytes_eq (get_or header column [])) known_columns))

abbrev pub column_finding : Text → Option Text → TableFinding
column_finding text None = UnknownColumn text
column_finding text (Some name) = MisspelledColumn text name

abbrev pub unknown_column : Row → ℕ → List TableFinding
unknown_column header column =
    if is_unknown header column then column_finding (get_or header column []) (meant header (get_or header column [])) ∷ [] else []

unfoldable pub unknown_columns : Row → List TableFinding
unknown_columns header = flat_map (unknown_column header) (range_with_len 0 (length header))

abbrev pub ignored_column : Row → ℕ → List TableFinding
ignored_column header column = if is_ignored header column then IgnoredColumn (get_or header column []) ∷ [] else []

unfoldable pub ignored_columns : Row → List TableFinding
ignored_columns header = flat_map (ignored_column header) (range_with_len 0 (length header))
