-- The identifiers of a holdings table: how many there are, and which has the most rows.
use Rattle.std.specs.Prelude.{ℕ, ◌+◌, ◌==◌, ◌&&◌, ◌||◌, Bool, not, nat_le, List, [], ◌∷◌, length, take, get_or, count_by, filter, codes, Option, None, Some}
use Rattle.std.specs.Char.{is_ascii_digit}
use Rattle.std.specs.List.{filter_map, find, flat_map, list_all, list_any}
use Rattle.std.specs.Str.{bytes_eq}
use Rattle.text_model.specs.Texts.{Text}
use Rattle.kbart_rows.specs.Cells.{Row, Holdings, defined}
use Rattle.kbart_rows.specs.Identifiers.{identifier_columns, identifiers_in}
use Rattle.table_inspection.specs.Findings.{TableFinding, RowsOfOneIdentifier}

-- ---- numbers, in normal form (ISO 3297 and ISO 2108; check digits are not computed)

abbrev pub is_check : ℕ → Bool
is_check b = is_ascii_digit b || b == 0x58

-- that many digits, followed by a digit or `X`
abbrev pub is_checked : ℕ → Text → Bool
is_checked digits id = length id == digits + 1 && (list_all is_ascii_digit (take digits id) && is_check (get_or id digits 0))

abbrev pub is_long_isbn : Text → Bool
is_long_isbn id =
    length id == 13 && (list_all is_ascii_digit id && (bytes_eq (take 3 id) (codes "978") || bytes_eq (take 3 id) (codes "979")))

-- an ISSN, an ISBN, or the identifier that stands for any title
abbrev pub is_number : Text → Bool
is_number id = is_checked 7 id || (is_checked 9 id || (is_long_isbn id || bytes_eq id (codes "ANY")))

-- ---- the identifiers of the rows

-- the identifiers of a row in normal form, without empty ones, that of the print edition first
abbrev pub row_identifiers : List (Option ℕ) → Row → List Text
row_identifiers columns cells = filter_map defined (identifiers_in columns cells)

-- the identifiers of all rows, row by row
unfoldable pub identifiers_of : List (Option ℕ) → List Row → List Text
identifiers_of columns rows = flat_map (row_identifiers columns) rows

-- each text once
unfoldable pub distinct : List Text → List Text
distinct [] = []
distinct (text ∷ texts) = text ∷ filter (λ other. not (bytes_eq other text)) (distinct texts)

-- how many rows have an identifier
unfoldable pub rows_having : List (Option ℕ) → List Row → Text → ℕ
rows_having columns rows id = count_by (λ cells. list_any (bytes_eq id) (row_identifiers columns cells)) rows

-- the first text whose number is the largest
unfoldable pub first_of_most : (Text → ℕ) → List Text → Option Text
first_of_most number texts = find (λ text. list_all (λ other. nat_le (number other) (number text)) texts) texts

abbrev pub finding_of_most : (Text → ℕ) → Option Text → List TableFinding
finding_of_most number None = []
finding_of_most number (Some id) = RowsOfOneIdentifier (number id) id ∷ []

-- the first of the identifiers that have the most rows
unfoldable pub most_rows : Holdings → List TableFinding
most_rows table =
    finding_of_most (rows_having (identifier_columns table.header) table.rows)
    (first_of_most (rows_having (identifier_columns table.header) table.rows) (identifiers_of (identifier_columns table.header) table.rows))
