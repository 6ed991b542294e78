-- Which rows have a cited title: an identifier of the row is one of the request's, both normalised.
use Rattle.std.specs.Prelude.{ℕ, ◌==◌, ◌||◌, Bool, not, List, [], ◌∷◌, map, filter, length, get_or, codes, Option, option_map, nat_le}
use Rattle.std.specs.Char.{to_ascii_uppercase}
use Rattle.std.specs.List.{list_any, filter_map, find, range_with_len}
use Rattle.std.specs.Option.{option_and_then}
use Rattle.std.specs.Str.{bytes_eq, chars, encode_utf8_all}
use Rattle.text_model.specs.Texts.{Text}
use Rattle.kev_read.specs.Pairs.{KeyValue, first_of}
use Rattle.kbart_rows.specs.Cells.{Row, Holdings, column_of, defined, cell_in}

-- ---- how identifiers are compared

-- all characters except the hyphen and the space
abbrev pub counts : ℕ → Bool
counts character = not (character == 45 || character == 32)

-- without hyphens and spaces, and in upper case
abbrev pub normalised : Text → Text
normalised text = encode_utf8_all (map to_ascii_uppercase (filter counts (chars text)))

-- ---- the identifiers of a row (NISO RP-9-2014: the ISSN or ISBN of the print and of the online edition)

abbrev pub identifier_columns : Row → List (Option ℕ)
identifier_columns header = column_of header (codes "print_identifier") ∷ column_of header (codes "online_identifier") ∷ []

abbrev pub identifier_in : Row → Option ℕ → Option Text
identifier_in cells column = option_map normalised (cell_in cells column)

-- those that are defined
abbrev pub identifiers_in : List (Option ℕ) → Row → List Text
identifiers_in columns cells = filter_map (identifier_in cells) columns

abbrev pub has_identifier : List (Option ℕ) → Text → Row → Bool
has_identifier columns id cells = list_any (bytes_eq id) (identifiers_in columns cells)

-- ---- the identifiers of a request (ANSI/NISO Z39.88-2004, the KEV formats of journals and books)

abbrev pub identifier_keys : List Text
identifier_keys = codes "rft.issn" ∷ codes "rft.eissn" ∷ codes "rft.isbn" ∷ []

-- the first value of a key, normalised; if it is then empty, it is undefined, like an empty cell
abbrev pub id_of : List KeyValue → Text → Option Text
id_of pairs key = option_and_then defined (option_map normalised (first_of pairs key))

-- those that are defined
abbrev pub ids_of : List KeyValue → List Text
ids_of pairs = filter_map (id_of pairs) identifier_keys

-- ---- the rows that match

-- an identifier of the row is one of the ids
abbrev pub is_match : List (Option ℕ) → List Text → Row → Bool
is_match columns ids cells = list_any (λ id. has_identifier columns id cells) ids

-- the numbers of the rows that match, counted from 0
abbrev pub matching_rows : Holdings → List Text → List ℕ
matching_rows table ids = filter (λ row. is_match (identifier_columns table.header) ids (get_or table.rows row [])) (range_with_len 0 (length table.rows))

-- the first of the rows at or after one
abbrev pub first_from : ℕ → List ℕ → Option ℕ
first_from from rows = find (λ row. nat_le from row) rows
