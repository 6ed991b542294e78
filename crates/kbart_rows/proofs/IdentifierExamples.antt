-- Which rows have a title that is cited, computed for small tables and queries.
use Rattle.std.proofs.Common.{◌≡◌, ℕ, List, [], ◌∷◌, ◌++◌, length, Some, None, refl, codes, bytes_eq}
use Rattle.std.specs.Prelude.{map, filter, not, ◌==◌}
use Rattle.std.specs.List.{range_with_len}
use Rattle.kbart_rows.specs.Hashing.{keys_of}
use Rattle.text_model.specs.Texts.{Text}
use Rattle.kev_read.specs.Pairs.{pairs_of}
use Rattle.kbart_rows.specs.Cells.{Row, Holdings}
use Rattle.kbart_rows.specs.Identifiers.{counts, normalised, identifier_columns, identifiers_in, identifier_keys, ids_of, matching_rows, first_from}
use Rattle.kbart_rows.proofs.OnLiterals.{kbart_rows_on_literals}

-- ---- how identifiers are compared

only_space_and_hyphen_do_not_count : filter (λ c. not (counts c)) (range_with_len 0 256) ≡ codes " -"
only_space_and_hyphen_do_not_count = refl

only_space_and_hyphen_are_dropped : filter (λ b. length (normalised (b ∷ [])) == 0) (range_with_len 0 128) ≡ codes " -"
unfolding kbart_rows_on_literals
only_space_and_hyphen_are_dropped = refl

-- spaces and hyphens are dropped, and letters are changed to upper case
changed_characters : filter (λ b. not (bytes_eq (normalised (b ∷ [])) (b ∷ []))) (range_with_len 0 128) ≡ codes " -abcdefghijklmnopqrstuvwxyz"
unfolding kbart_rows_on_literals
changed_characters = refl

letters_are_raised : normalised (codes "abcdefghijklmnopqrstuvwxyz") ≡ codes "ABCDEFGHIJKLMNOPQRSTUVWXYZ"
unfolding kbart_rows_on_literals
letters_are_raised = refl

written_identifiers : map normalised (codes "0028-0836" ∷ codes " 00 28-08 36 " ∷ codes "1234-567x" ∷ codes "978-0-306-40615-7" ∷ codes "--" ∷ [] ∷ [])
    ≡ codes "00280836" ∷ codes "00280836" ∷ codes "1234567X" ∷ codes "9780306406157" ∷ [] ∷ [] ∷ []
unfolding kbart_rows_on_literals
written_identifiers = refl

-- EN DASH, NON-BREAKING HYPHEN, SOFT HYPHEN, NO-BREAK SPACE and é
abbrev other_characters : List Text
other_characters = (0xE2 ∷ 0x80 ∷ 0x93 ∷ []) ∷ (0xE2 ∷ 0x80 ∷ 0x91 ∷ []) ∷ (0xC2 ∷ 0xAD ∷ []) ∷ (0xC2 ∷ 0xA0 ∷ []) ∷ (0xC3 ∷ 0xA9 ∷ []) ∷ []

other_characters_stay : map normalised other_characters ≡ other_characters
unfolding kbart_rows_on_literals
other_characters_stay = refl

-- ---- columns and keys

columns_of_identifiers : identifier_columns (codes "title_id" ∷ codes "online_identifier" ∷ codes "print_identifier" ∷ codes "online_identifier" ∷ [])
    ≡ Some 2 ∷ Some 1 ∷ []
columns_of_identifiers = refl

no_columns_of_identifiers : identifier_columns (codes "title_id" ∷ codes "Print_identifier" ∷ []) ≡ None ∷ None ∷ []
no_columns_of_identifiers = refl

keys_of_identifiers : identifier_keys ≡ codes "rft.issn" ∷ codes "rft.eissn" ∷ codes "rft.isbn" ∷ []
keys_of_identifiers = refl

-- an empty or missing cell has no identifier; a cell of hyphens has an empty one, which no request has
identifiers_of_rows : map (identifiers_in (Some 0 ∷ Some 2 ∷ None ∷ []))
    ((codes "0028-0836" ∷ codes "x" ∷ codes "1234-567x" ∷ []) ∷ ([] ∷ codes "x" ∷ []) ∷ (codes "-" ∷ []) ∷ [])
    ≡ (codes "00280836" ∷ codes "1234567X" ∷ []) ∷ [] ∷ ([] ∷ []) ∷ []
unfolding kbart_rows_on_literals
identifiers_of_rows = refl

-- ---- the identifiers of a request

abbrev ids_in : Text → List Text
ids_in query = ids_of (pairs_of query)

ids_come_in_the_order_of_the_keys : ids_in (codes "rft.isbn=3&rft.eissn=2-x&a=0&rft.issn=1") ≡ codes "1" ∷ codes "2X" ∷ codes "3" ∷ []
unfolding kbart_rows_on_literals
ids_come_in_the_order_of_the_keys = refl

first_value_counts : map ids_in (codes "rft.issn=&rft.issn=0028-0836" ∷ codes "rft.issn=0028-0836&rft.issn=1" ∷ codes "rft.issn=-+-&rft.issn=1" ∷ [])
    ≡ [] ∷ (codes "00280836" ∷ []) ∷ [] ∷ []
unfolding kbart_rows_on_literals
first_value_counts = refl

abbrev with_value : Text → Text
with_value key = key ++ codes "=0028-0836"

other_keys_ask_for_nothing : map (λ key. ids_in (with_value key)) (codes "rft.eisbn" ∷ codes "RFT.ISSN" ∷ codes "issn" ∷ codes "eissn" ∷ codes "isbn" ∷ codes
    "rft_id" ∷ codes "rft.title_id" ∷ codes "rft.issn+" ∷ codes "print_identifier" ∷ [])
    ≡ [] ∷ [] ∷ [] ∷ [] ∷ [] ∷ [] ∷ [] ∷ [] ∷ [] ∷ []
unfolding kbart_rows_on_literals
other_keys_ask_for_nothing = refl

-- ---- the rows that match

abbrev table : Row → List Row → Holdings
table header rows = record { header = header; rows = rows; keys = keys_of 0 0 }

-- the rows of a table with one row, under one column, that a query finds
abbrev found_in : Text → Text → Text → List ℕ
found_in column cell query = matching_rows (table (column ∷ []) ((cell ∷ []) ∷ [])) (ids_in query)

each_key_matches_either_column : map
    (λ key. map (λ column. found_in column (codes "0028-0836") (with_value key)) (codes "print_identifier" ∷ codes "online_identifier" ∷ []))
    (codes "rft.issn" ∷ codes "rft.eissn" ∷ codes "rft.isbn" ∷ [])
    ≡ ((0 ∷ []) ∷ (0 ∷ []) ∷ []) ∷ ((0 ∷ []) ∷ (0 ∷ []) ∷ []) ∷ ((0 ∷ []) ∷ (0 ∷ []) ∷ []) ∷ []
unfolding kbart_rows_on_literals
each_key_matches_either_column = refl

other_columns_do_not_identify : map (λ column. found_in column (codes "0028-0836") (codes "rft.issn=0028-0836&title_id=0028-0836"))
    (codes "title_id" ∷ codes "Print_Identifier" ∷ codes "print_identifier " ∷ codes "issn" ∷ codes "rft.issn" ∷ codes "parent_publication_title_id" ∷ [] ∷ [])
    ≡ [] ∷ [] ∷ [] ∷ [] ∷ [] ∷ [] ∷ [] ∷ []
unfolding kbart_rows_on_literals
other_columns_do_not_identify = refl

-- a full stop and EN DASH count
values_that_find_the_row : map (λ value. found_in (codes "print_identifier") (codes "0028-0836") (codes "rft.issn=" ++ value))
    (codes "00280836" ∷ codes "+0028+0836+" ∷ codes "0028-0836" ∷ codes "0028.0836" ∷ codes "0028%E2%80%930836" ∷ codes "0028-083" ∷ codes
    "00028-0836" ∷ [] ∷ [])
    ≡ (0 ∷ []) ∷ (0 ∷ []) ∷ (0 ∷ []) ∷ [] ∷ [] ∷ [] ∷ [] ∷ [] ∷ []
unfolding kbart_rows_on_literals
values_that_find_the_row = refl

empty_identifiers_find_nothing : map (found_in (codes "print_identifier") (codes "-")) (codes "rft.issn=-" ∷ codes "rft.issn=" ∷ [] ∷ []) ≡ [] ∷ [] ∷ [] ∷ []
unfolding kbart_rows_on_literals
empty_identifiers_find_nothing = refl

-- the first columns of the two names are the second and the third
abbrev titles : Holdings
titles = table (codes "title_id" ∷ codes "online_identifier" ∷ codes "print_identifier" ∷ codes "print_identifier" ∷ [])
    ((codes "7" ∷ codes "1234-567x" ∷ codes "0028-0836" ∷ []) ∷ (codes "8" ∷ [] ∷ [] ∷ codes "0028-0836" ∷ []) ∷ (codes "00280836" ∷ codes
    "0028-0836" ∷ []) ∷ (codes "9" ∷ []) ∷ [])

-- a row that has two of the identifiers is found once
rows_in_rising_order : map (λ query. matching_rows titles (ids_in query))
    (codes "rft.issn=00280836" ∷ codes "rft.issn=00280836&rft.eissn=1234567X" ∷ codes "rft.isbn=1234567X" ∷ codes "rft.issn=9" ∷ codes "a=00280836" ∷ [])
    ≡ (0 ∷ 2 ∷ []) ∷ (0 ∷ 2 ∷ []) ∷ (0 ∷ []) ∷ [] ∷ [] ∷ []
unfolding kbart_rows_on_literals
rows_in_rising_order = refl

first_row_at_or_after : map (λ from. first_from from (1 ∷ 4 ∷ [])) (range_with_len 0 6) ≡ Some 1 ∷ Some 1 ∷ Some 4 ∷ Some 4 ∷ Some 4 ∷ None ∷ []
first_row_at_or_after = refl
