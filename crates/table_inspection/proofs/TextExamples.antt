-- Which texts are dates, numbers and web links, and which names resemble each other.
use Rattle.std.proofs.Common.{◌≡◌, ◌++◌, true, false, [], ◌∷◌, refl, codes}
use Rattle.std.specs.Prelude.{map, Some, None}
use Rattle.std.specs.List.{list_all, list_any}
use Rattle.standard_names.specs.Columns.{known_columns}
use Rattle.table_inspection.specs.Cells.{is_date, is_numbered}
use Rattle.table_inspection.specs.Columns.{spelling, meant}
use Rattle.table_inspection.proofs.OnLiterals.{on_literals}

-- ---- dates

dates : list_all is_date (codes "1995" ∷ codes "0000" ∷ codes "2009-01" ∷ codes "2009-12" ∷ codes "2009-02-31" ∷ codes "2009-10-01" ∷ []) ≡ true
unfolding on_literals
dates = refl

-- months 13 and 00, day 32 and 00, and texts that are too short or too long
no_dates : list_any is_date (codes "2009-13" ∷ codes "2009-00" ∷ codes "2009-12-32" ∷ codes "2009-12-00" ∷ codes "2009-1" ∷ codes "2009-001" ∷ codes
    "2009-1-1" ∷ codes "2009-" ∷ codes "2009-01-" ∷ codes "2009-01-1" ∷ codes "2009-01-001" ∷ codes "995" ∷ codes "19950" ∷ [])
    ≡ false
unfolding on_literals
no_dates = refl

-- other orders, other separators, spaces, letters, and digits that are not ASCII
no_dates_either : list_any is_date (codes "3/1/1995" ∷ codes "01-2009" ∷ codes "2009/01" ∷ codes "2009.01" ∷ codes "2009 01" ∷ codes "200901" ∷ codes
    " 1995" ∷ codes "1995 " ∷ codes "199x" ∷ codes "2009-0x" ∷ codes "c1995" ∷ [] ∷ (codes "199" ++ 0xd9 ∷ 0xa5 ∷ []) ∷ [])
    ≡ false
unfolding on_literals
no_dates_either = refl

-- ---- numbers

numbers : list_all is_numbered (codes "1234-5679" ∷ codes "1234-567x" ∷ codes "0-306-40615-2" ∷ codes "0 8044 2957 x" ∷ codes "978-0-306-40615-7" ∷ codes
    "9791234567896" ∷ codes "ANY" ∷ codes "any" ∷ [])
    ≡ true
unfolding on_literals
numbers = refl

-- one digit too few or too many, an `X` elsewhere, other prefixes, and other characters
no_numbers : list_any is_numbered (codes "1234-567" ∷ codes "1234-56790" ∷ codes "123X-5679" ∷ codes "0-306-4061X-2" ∷ codes "977-0-306-40615-7" ∷ codes
    "980-0-306-40615-7" ∷ codes "978-0-306-40615-X" ∷ codes "978-0-306-40615" ∷ codes "97803064061570" ∷ codes "1234.5679" ∷ codes "ISSN 1234-5679" ∷ codes
    "1234-5679; 2049-3630" ∷ codes "1234-567Y" ∷ codes "ANYY" ∷ codes "AN" ∷ codes "1.2345679E7" ∷ [])
    ≡ false
unfolding on_literals
no_numbers = refl

-- an en dash counts, and hyphens alone are not a number
no_numbers_either : list_any is_numbered ((codes "1234" ++ (0xe2 ∷ 0x80 ∷ 0x93 ∷ codes "5679")) ∷ codes "-" ∷ codes " - " ∷ []) ≡ false
unfolding on_literals
no_numbers_either = refl

-- ---- names

spellings : map spelling
    (codes "Print Identifier" ∷ codes "  print -- IDENTIFIER!" ∷ codes "_print_identifier_" ∷ codes "PrintIdentifier" ∷ codes "1" ∷ [] ∷ [])
    ≡ codes "print_identifier" ∷ codes "print_identifier" ∷ codes "print_identifier" ∷ codes "printidentifier" ∷ [] ∷ [] ∷ []
unfolding on_literals
spellings = refl

-- bytes on both sides of the letters
spellings_of_other_bytes : map spelling (codes "a@B[c`d{e" ∷ codes "az AZ" ∷ (0xef ∷ 0xbb ∷ 0xbf ∷ codes "notes") ∷ [])
    ≡ codes "a_b_c_d_e" ∷ codes "az_az" ∷ codes "notes" ∷ []
unfolding on_literals
spellings_of_other_bytes = refl

-- the standard's names do not change when they are spelled
standard_spellings : map spelling known_columns ≡ known_columns
unfolding on_literals
standard_spellings = refl

-- a name that a column has was not meant
meant_names : map (meant (codes "NOTES" ∷ codes "title_url" ∷ [])) (codes "NOTES" ∷ codes "Title URL" ∷ codes "title" ∷ codes "Coverage-Depth" ∷ [])
    ≡ Some (codes "notes") ∷ None ∷ None ∷ Some (codes "coverage_depth") ∷ []
unfolding on_literals
meant_names = refl
