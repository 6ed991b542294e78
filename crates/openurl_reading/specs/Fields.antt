-- The fields of a form for citations: one for the numbers of journals and of books, and one for identifiers.
use Rattle.std.specs.Prelude.{Bool, false, List, ◌++◌, codes}
use Rattle.std.specs.Option.{is_some, option_map_or}
use Rattle.std.specs.Str.{trim}
use Rattle.text_model.specs.Texts.{Text}
use Rattle.kev_read.specs.Pairs.{KeyValue, first_of}
use Rattle.standard_numbers.specs.Isbn.{isbns_in}
use Rattle.work_identifiers.specs.Forms.{is_number}
use Rattle.openurl_reading.specs.Numbers.{first_number}
use Rattle.openurl_reading.specs.OldKeys.{OldKey, choosing}
use Rattle.openurl_reading.specs.Steps.{Step}
use Rattle.openurl_reading.specs.Values.{searched}

-- ---- the number

abbrev pub has_isbn : Text → Bool
has_isbn value = is_some (first_number (isbns_in (searched value)))

-- an ISBN is found in the first one
abbrev pub is_of_book : List KeyValue → Bool
is_of_book pairs = option_map_or has_isbn (first_of pairs (codes "number")) false

-- `number`, and a key in its place
abbrev pub of_number : Text → OldKey
of_number key = record { old = codes "number"; new = key }

-- it is that of a book, or else that of a journal
abbrev pub number_fields : List Step
number_fields = choosing is_of_book (of_number (codes "rft.isbn")) (of_number (codes "rft.issn"))

-- ---- the identifier

-- digits, one to nine, and spaces around them
abbrev pub is_pubmed_number : Text → Bool
is_pubmed_number value = is_number 9 (trim value)

abbrev pub is_of_pubmed : List KeyValue → Bool
is_of_pubmed pairs = option_map_or is_pubmed_number (first_of pairs (codes "identifier")) false

-- `identifier`, and a key in its place
abbrev pub of_identifier : Text → OldKey
of_identifier key = record { old = codes "identifier"; new = key }

-- it is a number of PubMed, or else any other identifier
abbrev pub identifier_fields : List Step
identifier_fields = choosing is_of_pubmed (of_identifier (codes "pmid")) (of_identifier (codes "id"))

-- ---- both

abbrev pub fields : List Step
fields = number_fields ++ identifier_fields
