-- The numbers of a request (ISSN: ISO 3297; ISBN: ISO 2108): the first of a kind leads its key.
use Rattle.std.specs.Prelude.{not, List, [], ◌∷◌, ◌++◌, drop, take, codes, slice_get, Option, Some, None}
use Rattle.std.specs.List.{find, flat_map}
use Rattle.std.specs.Str.{bytes_eq}
use Rattle.text_model.specs.Texts.{Text}
use Rattle.kev_read.specs.Pairs.{KeyValue, all_of, first_of}
use Rattle.standard_numbers.specs.Issn.{issns_in}
use Rattle.standard_numbers.specs.Isbn.{isbns_in}
use Rattle.openurl_reading.specs.Steps.{Step}
use Rattle.openurl_reading.specs.Values.{most_values, values_of, searched, led}

-- the numbers in values, in order
abbrev pub numbers_in : (Text → List Text) → List Text → List Text
numbers_in find_in values = flat_map (λ value. find_in (searched value)) values

abbrev pub issns_under : List KeyValue → Text → List Text
issns_under pairs key = numbers_in issns_in (values_of pairs key)

abbrev pub isbns_under : List KeyValue → Text → List Text
isbns_under pairs key = numbers_in isbns_in (values_of pairs key)

-- the first number, and the first that is another one
abbrev pub first_number : List Text → Option Text
first_number numbers = slice_get numbers 0

abbrev pub other_than : Option Text → List Text → Option Text
other_than None numbers = None
other_than (Some number) numbers = find (λ other. not (bytes_eq other number)) numbers

-- ---- the numbers of journals, in print and online

-- the ISSNs of a value behind its first one
abbrev pub further_issns : List KeyValue → Text → List Text
further_issns pairs key = flat_map (λ value. drop 1 (issns_in (searched value))) (values_of pairs key)

abbrev pub first_issn : List KeyValue → Option Text
first_issn pairs = first_number (issns_under pairs (codes "rft.issn"))

-- without a value of its own, the online edition has the second ISSN of a value with several
abbrev pub eissn_among : List Text → Option Text → Option Text
eissn_among [] further = further
eissn_among (value ∷ values) further = first_number (numbers_in issns_in (take most_values (value ∷ values)))

abbrev pub first_eissn : List KeyValue → Option Text
first_eissn pairs = eissn_among (all_of pairs (codes "rft.eissn")) (other_than (first_issn pairs) (further_issns pairs (codes "rft.issn")))

abbrev pub issn_step : Step
issn_step = record { key = codes "rft.issn"; change = λ pairs. led (first_issn pairs) (first_of pairs (codes "rft.issn")) }

abbrev pub eissn_step : Step
eissn_step = record { key = codes "rft.eissn"; change = λ pairs. led (first_eissn pairs) (first_of pairs (codes "rft.eissn")) }

-- ---- the number of a book, of thirteen digits

abbrev pub first_isbn : List KeyValue → Option Text
first_isbn pairs = first_number (isbns_under pairs (codes "rft.isbn") ++ isbns_under pairs (codes "rft.eisbn"))

abbrev pub isbn_step : Step
isbn_step = record { key = codes "rft.isbn"; change = λ pairs. led (first_isbn pairs) (first_of pairs (codes "rft.isbn")) }
