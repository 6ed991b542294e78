-- The ISSN and the ISBN of a request among its identifiers, as in `rft_id=urn:ISSN:2901-0012`, and the ISSN in a source of Dublin Core: the first of
-- each leads its key, if no such number is found there.
use Rattle.std.specs.Prelude.{ℕ, ◌==◌, Bool, false, not, ◌&&◌, ◌||◌, List, [], ◌∷◌, ◌++◌, codes, filter, Option, if◌then◌else◌}
use Rattle.std.specs.List.{flat_map}
use Rattle.std.specs.Option.{is_some}
use Rattle.std.specs.Str.{bytes_eq}
use Rattle.text_model.specs.Texts.{Text}
use Rattle.uri_text.specs.AnyCase.{begins_in_any_case}
use Rattle.kev_read.specs.Pairs.{KeyValue, all_of, first_of}
use Rattle.standard_numbers.specs.Issn.{issns_in}
use Rattle.standard_numbers.specs.Isbn.{isbns_in}
use Rattle.work_identifiers.specs.declared.numbers.StandardNumber.{StandardNumber}
use Rattle.work_identifiers.specs.declared.numbers.StandardNumber.TheVariants.{Issn, Isbn}
use Rattle.work_identifiers.specs.StandardNumbers.{is_number_alone, is_number_named}
use Rattle.openurl_reading.specs.DublinCore.{is_core}
use Rattle.openurl_reading.specs.Identifiers.{as_identifier}
use Rattle.openurl_reading.specs.Numbers.{numbers_in, first_number}
use Rattle.openurl_reading.specs.Steps.{Change, Step, unchanged}
use Rattle.openurl_reading.specs.Values.{values_of, searched, led}

-- the numbers of a kind in a text
abbrev pub find_in : StandardNumber → Text → List Text
find_in Issn text = issns_in text
find_in Isbn text = isbns_in text

-- ---- identifiers

-- the keys under which sources send identifiers, without the address of a page and titles
abbrev pub identifying_keys : List Text
identifying_keys =
    codes "rft_id" ∷ codes "id" ∷ codes "rft.doi" ∷ codes "doi" ∷ codes "pmid" ∷ codes "rft.pmid" ∷ codes "pmcid" ∷ codes "rft.pmcid" ∷
    codes "rft.identifier" ∷ []

-- a number after a word that says which one it is, and under the key of Dublin Core a number alone
abbrev pub is_number_under : StandardNumber → Text → Text → Bool
is_number_under number key text = is_number_named number text || (bytes_eq (codes "rft.identifier") key && is_number_alone number text)

abbrev pub is_no_hyphen : ℕ → Bool
is_no_hyphen b = not (b == 0x2d)

-- it is found without hyphens, too: after a hyphen, the last ten of 13 digits that are no ISBN may be one
abbrev pub is_whole : StandardNumber → Text → Bool
is_whole number text = is_some (first_number (find_in number (filter is_no_hyphen text)))

abbrev pub whole_numbers : StandardNumber → Text → List Text
whole_numbers number value = if is_whole number (searched value) then find_in number (searched value) else []

-- the number in a value of a key that is such an identifier
abbrev pub numbers_at : StandardNumber → Text → Text → List Text
numbers_at number key value = if is_number_under number key (as_identifier value) then whole_numbers number value else []

abbrev pub numbers_under : StandardNumber → List KeyValue → Text → List Text
numbers_under number pairs key = flat_map (numbers_at number key) (all_of pairs key)

abbrev pub among_identifiers : StandardNumber → List KeyValue → List Text
among_identifiers number pairs = flat_map (numbers_under number pairs) identifying_keys

-- ---- sources of Dublin Core

-- the letters are in the text, each in either case
abbrev pub says : Text → Text → Bool
says letters [] = false
says letters (b ∷ t) = begins_in_any_case (b ∷ t) letters || says letters t

-- a source is an ISSN, or says that it has one: four digits, a hyphen and four digits may be pages of an article, too
abbrev pub has_issn : Text → Bool
has_issn source = is_number_alone Issn (as_identifier source) || says (codes "issn") (searched source)

abbrev pub issns_of_source : Text → List Text
issns_of_source source = if has_issn source then issns_in (searched source) else []

abbrev pub among_sources : StandardNumber → List KeyValue → List Text
among_sources Issn pairs = if is_core pairs then flat_map issns_of_source (values_of pairs (codes "rft.source")) else []
among_sources Isbn pairs = []

-- ---- the steps

abbrev pub identified : StandardNumber → List KeyValue → Option Text
identified number pairs = first_number (among_identifiers number pairs ++ among_sources number pairs)

abbrev pub number_key : StandardNumber → Text
number_key Issn = codes "rft.issn"
number_key Isbn = codes "rft.isbn"

-- the keys of a number of the work itself
abbrev pub own_keys : StandardNumber → List Text
own_keys Issn = codes "rft.issn" ∷ []
own_keys Isbn = codes "rft.isbn" ∷ codes "rft.eisbn" ∷ []

abbrev pub own_numbers : StandardNumber → List KeyValue → List Text
own_numbers number pairs = flat_map (λ key. numbers_in (find_in number) (all_of pairs key)) (own_keys number)

-- what was found leads, if there is nothing else
abbrev pub led_alone : List Text → Option Text → Option Text → Change
led_alone [] found first = led found first
led_alone (number ∷ numbers) found first = unchanged

abbrev pub identified_step : StandardNumber → Step
identified_step number =
    record {
      key = number_key number;
      change = λ pairs. led_alone (own_numbers number pairs) (identified number pairs) (first_of pairs (number_key number));
    }

abbrev pub identified_steps : List Step
identified_steps = identified_step Issn ∷ identified_step Isbn ∷ []
