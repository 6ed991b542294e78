-- Where the values of a reading come from.
use Rattle.std.specs.Prelude.{◌≡◌, ◌⊎◌, List, [], ◌∷◌, ◌++◌, Option, Some, None, map, Contains}
use Rattle.std.specs.List.{filter_map, flat_map}
use Rattle.text_model.specs.Texts.{Text}
use Rattle.kev_read.specs.Pairs.{KeyValue}
use Rattle.standard_numbers.specs.Issn.{issns_in}
use Rattle.standard_numbers.specs.Isbn.{isbns_in}
use Rattle.publication_dates.specs.Dates.{date_in}
use Rattle.publication_dates.specs.Days.{first_day, last_day}
use Rattle.journal_references.specs.References.{Reference}
use Rattle.article_places.specs.Enumerations.{Numbers, short_supplement}
use Rattle.work_identifiers.specs.declared.namespace.Namespace.{Namespace}
use Rattle.work_identifiers.specs.declared.namespace.Namespace.TheVariants.{Arxiv}
use Rattle.work_identifiers.specs.Uris.{uri_of, arxiv_doi}
use Rattle.written_texts.specs.declared.readings.Role.{Role}
use Rattle.written_texts.specs.declared.readings.Role.TheVariants.{Title, Other}
use Rattle.written_texts.specs.Readings.{written}
use Rattle.openurl_reading.specs.ArticleNumbers.{article_in}
use Rattle.openurl_reading.specs.Citations.{in_title, cited_in}
use Rattle.openurl_reading.specs.EncodedDois.{encoded_doi}
use Rattle.openurl_reading.specs.Identifiers.{identifier_of}
use Rattle.openurl_reading.specs.Pages.{first_in, last_in}
use Rattle.openurl_reading.specs.Sources.{journal_in}
use Rattle.openurl_reading.specs.Values.{searched}
use Rattle.openurl_reading.specs.Versions.{version, encoding}
use Rattle.openurl_reading.specs.Volumes.{read_numbers}
use Rattle.openurl_reading.specs.declared.kinds.Kind.{Kind}
use Rattle.openurl_reading.specs.Formats.{format_of}
use Rattle.openurl_reading.specs.Referrers.{referrer_of}

abbrev pub all_values : List KeyValue → List Text
all_values pairs = map (λ pair. pair.value) pairs

abbrev pub listed : Option Text → List Text
listed None = []
listed (Some text) = text ∷ []

-- the name of a journal, and what is after it
abbrev pub parts_of : Option Reference → List Text
parts_of None = []
parts_of (Some found) = found.name ∷ listed found.volume ++ listed found.issue ++ listed found.pages ++ listed found.year

-- the values of a request, and the names and the parts of references in those that are sources of Dublin Core
abbrev pub sourced_values : List KeyValue → List Text
sourced_values pairs =
    all_values pairs ++ filter_map journal_in (all_values pairs) ++ flat_map (λ value. parts_of (in_title value)) (all_values pairs)

-- these, and the parts of the references in them
abbrev pub read_values : List KeyValue → List Text
read_values pairs = sourced_values pairs ++ flat_map (λ value. parts_of (cited_in value)) (sourced_values pairs)

-- the first number, or that of the issue
abbrev pub IsNumberOf : Numbers → Text → Type 0
IsNumberOf n number = (n.first ≡ Some number) ⊎ (n.issue ≡ Some number)

-- a value of the request, or what is read of one as a title
pub data IsTextOf (sent : List Text) : Text → Type 0 where
  as_sent : (value : Text) → Contains sent value → IsTextOf sent value
  as_title : (value : Text) → Contains sent value → IsTextOf sent (written Title value)

-- a value of the request, the version, the encoding, one of the three formats, or what is read in one value of the request
pub data HasOrigin (sent : List Text) : Text → Type 0 where
  from_request : (value : Text) → Contains sent value → HasOrigin sent value
  version_of_openurl : HasOrigin sent version
  encoding_of_readings : HasOrigin sent encoding
  format_of_kind : (kind : Kind) → HasOrigin sent (format_of kind)
  text_in : (role : Role) (value : Text) → Contains sent value → HasOrigin sent (written role value)
  source_in : (value : Text) → Contains sent value → HasOrigin sent (referrer_of value)
  issn_in : (value issn : Text) → Contains sent value → Contains (issns_in (searched value)) issn → HasOrigin sent issn
  isbn_in : (value isbn : Text) → Contains sent value → Contains (isbns_in (searched value)) isbn → HasOrigin sent isbn
  date_of : (value date : Text) → Contains sent value → date_in (searched value) ≡ Some date → HasOrigin sent date
  first_day_of : (value date : Text) → Contains sent value → date_in (searched value) ≡ Some date → HasOrigin sent (first_day date)
  last_day_of : (value date : Text) → Contains sent value → date_in (searched value) ≡ Some date → HasOrigin sent (last_day date)
  number_in : (value number : Text) (n : Numbers) → Contains sent value → read_numbers value ≡ Some n → IsNumberOf n number → HasOrigin sent number
  supplement_in : (value mark : Text) (n : Numbers) → Contains sent value → read_numbers value ≡ Some n → n.supplement ≡ Some mark
      → HasOrigin sent (short_supplement mark)
  supplement_of_issue : (value number mark : Text) (n : Numbers) → Contains sent value → read_numbers value ≡ Some n → IsNumberOf n number
      → n.supplement ≡ Some mark → HasOrigin sent (number ++ 0x20 ∷ short_supplement mark)
  page_in : (value page : Text) → Contains sent value → first_in value ≡ Some page → HasOrigin sent page
  page_in_text : (value page : Text) → Contains sent value → first_in (written Other value) ≡ Some page → HasOrigin sent page
  last_page_in : (value page : Text) → Contains sent value → last_in value ≡ Some page → HasOrigin sent page
  article_number_in : (value number : Text) → Contains sent value → article_in value ≡ Some number → HasOrigin sent number
  identifier_in_value : (namespace : Namespace) (key text identifier : Text) → IsTextOf sent text
      → identifier_of namespace key text ≡ Some identifier → HasOrigin sent identifier
  uri_of_identifier : (namespace : Namespace) (key text identifier : Text) → IsTextOf sent text
      → identifier_of namespace key text ≡ Some identifier → HasOrigin sent (uri_of namespace identifier)
  doi_of_preprint : (key text identifier : Text) → IsTextOf sent text → identifier_of Arxiv key text ≡ Some identifier
      → HasOrigin sent (arxiv_doi identifier)
  encoding_of_doi : (doi encoded : Text) → HasOrigin sent doi → encoded_doi doi ≡ Some encoded → HasOrigin sent encoded
