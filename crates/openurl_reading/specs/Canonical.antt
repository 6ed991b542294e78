-- Requests that are OpenURL 1.0 (ANSI/NISO Z39.88-2004, and the guidelines for KEV ContextObjects).
use Rattle.std.specs.Prelude.{◌≡◌, true, false, List, [], ◌∷◌, ◌⊎◌, codes, All, Some, None}
use Rattle.text_model.specs.Texts.{Text}
use Rattle.kev_read.specs.Pairs.{KeyValue, all_of, first_of}
use Rattle.standard_numbers.specs.Issn.{IsIssn, is_doubtful}
use Rattle.standard_numbers.specs.Isbn.{IsIsbn}
use Rattle.publication_dates.specs.Forms.{IsDate}
use Rattle.work_identifiers.specs.declared.namespace.Namespace.{Namespace}
use Rattle.work_identifiers.specs.declared.numbers.StandardNumber.{StandardNumber}
use Rattle.work_identifiers.specs.Forms.{IsIdentifier}
use Rattle.work_identifiers.specs.Uris.{uri_of}
use Rattle.article_places.specs.Enumerations.{alone, short_supplement}
use Rattle.article_places.specs.Pages.{only}
use Rattle.journal_references.specs.References.{reference_in}
use Rattle.written_texts.specs.declared.readings.Role.{Role}
use Rattle.written_texts.specs.declared.readings.Role.TheVariants.{Title, Other}
use Rattle.written_texts.specs.Readings.{written}
use Rattle.openurl_reading.specs.Kinds.{has}
use Rattle.openurl_reading.specs.DublinCore.{is_core}
use Rattle.openurl_reading.specs.OldKeys.{old_keys}
use Rattle.openurl_reading.specs.Identifiers.{identifier_of, source_keys}
use Rattle.openurl_reading.specs.IdentifiedNumbers.{identified, number_key}
use Rattle.openurl_reading.specs.ArticleNumbers.{article_in}
use Rattle.openurl_reading.specs.Pages.{read_pages}
use Rattle.openurl_reading.specs.Texts.{title_texts, other_texts}
use Rattle.openurl_reading.specs.Volumes.{read_numbers}

-- no pair has the key
abbrev pub Lacks : List KeyValue → Text → Type 0
Lacks pairs key = all_of pairs key ≡ []

-- what holds of all values of a key
abbrev pub Under : List KeyValue → Text → (Text → Type 0) → Type 0
Under pairs key P = All P (all_of pairs key)

abbrev pub IsVersion : Text → Type 0
IsVersion value = value ≡ codes "Z39.88-2004"

abbrev pub IsEncoding : Text → Type 0
IsEncoding value = value ≡ codes "info:ofi/enc:UTF-8"

-- a text that is read as it is
abbrev pub IsText : Role → Text → Type 0
IsText role value = written role value ≡ value

-- no reference is after the name of a journal
abbrev pub HasNoReference : Text → Type 0
HasNoReference title = reference_in title ≡ None

-- an ISSN, and neither zeros nor a span of years
abbrev pub IsSureIssn : Text → Type 0
IsSureIssn issn = IsIssn issn × (is_doubtful issn ≡ false)

-- an identifier of the referent: the URI of an identifier of a work, or another URI, which has none of them
pub data IsReferentUri : Text → Type 0 where
  registered_uri : (namespace : Namespace) (identifier : Text) → IsIdentifier namespace identifier → IsReferentUri (uri_of namespace identifier)
  other_uri : (value : Text) → ((namespace : Namespace) → identifier_of namespace (codes "rft_id") value ≡ None) → IsReferentUri value

-- no identifier, under a key other than `rft_id`
abbrev pub HasNoIdentifier : Text → Text → Type 0
HasNoIdentifier key value = (namespace : Namespace) → identifier_of namespace key value ≡ None

-- keys of OpenURL 0.1 that have no key in their place, or one of several, and such as no format of OpenURL 1.0 has
abbrev pub other_keys : List Text
other_keys =
    codes "sid" ∷ codes "date" ∷ codes "year" ∷ codes "rft.year" ∷ codes "rft.eisbn" ∷ codes "title" ∷ codes "number" ∷
    codes "identifier" ∷ []

-- the designation of a volume or an issue: a number alone, a supplement as PubMed writes it, or something else, such as `Spring`
pub data IsDesignation : Text → Type 0 where
  is_number : (value : Text) → read_numbers value ≡ Some (alone value) → IsDesignation value
  is_supplement : (mark : Text) → read_numbers (short_supplement mark) ≡ Some (record { first = None; issue = None; supplement = Some mark })
      → IsDesignation (short_supplement mark)
  other_designation : (value : Text) → read_numbers value ≡ None → IsDesignation value

-- a page alone, or none that is found, such as `C-12` of a section
abbrev pub IsPage : Text → Type 0
IsPage value = (read_pages value ≡ Some (only value)) ⊎ (read_pages value ≡ None)

abbrev pub HasNoPage : Text → Type 0
HasNoPage value = read_pages value ≡ None

abbrev pub HasNoArticle : Text → Type 0
HasNoArticle value = article_in value ≡ None

-- the first page is under its own key, or `rft.pages` has none and `rft.artnum` no number
pub data ArePagesApart (pairs : List KeyValue) : Type 0 where
  first_page_apart : (page : Text) → first_of pairs (codes "rft.spage") ≡ Some page → read_pages page ≡ Some (only page) → ArePagesApart pairs
  no_page : Under pairs (codes "rft.pages") HasNoPage → Under pairs (codes "rft.artnum") HasNoArticle → ArePagesApart pairs

-- an ISSN or an ISBN is among the identifiers only if there is one under its own key
abbrev pub IsUnderItsKey : List KeyValue → StandardNumber → Type 0
IsUnderItsKey pairs number = (identified number pairs ≡ None) ⊎ (has pairs (number_key number) ≡ true)

pub record IsCanonical (pairs : List KeyValue) : Type 0 where
  pub context : Under pairs (codes "ctx_ver") IsVersion
  pub transport : Under pairs (codes "url_ver") IsVersion
  pub encoding : Under pairs (codes "ctx_enc") IsEncoding
  pub format : has pairs (codes "rft_val_fmt") ≡ true
  pub no_core : is_core pairs ≡ false
  pub no_old_keys : All (λ key. Lacks pairs key.old) old_keys
  pub no_other_keys : All (Lacks pairs) other_keys
  pub titles : All (λ key. Under pairs key (IsText Title)) title_texts
  pub journals : Under pairs (codes "rft.jtitle") HasNoReference
  pub other_texts : All (λ key. Under pairs key (IsText Other)) other_texts
  pub issns : Under pairs (codes "rft.issn") IsSureIssn
  pub eissns : Under pairs (codes "rft.eissn") IsSureIssn
  pub isbns : Under pairs (codes "rft.isbn") IsIsbn
  pub dates : Under pairs (codes "rft.date") IsDate
  pub volumes : Under pairs (codes "rft.volume") IsDesignation
  pub issues : Under pairs (codes "rft.issue") IsDesignation
  pub spages : Under pairs (codes "rft.spage") IsPage
  pub epages : Under pairs (codes "rft.epage") IsPage
  pub pages : ArePagesApart pairs
  pub referents : Under pairs (codes "rft_id") IsReferentUri
  pub no_other_identifiers : All (λ key. Under pairs key (HasNoIdentifier key)) source_keys
  pub identified : (number : StandardNumber) → IsUnderItsKey pairs number
