-- A request of any source, read as OpenURL 1.0.
use Rattle.std.specs.Prelude.{ℕ, Bool, List, [], ◌∷◌, ◌++◌, codes, Option, Some, None, option_map, option_and_then}
use Rattle.text_model.specs.Texts.{Text}
use Rattle.kev_read.specs.Pairs.{KeyValue}
use Rattle.publication_dates.specs.Days.{Days, first_and_last}
use Rattle.work_identifiers.specs.declared.namespace.Namespace.TheVariants.{Doi, Pmid, Oclc}
use Rattle.openurl_reading.specs.Counting.{counting, left_out}
use Rattle.openurl_reading.specs.Steps.{Step, after}
use Rattle.openurl_reading.specs.Versions.{versions}
use Rattle.openurl_reading.specs.Fields.{fields}
use Rattle.openurl_reading.specs.OldKeys.{copies}
use Rattle.openurl_reading.specs.IdentifiedNumbers.{identified_steps}
use Rattle.openurl_reading.specs.DublinCore.{core_steps}
use Rattle.openurl_reading.specs.Titles.{titlings}
use Rattle.openurl_reading.specs.Formats.{format_step}
use Rattle.openurl_reading.specs.Citations.{citing_steps}
use Rattle.openurl_reading.specs.Texts.{text_steps}
use Rattle.openurl_reading.specs.Referrers.{referrer_step}
use Rattle.openurl_reading.specs.Numbers.{issns_under, first_number, other_than, issn_step, eissn_step, isbn_step, first_isbn}
use Rattle.openurl_reading.specs.Dates.{date_step, date_under}
use Rattle.openurl_reading.specs.Identifiers.{first_under, namings}
use Rattle.openurl_reading.specs.EncodedDois.{encoded_doi}
use Rattle.openurl_reading.specs.Pages.{page_steps}
use Rattle.openurl_reading.specs.Volumes.{volume_steps}
use Rattle.openurl_reading.specs.Retractions.{is_retracted}

unfoldable pub steps : List Step
steps =
    versions ++ fields ++ copies ++ identified_steps ++ core_steps ++ titlings ++ format_step ∷ citing_steps ++ text_steps ++ referrer_step ∷
    issn_step ∷ eissn_step ∷ isbn_step ∷ date_step ∷ volume_steps ++ page_steps ++ namings

-- the pairs of OpenURL 1.0
abbrev pub normal_form : List KeyValue → List KeyValue
normal_form pairs = after steps pairs

-- ---- keys that the resolver adds for the rules of targets

abbrev pub added : Text → Option Text → List KeyValue
added key None = []
added key (Some value) = record { key = key; value = value } ∷ []

-- the ISSNs of a request, those of the online edition last
abbrev pub issns_of : List KeyValue → List Text
issns_of pairs = issns_under pairs (codes "rft.issn") ++ issns_under pairs (codes "rft.eissn")

abbrev pub second_issn : List KeyValue → Option Text
second_issn pairs = other_than (first_number (issns_of pairs)) (issns_of pairs)

-- the first and the last day of the date
abbrev pub days_of : List KeyValue → Option Days
days_of pairs = option_map first_and_last (date_under pairs (codes "rft.date"))

-- the DOI, if it has to be encoded for a proxy
abbrev pub doi_encoded : List KeyValue → Option Text
doi_encoded pairs = option_and_then encoded_doi (first_under Doi pairs (codes "rft_id"))

abbrev pub derived : List KeyValue → List KeyValue
derived pairs =
    added (codes "x.doi") (first_under Doi pairs (codes "rft_id")) ++ added (codes "x.pmid") (first_under Pmid pairs (codes "rft_id"))
    ++ added (codes "x.oclc") (first_under Oclc pairs (codes "rft_id")) ++ added (codes "x.issn") (first_number (issns_of pairs))
    ++ added (codes "x.eissn") (second_issn pairs) ++ added (codes "x.isbn") (first_isbn pairs)
    ++ added (codes "x.from") (option_map (λ days. days.first) (days_of pairs)) ++ added (codes "x.to") (option_map (λ days. days.last) (days_of pairs))
    ++ added (codes "x.doi_encoded") (doi_encoded pairs)

abbrev pub with_derived : List KeyValue → List KeyValue
with_derived pairs = derived pairs ++ pairs

-- ---- the reading

-- pairs, how many of the request were left out, and whether a title of the others has a remark of a retraction
pub record ReadRequest : Type 0 where
  pub pairs : List KeyValue
  pub left_out : ℕ
  pub is_retracted : Bool

abbrev pub reading_of : List KeyValue → ReadRequest
reading_of pairs = record {
  pairs = with_derived (normal_form (counting pairs));
  left_out = left_out pairs;
  is_retracted = is_retracted (counting pairs);
}
