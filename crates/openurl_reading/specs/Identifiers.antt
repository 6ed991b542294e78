-- The identifiers of a request (DOIs: ISO 26324; numbers of PubMed, PubMed Central and OCLC; those of arXiv): the first of each namespace is in
-- `rft_id`, as its URI.
use Rattle.std.specs.Prelude.{Bool, false, List, [], ◌∷◌, codes, slice_get, Option, Some, None, if◌then◌else◌}
use Rattle.std.specs.List.{filter_map, list_any}
use Rattle.std.specs.Option.{option_or, is_some}
use Rattle.std.specs.Str.{bytes_eq}
use Rattle.text_model.specs.Texts.{Text}
use Rattle.kev_read.specs.Pairs.{KeyValue, all_of}
use Rattle.work_identifiers.specs.declared.namespace.Namespace.{Namespace}
use Rattle.work_identifiers.specs.declared.namespace.Namespace.TheVariants.{Doi, Pmid, Oclc, Pmc, Arxiv}
use Rattle.work_identifiers.specs.Addresses.{doi_in_address}
use Rattle.work_identifiers.specs.Mentions.{mention_in}
use Rattle.work_identifiers.specs.Places.{identifier_in, identifier_alone}
use Rattle.work_identifiers.specs.Uris.{uri_of}
use Rattle.written_texts.specs.declared.readings.Role.TheVariants.{Identifier}
use Rattle.written_texts.specs.Readings.{written}
use Rattle.openurl_reading.specs.Keys.{is_one_of}
use Rattle.openurl_reading.specs.Retractions.{sent_titles}
use Rattle.openurl_reading.specs.Steps.{Change, Step, unchanged, leading}

-- ---- the identifier in a value

-- one of these is found
abbrev pub has_one_of : List Namespace → Text → Bool
has_one_of namespaces text = list_any (λ namespace. is_some (identifier_in namespace text)) namespaces

abbrev pub all_namespaces : List Namespace
all_namespaces = Doi ∷ Pmid ∷ Oclc ∷ Pmc ∷ Arxiv ∷ []

-- a value in which an identifier is found as it is; any other one without what a layout has put into it, and decoded again
unfoldable pub as_identifier : Text → Text
as_identifier value = if has_one_of all_namespaces value then value else written Identifier value

-- under these keys a number alone is one of PubMed
abbrev pub pubmed_keys : List Text
pubmed_keys = codes "pmid" ∷ codes "rft.pmid" ∷ []

-- and under these one of PubMed Central
abbrev pub central_keys : List Text
central_keys = codes "pmcid" ∷ codes "rft.pmcid" ∷ []

-- the key says of which namespace a value is
abbrev pub names : Namespace → Text → Bool
names Doi key = false
names Pmid key = is_one_of pubmed_keys key
names Oclc key = false
names Pmc key = is_one_of central_keys key
names Arxiv key = false

-- the key is that of the page from which a reader comes, whose address may have a DOI anywhere
abbrev pub is_page : Namespace → Text → Bool
is_page Doi key = bytes_eq (codes "url") key
is_page Pmid key = false
is_page Oclc key = false
is_page Pmc key = false
is_page Arxiv key = false

-- an identifier of a text that is more than that: in the address of a page, or among the words of a title
abbrev pub within : Namespace → Text → Text → Option Text
within namespace key text =
    if is_page namespace key then doi_in_address text else (if is_one_of sent_titles key then mention_in namespace text else None)

-- or a number alone under a key that names it
abbrev pub unnamed : Namespace → Text → Text → Option Text
unnamed namespace key text = if names namespace key then identifier_alone namespace text else within namespace key text

-- the identifier in a text under a key, and that in a value
abbrev pub identifier_under : Namespace → Text → Text → Option Text
identifier_under namespace key text = option_or (identifier_in namespace text) (unnamed namespace key text)

abbrev pub identifier_of : Namespace → Text → Text → Option Text
identifier_of namespace key value = identifier_under namespace key (as_identifier value)

-- ---- the first identifier of a request

-- the keys under which sources send identifiers; that of OpenURL 1.0 comes first, then the address of a page, and titles last
abbrev pub source_keys : List Text
source_keys =
    codes "id" ∷ codes "rft.doi" ∷ codes "doi" ∷ codes "pmid" ∷ codes "rft.pmid" ∷ codes "pmcid" ∷ codes "rft.pmcid" ∷ codes "rft.identifier" ∷
    codes "url" ∷ sent_titles

abbrev pub identifier_keys : List Text
identifier_keys = codes "rft_id" ∷ source_keys

-- the first identifier under a key, in any of its values
abbrev pub first_under : Namespace → List KeyValue → Text → Option Text
first_under namespace pairs key = slice_get (filter_map (identifier_of namespace key) (all_of pairs key)) 0

abbrev pub first_identifier : Namespace → List KeyValue → Option Text
first_identifier namespace pairs = slice_get (filter_map (first_under namespace pairs) identifier_keys) 0

-- the identifier that a step names: one of arXiv only if the request has no DOI
abbrev pub nameable : Namespace → List KeyValue → Option Text
nameable Doi pairs = first_identifier Doi pairs
nameable Pmid pairs = first_identifier Pmid pairs
nameable Oclc pairs = first_identifier Oclc pairs
nameable Pmc pairs = first_identifier Pmc pairs
nameable Arxiv pairs = if is_some (first_identifier Doi pairs) then None else first_identifier Arxiv pairs

-- ---- its URI

-- the URI leads, unless it is one of the values already
abbrev pub named : Namespace → Option Text → List Text → Change
named namespace None known = unchanged
named namespace (Some identifier) known =
    if is_one_of known (uri_of namespace identifier) then unchanged else leading (uri_of namespace identifier ∷ [])

abbrev pub naming : Namespace → Step
naming namespace =
    record { key = codes "rft_id"; change = λ pairs. named namespace (nameable namespace pairs) (all_of pairs (codes "rft_id")) }

-- the last one comes first: the DOI
abbrev pub namings : List Step
namings = naming Oclc ∷ naming Pmc ∷ naming Pmid ∷ naming Arxiv ∷ naming Doi ∷ []
