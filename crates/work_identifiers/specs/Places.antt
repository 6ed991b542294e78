-- Where an identifier may begin in a text: after words, and after the address of a resolver or a page.
use Rattle.std.specs.Prelude.{◌≡◌, ℕ, ◌+◌, ◌-◌, ◌&&◌, ◌||◌, ◌==◌, not, nat_le, Bool, false, List, [], ◌∷◌, ◌++◌, codes, length, map, take, drop}
use Rattle.std.specs.Prelude.{slice_get, slice_index, Option, Some, None, if◌then◌else◌}
use Rattle.std.specs.Char.{is_ascii_alphanumeric, is_ascii_digit}
use Rattle.std.specs.List.{filter_map, flat_map, prefix_len, take_while}
use Rattle.std.specs.Str.{bytes_eq, str_eq_ignore_ascii_case}
use Rattle.text_model.specs.Texts.{Text}
use Rattle.uri_text.specs.AnyCase.{begins_in_any_case}
use Rattle.work_identifiers.specs.declared.namespace.Namespace.{Namespace}
use Rattle.work_identifiers.specs.declared.namespace.Namespace.TheVariants.{Doi, Pmid, Oclc, Pmc, Arxiv}
use Rattle.work_identifiers.specs.Ends.{from_start, to_end}
use Rattle.work_identifiers.specs.Forms.{most_bytes, is_between, is_digit_or_stop, is_number, lead_length, is_identifier}

-- ---- what may be before an identifier, in capital or small letters

abbrev pub words : Namespace → List Text
words Doi = codes "info:doi/" ∷ codes "info:doi" ∷ codes "urn:doi" ∷ codes "doi" ∷ []
words Pmid = codes "info:pmid/" ∷ codes "info:pmid" ∷ codes "pmid" ∷ codes "pubmed id" ∷ codes "pubmedid" ∷ codes "pubmed" ∷ []
words Oclc =
    codes "info:oclcnum/" ∷ codes "info:oclcnum/on" ∷ codes "info:oclcnum:on" ∷ codes "info:oclcnum" ∷ codes "oclcnum" ∷ codes "oclcnum:on" ∷ codes "oclc" ∷
    codes "oclc:on" ∷ codes "ocolc)" ∷ codes "ocolc)ocm" ∷ codes "ocolc)ocn" ∷ codes "ocolc)on" ∷ codes "ocm" ∷ codes "ocn" ∷ []
words Pmc = codes "info:pmcid/" ∷ codes "info:pmc/" ∷ codes "info:pmcid" ∷ codes "info:pmc" ∷ codes "pmcid" ∷ codes "pmc" ∷ []
words Arxiv =
    codes "info:doi/10.48550/arxiv." ∷ codes "info:arxiv/" ∷ codes "info:arxiv" ∷ codes "oai:arxiv.org:" ∷ codes "arxiv" ∷
    codes "doi:10.48550/arxiv." ∷ codes "10.48550/arxiv." ∷ []

-- what an address begins with
abbrev pub schemes : List Text
schemes = codes "https://" ∷ codes "http://" ∷ codes "//" ∷ []

-- what follows in it; a proxy may write hyphens for the full stops of a host
abbrev pub hosts : Namespace → List Text
hosts Doi =
    codes "doi.org" ∷ codes "dx.doi.org" ∷ codes "www.doi.org" ∷ codes "doi-org" ∷ codes "dx-doi-org" ∷ codes "dx.doi-org" ∷ codes "dx-doi.org" ∷
    codes "www.doi-org" ∷ codes "www-doi-org" ∷ []
hosts Pmid =
    codes "pubmed.ncbi.nlm.nih.gov/" ∷ codes "www.ncbi.nlm.nih.gov/pubmed/" ∷ codes "ncbi.nlm.nih.gov/pubmed/" ∷ codes "pubmed.gov/" ∷
    codes "www.pubmed.gov/" ∷ codes "pubmed.ncbi.nlm.nih.gov/?term=" ∷ codes "www.ncbi.nlm.nih.gov/pubmed/?term=" ∷
    codes "ncbi.nlm.nih.gov/pubmed/?term=" ∷ codes "pubmed.gov/?term=" ∷ codes "www.pubmed.gov/?term=" ∷ []
hosts Oclc = codes "worldcat.org/oclc/" ∷ codes "worldcat.org/title/" ∷ []
hosts Pmc =
    codes "pmc.ncbi.nlm.nih.gov/articles/pmc" ∷ codes "www.ncbi.nlm.nih.gov/pmc/articles/pmc" ∷ codes "ncbi.nlm.nih.gov/pmc/articles/pmc" ∷
    codes "europepmc.org/article/pmc/pmc" ∷ codes "www.europepmc.org/article/pmc/pmc" ∷ codes "europepmc.org/articles/pmc" ∷
    codes "www.europepmc.org/articles/pmc" ∷ []
hosts Arxiv =
    codes "arxiv.org/abs/" ∷ codes "arxiv.org/pdf/" ∷ codes "arxiv.org/html/" ∷ codes "www.arxiv.org/abs/" ∷ codes "www.arxiv.org/pdf/" ∷
    codes "www.arxiv.org/html/" ∷ codes "export.arxiv.org/abs/" ∷ codes "export.arxiv.org/pdf/" ∷ codes "export.arxiv.org/html/" ∷
    codes "doi.org/10.48550/arxiv." ∷ codes "dx.doi.org/10.48550/arxiv." ∷ codes "www.doi.org/10.48550/arxiv." ∷ []

-- ---- where one may begin

-- what is after the beginning of a text
abbrev pub after : Text → Text → Option Text
after text beginning = if begins_in_any_case text beginning then Some (from_start (drop (length beginning) text)) else None

-- what is after each of these beginnings that a text has
abbrev pub after_any : List Text → List Text → List Text
after_any beginnings texts = flat_map (λ text. filter_map (after text) beginnings) texts

-- after one word, or two
abbrev pub after_words : Namespace → Text → List Text
after_words namespace text =
    let once = after_any (words namespace) (text ∷ []) in
    once ++ after_any (words namespace) once

-- a letter, a digit or an underscore
abbrev pub is_word_byte : ℕ → Bool
is_word_byte b = is_ascii_alphanumeric b || b == 0x5f

-- one of these, a full stop or a hyphen
abbrev pub is_host_byte : ℕ → Bool
is_host_byte b = is_word_byte b || b == 0x2e || b == 0x2d

-- how many bytes a proxy may write after a host
abbrev pub longest_proxy : ℕ
longest_proxy = 80

-- what is after the rest of a host, such as the name of a proxy, and a slash; nothing if it is longer or none follows
abbrev pub after_host : Text → Text
after_host rest =
    let n = prefix_len is_host_byte rest in
    if nat_le n longest_proxy && (slice_index rest n == 0x2f) then from_start (drop (n + 1) rest) else []

-- none of `/?#&`, between which the parts of an address are
abbrev pub is_path_byte : ℕ → Bool
is_path_byte b = not (b == 0x2f || b == 0x3f || b == 0x23 || b == 0x26)

-- what is after a title and `/oclc/`, or else the text
abbrev pub after_title : Text → Text
after_title rest =
    let n = prefix_len is_path_byte rest in
    if begins_in_any_case (drop n rest) (codes "/oclc/") then drop (n + 6) rest else rest

-- the part of the rest of an address that would be its identifier: one of OCLC is a part of the path; the other numbers may have anything after
-- them but a letter, a digit or an underscore
abbrev pub segment : Namespace → Text → Text
segment Doi rest = after_host rest
segment Pmid rest = take_while is_word_byte rest
segment Oclc rest = take_while is_path_byte (after_title rest)
segment Pmc rest = take_while is_word_byte rest
segment Arxiv rest = rest

-- from the last 12 bytes of a host on, as many as `worldcat.org` has: libraries have sites below it
abbrev pub from_site : Text → Text
from_site text = drop (prefix_len is_host_byte text - 12) text

abbrev pub from_sites : Namespace → List Text → List Text
from_sites Doi texts = texts
from_sites Pmid texts = texts
from_sites Oclc texts = map from_site texts
from_sites Pmc texts = texts
from_sites Arxiv texts = texts

-- after an address of a resolver, with its scheme or without it
abbrev pub after_addresses : Namespace → List Text → List Text
after_addresses namespace texts = map (segment namespace) (after_any (hosts namespace) (from_sites namespace (texts ++ after_any schemes texts)))

-- after something that says which number it is
abbrev pub named_places : Namespace → Text → List Text
named_places namespace text =
    let named = after_words namespace text in
    named ++ after_addresses namespace (text ∷ named)

-- a DOI needs nothing that says so, but a number may be any other one
abbrev pub places : Namespace → Text → List Text
places Doi text = text ∷ named_places Doi text
places Pmid text = named_places Pmid text
places Oclc text = named_places Oclc text
places Pmc text = named_places Pmc text
places Arxiv text = named_places Arxiv text

-- ---- the identifier in a text

abbrev pub is_no_stop : ℕ → Bool
is_no_stop b = not (b == 0x2e)

-- one to three digits, after a full stop
abbrev pub is_version : Text → Bool
is_version [] = false
is_version (stop ∷ digits) = is_number 3 digits

-- a number without such a version
abbrev pub unversioned : Text → Text
unversioned text = let number = prefix_len is_no_stop text in if is_version (drop number text) then take number text else text

-- ---- where an identifier of arXiv ends

-- none of `?#[`, after which an address has a query or a fragment, and arXiv a subject class
abbrev pub is_no_mark : ℕ → Bool
is_no_mark b = not (b == 0x3f || b == 0x23 || b == 0x5b)

abbrev pub is_v : ℕ → Bool
is_v b = b == 0x76 || b == 0x56

-- what is after a version, which is `v` and one to three digits, or else the text
abbrev pub after_version : Text → Text
after_version [] = []
after_version (b ∷ t) =
    let digits = prefix_len is_ascii_digit t in if is_v b && is_between 1 3 digits then drop digits t else (b ∷ t)

-- nothing, a slash, or the ending of a file: a full stop may be missing, since one after a number is read with it
abbrev pub is_ending : Text → Bool
is_ending t =
    (length t == 0) || bytes_eq t (codes "/") || str_eq_ignore_ascii_case (codes "pdf") t || str_eq_ignore_ascii_case (codes ".pdf") t

-- a text after an identifier that says no more of it: a version, then such an ending, and what sources write around it
abbrev pub is_rest : Text → Bool
is_rest rest = is_ending (after_version (to_end (take_while is_no_mark rest)))

-- how many bytes the archive has, and the digits and full stops after it
abbrev pub preprint_length : Text → ℕ
preprint_length text = let lead = lead_length text in lead + prefix_len is_digit_or_stop (drop lead text)

-- those bytes, if what follows says no more: nothing if it does, as in `2101.00001 123`
abbrev pub preprint : Text → Text
preprint text = let n = preprint_length text in if is_rest (drop n text) then take n text else []

-- the part of a text that would be its identifier
abbrev pub part : Namespace → Text → Text
part Doi text = to_end text
part Pmid text = to_end text
part Oclc text = to_end text
part Pmc text = unversioned (to_end text)
part Arxiv text = to_end (preprint text)

-- the identifier with which a text begins, and that it has nothing but
abbrev pub identifier_at : Namespace → Text → Option Text
identifier_at namespace text =
    if nat_le (length text) most_bytes && is_identifier namespace (part namespace text) then Some (part namespace text) else None

-- the first identifier at these places
abbrev pub first_identifier : Namespace → List Text → Option Text
first_identifier namespace texts = slice_get (filter_map (identifier_at namespace) texts) 0

-- the identifier that a text is, with what says so
abbrev pub identifier_in : Namespace → Text → Option Text
identifier_in namespace text = first_identifier namespace (places namespace (from_start text))

-- the identifier that a text is, where something else says so
abbrev pub identifier_alone : Namespace → Text → Option Text
identifier_alone namespace text = identifier_at namespace (from_start text)

-- ---- parts

-- some bytes of a text, from one of them on
abbrev pub IsPartOf : Text → Text → Type 0
IsPartOf text part = (start count : ℕ) × (part ≡ take count (drop start text))
