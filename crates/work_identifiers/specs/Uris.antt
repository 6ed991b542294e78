-- The URIs of identifiers: those of RFC 4452, an address for a number of PubMed Central, and for arXiv the URI of its DOI.
use Rattle.std.specs.Prelude.{ℕ, ◌-◌, ◌++◌, [], codes, length, take, drop, map}
use Rattle.std.specs.Char.{to_ascii_lowercase}
use Rattle.text_model.specs.Texts.{Text}
use Rattle.work_identifiers.specs.declared.namespace.Namespace.{Namespace}
use Rattle.work_identifiers.specs.declared.namespace.Namespace.TheVariants.{Doi, Pmid, Oclc, Pmc, Arxiv}
use Rattle.work_identifiers.specs.Forms.{lead_length, name_length}

-- what the URI of an identifier begins with
abbrev pub uri_start : Namespace → Text
uri_start Doi = codes "info:doi/"
uri_start Pmid = codes "info:pmid/"
uri_start Oclc = codes "info:oclcnum/"
uri_start Pmc = codes "https://pmc.ncbi.nlm.nih.gov/articles/PMC"
uri_start Arxiv = codes "info:doi/10.48550/arXiv."

-- and what it ends with
abbrev pub uri_end : Namespace → Text
uri_end Doi = []
uri_end Pmid = []
uri_end Oclc = []
uri_end Pmc = codes "/"
uri_end Arxiv = []

-- an identifier of arXiv without its subject class: the name of the archive, and what follows from the slash on; a new one has neither
abbrev pub without_class : Text → Text
without_class n = let lead = take (lead_length n) n in take (name_length lead) lead ++ drop (length lead - 1) n

-- that, in small letters
abbrev pub canonical_arxiv : Text → Text
canonical_arxiv n = map to_ascii_lowercase (without_class n)

-- the form that an identifier has in its URI
abbrev pub canonical : Namespace → Text → Text
canonical Doi n = n
canonical Pmid n = n
canonical Oclc n = n
canonical Pmc n = n
canonical Arxiv n = canonical_arxiv n

abbrev pub uri_of : Namespace → Text → Text
uri_of namespace identifier = uri_start namespace ++ canonical namespace identifier ++ uri_end namespace

-- the namespace of these URIs: arXiv has none of its own
abbrev pub registered : Namespace → Namespace
registered Doi = Doi
registered Pmid = Pmid
registered Oclc = Oclc
registered Pmc = Pmc
registered Arxiv = Doi

-- what the DOIs of arXiv begin with
abbrev pub arxiv_start : Text
arxiv_start = codes "10.48550/arXiv."

-- the DOI that arXiv has registered
abbrev pub arxiv_doi : Text → Text
arxiv_doi identifier = arxiv_start ++ canonical_arxiv identifier

-- how many bytes a URI has at most
abbrev pub longest_uri : Namespace → ℕ
longest_uri Doi = 509
longest_uri Pmid = 19
longest_uri Oclc = 25
longest_uri Pmc = 51
longest_uri Arxiv = 49
