-- The keys of OpenURL in small letters, however a source writes them.
use Rattle.std.specs.Prelude.{Bool, ◌||◌, List, [], ◌∷◌, codes, map, if◌then◌else◌}
use Rattle.std.specs.Char.{to_ascii_lowercase}
use Rattle.std.specs.List.{list_any}
use Rattle.std.specs.Str.{bytes_eq}
use Rattle.text_model.specs.Texts.{Text}
use Rattle.kev_read.specs.Pairs.{KeyValue}

abbrev pub is_one_of : List Text → Text → Bool
is_one_of texts text = list_any (λ one. bytes_eq one text) texts

-- the keys of OpenURL 0.1, and other keys of sources and of forms that are read
abbrev pub old_names : List Text
old_names =
    codes "genre" ∷ codes "issn" ∷ codes "eissn" ∷ codes "isbn" ∷ codes "eisbn" ∷ codes "volume" ∷ codes "issue" ∷ codes "spage" ∷
    codes "epage" ∷ codes "pages" ∷ codes "artnum" ∷ codes "date" ∷ codes "year" ∷ codes "atitle" ∷ codes "jtitle" ∷ codes "btitle" ∷
    codes "stitle" ∷ codes "title" ∷ codes "au" ∷ codes "aulast" ∷ codes "aufirst" ∷ codes "auinit" ∷ codes "auinit1" ∷ codes "aucorp" ∷
    codes "part" ∷ codes "ssn" ∷ codes "quarter" ∷ codes "sici" ∷ codes "coden" ∷ codes "doi" ∷ codes "pmid" ∷ codes "pmcid" ∷
    codes "identifier" ∷ codes "id" ∷ codes "number" ∷ codes "sid" ∷ codes "pid" ∷ codes "url" ∷ []

-- the keys of a referent that are read, in OpenURL 1.0 and in Dublin Core
abbrev pub referent_keys : List Text
referent_keys =
    codes "rft.genre" ∷ codes "rft.issn" ∷ codes "rft.eissn" ∷ codes "rft.isbn" ∷ codes "rft.eisbn" ∷ codes "rft.volume" ∷
    codes "rft.issue" ∷ codes "rft.spage" ∷ codes "rft.epage" ∷ codes "rft.pages" ∷ codes "rft.artnum" ∷ codes "rft.date" ∷
    codes "rft.year" ∷ codes "rft.atitle" ∷ codes "rft.jtitle" ∷ codes "rft.btitle" ∷ codes "rft.stitle" ∷ codes "rft.title" ∷
    codes "rft.au" ∷ codes "rft.aulast" ∷ codes "rft.aufirst" ∷ codes "rft.auinit" ∷ codes "rft.auinit1" ∷ codes "rft.aucorp" ∷
    codes "rft.part" ∷ codes "rft.ssn" ∷ codes "rft.quarter" ∷ codes "rft.sici" ∷ codes "rft.coden" ∷ codes "rft.doi" ∷ codes "rft.pmid" ∷
    codes "rft.pmcid" ∷ codes "rft.identifier" ∷ codes "rft.creator" ∷ codes "rft.source" ∷ codes "rft.type" ∷ []

-- the keys of a context object that are read
abbrev pub context_keys : List Text
context_keys =
    codes "ctx_ver" ∷ codes "ctx_enc" ∷ codes "url_ver" ∷ codes "url_ctx_fmt" ∷ codes "rft_val_fmt" ∷ codes "rft_id" ∷ codes "rft_dat" ∷
    codes "rfr_id" ∷ []

-- one of all these
unfoldable pub is_known : Text → Bool
is_known key = is_one_of old_names key || is_one_of referent_keys key || is_one_of context_keys key

abbrev pub in_small_letters : Text → Text
in_small_letters text = map to_ascii_lowercase text

-- a key that is known in small letters is that one
abbrev pub key_of : Text → Text
key_of key = if is_known (in_small_letters key) then in_small_letters key else key

abbrev pub named : KeyValue → KeyValue
named pair = record { key = key_of pair.key; value = pair.value }
