-- The keys of requests.
use Rattle.std.specs.Prelude.{List, [], ◌∷◌, ◌++◌, codes}
use Rattle.text_model.specs.Texts.{Text}

-- the keys of the context object, of its entities and of the transport (ANSI/NISO Z39.88-2004)
abbrev pub context_keys : List Text
context_keys =
    codes "ctx_ver" ∷ codes "ctx_enc" ∷ codes "ctx_id" ∷ codes "ctx_tim" ∷ codes "url_ver" ∷ codes "url_ctx_fmt" ∷ codes "url_tim" ∷
    codes "rft_val_fmt" ∷ codes "rft_dat" ∷ codes "rft_ref" ∷ codes "rft_ref_fmt" ∷ codes "rfe_id" ∷ codes "rfe_val_fmt" ∷ codes "rfe_dat" ∷
    codes "req_id" ∷ codes "req_val_fmt" ∷ codes "req_dat" ∷ codes "rfr_id" ∷ codes "rfr_val_fmt" ∷ codes "rfr_dat" ∷ codes "svc_id" ∷
    codes "svc_val_fmt" ∷ codes "svc_dat" ∷ codes "res_id" ∷ codes "res_val_fmt" ∷ codes "res_dat" ∷ []

-- the keys of the metadata formats for journals, books and dissertations; `rft.eisbn` is in no format, but sources send it
abbrev pub metadata_keys : List Text
metadata_keys =
    codes "rft.genre" ∷ codes "rft.atitle" ∷ codes "rft.jtitle" ∷ codes "rft.stitle" ∷ codes "rft.title" ∷ codes "rft.btitle" ∷ codes "rft.date" ∷
    codes "rft.chron" ∷ codes "rft.ssn" ∷ codes "rft.quarter" ∷ codes "rft.volume" ∷ codes "rft.part" ∷ codes "rft.issue" ∷ codes "rft.spage" ∷
    codes "rft.epage" ∷ codes "rft.pages" ∷ codes "rft.artnum" ∷ codes "rft.issn" ∷ codes "rft.eissn" ∷ codes "rft.isbn" ∷ codes "rft.eisbn" ∷
    codes "rft.coden" ∷ codes "rft.sici" ∷ codes "rft.bici" ∷ codes "rft.aulast" ∷ codes "rft.aufirst" ∷ codes "rft.auinit" ∷ codes "rft.auinit1" ∷
    codes "rft.auinitm" ∷ codes "rft.ausuffix" ∷ codes "rft.aucorp" ∷ codes "rft.place" ∷ codes "rft.pub" ∷ codes "rft.edition" ∷
    codes "rft.tpages" ∷ codes "rft.series" ∷ codes "rft.co" ∷ codes "rft.cc" ∷ codes "rft.inst" ∷ codes "rft.advisor" ∷ codes "rft.degree" ∷ []

-- the keys that the front door sets; no format has them
abbrev pub front_door_keys : List Text
front_door_keys =
    codes "x.doi" ∷ codes "x.pmid" ∷ codes "x.oclc" ∷ codes "x.issn" ∷ codes "x.eissn" ∷ codes "x.isbn" ∷ codes "x.from" ∷ codes "x.to" ∷ []

abbrev pub request_keys : List Text
request_keys = context_keys ++ metadata_keys ++ front_door_keys
