-- Requests of one key.
use Rattle.std.specs.Prelude.{List, [], ◌∷◌, codes}
use Rattle.text_model.specs.Texts.{Text}
use Rattle.kev_read.specs.Pairs.{KeyValue}

-- `rft.issn=ID`
abbrev pub by_issn : Text → List KeyValue
by_issn id = record { key = codes "rft.issn"; value = id } ∷ []
