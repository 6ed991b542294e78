-- The title of a request: `title` of OpenURL 0.1 is that of a book, a dissertation or a journal.
use Rattle.std.specs.Prelude.{Bool, not, ◌&&◌, List, [], ◌∷◌, map, codes}
use Rattle.std.specs.List.{list_any}
use Rattle.std.specs.Str.{bytes_eq}
use Rattle.text_model.specs.Texts.{Text}
use Rattle.kev_read.specs.Pairs.{KeyValue}
use Rattle.openurl_reading.specs.Kinds.{has, kind_of}
use Rattle.openurl_reading.specs.OldKeys.{OldKey, copied_if}
use Rattle.openurl_reading.specs.Steps.{Step}
use Rattle.openurl_reading.specs.declared.kinds.Kind.{Kind}
use Rattle.openurl_reading.specs.declared.kinds.Kind.TheVariants.{Book, Dissertation, Journal}

-- the key of the title of a kind
abbrev pub title_key : Kind → Text
title_key Book = codes "rft.btitle"
title_key Dissertation = codes "rft.title"
title_key Journal = codes "rft.jtitle"

abbrev pub title_keys : List Text
title_keys = map title_key (Book ∷ Dissertation ∷ Journal ∷ [])

abbrev pub is_titled : List KeyValue → Bool
is_titled pairs = list_any (has pairs) title_keys

-- `title`, and a key in its place
abbrev pub of_title : Text → OldKey
of_title key = record { old = codes "title"; new = key }

-- the key of the request's kind gets the title, if none of these keys has one
abbrev pub titling : Text → Step
titling key =
    record { key = key; change = λ pairs. copied_if (not (is_titled pairs) && bytes_eq key (title_key (kind_of pairs))) (of_title key) pairs }

abbrev pub titlings : List Step
titlings = map titling title_keys
