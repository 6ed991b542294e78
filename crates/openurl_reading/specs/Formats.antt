-- The format of a request: one that names none has that of a book, a dissertation or a journal.
use Rattle.std.specs.Prelude.{List, [], ◌∷◌, codes}
use Rattle.text_model.specs.Texts.{Text}
use Rattle.kev_read.specs.Pairs.{KeyValue, all_of}
use Rattle.openurl_reading.specs.Kinds.{kind_of}
use Rattle.openurl_reading.specs.OldKeys.{filled}
use Rattle.openurl_reading.specs.Steps.{Change, Step, unchanged}
use Rattle.openurl_reading.specs.declared.kinds.Kind.{Kind}
use Rattle.openurl_reading.specs.declared.kinds.Kind.TheVariants.{Book, Dissertation, Journal}

-- the formats, as the registry of OpenURL 1.0 names them
abbrev pub format_of : Kind → Text
format_of Book = codes "info:ofi/fmt:kev:mtx:book"
format_of Dissertation = codes "info:ofi/fmt:kev:mtx:dissertation"
format_of Journal = codes "info:ofi/fmt:kev:mtx:journal"

-- an empty request has none
abbrev pub formatted : List KeyValue → Change
formatted [] = unchanged
formatted (pair ∷ pairs) = filled (format_of (kind_of (pair ∷ pairs)) ∷ []) (all_of (pair ∷ pairs) (codes "rft_val_fmt"))

abbrev pub format_step : Step
format_step = record { key = codes "rft_val_fmt"; change = formatted }
