-- Simple Dublin Core (the format of it in the registry of OpenURL 1.0): some elements give their values to keys of other formats.
use Rattle.std.specs.Prelude.{Bool, true, false, not, ◌&&◌, ◌||◌, ◌-◌, List, [], ◌∷◌, ◌++◌, codes, drop, length, Option, Some, None, if◌then◌else◌}
use Rattle.std.specs.Option.{is_some, option_and_then, option_map_or}
use Rattle.std.specs.Str.{str_eq_ignore_ascii_case}
use Rattle.text_model.specs.Texts.{Text}
use Rattle.kev_read.specs.Pairs.{KeyValue, first_of}
use Rattle.publication_dates.specs.Dates.{date_in}
use Rattle.journal_references.specs.References.{Reference}
use Rattle.openurl_reading.specs.Citations.{unless_blank, without_date}
use Rattle.openurl_reading.specs.Dates.{date_keys, first_date}
use Rattle.openurl_reading.specs.Kinds.{has, kind_named, kind_of}
use Rattle.openurl_reading.specs.OldKeys.{OldKey, copying}
use Rattle.openurl_reading.specs.Sources.{first_journal, first_reference}
use Rattle.openurl_reading.specs.Steps.{Step}
use Rattle.openurl_reading.specs.Values.{searched, led}
use Rattle.openurl_reading.specs.Volumes.{filling}
use Rattle.openurl_reading.specs.declared.kinds.Kind.{Kind}
use Rattle.openurl_reading.specs.declared.kinds.Kind.TheVariants.{Book, Dissertation, Journal}

-- ---- which requests

-- `:dc` at the end, in small or capital letters
abbrev pub is_core_format : Text → Bool
is_core_format format = str_eq_ignore_ascii_case (drop (length format - 3) format) (codes ":dc")

-- elements that no other format has
abbrev pub has_element : List KeyValue → Bool
has_element pairs = has pairs (codes "rft.creator") || has pairs (codes "rft.source") || has pairs (codes "rft.identifier")

-- a request that names its format has this one; another one has such an element
abbrev pub is_core : List KeyValue → Bool
is_core pairs = option_map_or is_core_format (first_of pairs (codes "rft_val_fmt")) (has_element pairs)

-- ---- creator and type

abbrev pub creator : OldKey
creator = record { old = codes "rft.creator"; new = codes "rft.au" }

abbrev pub core_type : OldKey
core_type = record { old = codes "rft.type"; new = codes "rft.genre" }

-- a genre of one kind alone
abbrev pub is_genre : Text → Bool
is_genre type = is_some (kind_named type)

-- the first type is one
abbrev pub is_typed : List KeyValue → Bool
is_typed pairs = is_core pairs && option_map_or is_genre (first_of pairs (codes "rft.type")) false

-- ---- source

-- the journal of an article
abbrev pub core_journal : List KeyValue → Option Text
core_journal pairs = if is_core pairs then first_journal pairs else None

abbrev pub core_source : Step
core_source = filling (codes "rft.jtitle") core_journal

-- the reference, whose parts are for keys that have no value
abbrev pub core_reference : List KeyValue → Option Reference
core_reference pairs = if is_core pairs then first_reference pairs else None

abbrev pub core_part : (Reference → Option Text) → List KeyValue → Option Text
core_part part pairs = option_and_then unless_blank (option_and_then part (core_reference pairs))

-- a year that is read as a date
abbrev pub dated : Text → Option Text
dated year = if is_some (date_in (searched year)) then Some year else None

abbrev pub core_year : List KeyValue → Option Text
core_year pairs = option_and_then dated (core_part (λ found. found.year) pairs)

-- the year, unless the request has a date
abbrev pub year_step : Step
year_step =
    record { key = codes "rft.date"; change = λ pairs. led (without_date (first_date date_keys pairs) (core_year pairs)) (first_of pairs (codes "rft.date")) }

abbrev pub core_parts : List Step
core_parts =
    filling (codes "rft.volume") (core_part (λ found. found.volume)) ∷ filling (codes "rft.issue") (core_part (λ found. found.issue)) ∷
    filling (codes "rft.pages") (core_part (λ found. found.pages)) ∷ year_step ∷ []

-- ---- title

-- `rft.title`, and a key in its place
abbrev pub of_core_title : Text → OldKey
of_core_title key = record { old = codes "rft.title"; new = key }

-- beside the title of a journal, it is that of an article
abbrev pub is_in_journal : List KeyValue → Bool
is_in_journal pairs = is_core pairs && has pairs (codes "rft.jtitle")

abbrev pub is_book : Kind → Bool
is_book Book = true
is_book Dissertation = false
is_book Journal = false

-- without it, and in a request for a book, it is that of the book
abbrev pub is_of_core_book : List KeyValue → Bool
is_of_core_book pairs = is_core pairs && (not (has pairs (codes "rft.jtitle")) && is_book (kind_of pairs))

abbrev pub core_titles : List Step
core_titles = copying is_in_journal (of_core_title (codes "rft.atitle")) ∷ copying is_of_core_book (of_core_title (codes "rft.btitle")) ∷ []

-- ---- all

abbrev pub core_steps : List Step
core_steps = copying is_core creator ∷ copying is_typed core_type ∷ core_source ∷ core_parts ++ core_titles
