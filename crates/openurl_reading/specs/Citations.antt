-- A reference to an article after the name of its journal, in a title of a journal, as in `Annals of Tidal Studies, 12(3), 45-67`: its parts go
-- to the keys that have no value, and the name leads.
use Rattle.std.specs.Prelude.{ℕ, Bool, ◌&&◌, ◌||◌, nat_le, List, [], ◌∷◌, codes, Option, Some, None, is_none, if◌then◌else◌}
use Rattle.std.specs.Char.{is_ascii_alphabetic}
use Rattle.std.specs.List.{list_any}
use Rattle.std.specs.Option.{option_and_then, option_map}
use Rattle.text_model.specs.Texts.{Text}
use Rattle.kev_read.specs.Pairs.{KeyValue, first_of}
use Rattle.journal_references.specs.References.{Reference, reference_in}
use Rattle.written_texts.specs.declared.readings.Role.TheVariants.{Title}
use Rattle.written_texts.specs.Readings.{written}
use Rattle.openurl_reading.specs.Counting.{is_blank}
use Rattle.openurl_reading.specs.Dates.{date_keys, first_date}
use Rattle.openurl_reading.specs.Steps.{Step}
use Rattle.openurl_reading.specs.Values.{led}
use Rattle.openurl_reading.specs.Volumes.{filling}

-- ---- the reference

-- a letter of ASCII, or a byte of another character
abbrev pub is_letter : ℕ → Bool
is_letter b = is_ascii_alphabetic b || nat_le 0x80 b

-- the reference in the text of a title
abbrev pub in_title : Text → Option Reference
in_title title = reference_in (written Title title)

-- with a letter, and without a reference of its own
abbrev pub is_name : Text → Bool
is_name name = list_any is_letter name && is_none (in_title name)

-- a reference counts if it is after a name
abbrev pub after_name : Reference → Option Reference
after_name found = if is_name found.name then Some found else None

abbrev pub cited_in : Text → Option Reference
cited_in title = option_and_then after_name (in_title title)

-- that in the first title of a journal
abbrev pub citation : List KeyValue → Option Reference
citation pairs = option_and_then cited_in (first_of pairs (codes "rft.jtitle"))

-- ---- its parts

abbrev pub unless_blank : Text → Option Text
unless_blank part = if is_blank part then None else Some part

abbrev pub cited : (Reference → Option Text) → List KeyValue → Option Text
cited part pairs = option_and_then unless_blank (option_and_then part (citation pairs))

-- a part is for a key that has no value
abbrev pub citing : Text → (Reference → Option Text) → Step
citing key part = filling key (cited part)

-- the year, unless the request has a date
abbrev pub without_date : Option Text → Option Text → Option Text
without_date None year = year
without_date (Some date) year = None

abbrev pub citing_year : Step
citing_year =
    record {
      key = codes "rft.date";
      change = λ pairs. led (without_date (first_date date_keys pairs) (cited (λ found. found.year) pairs)) (first_of pairs (codes "rft.date"));
    }

abbrev pub citing_name : Step
citing_name =
    record {
      key = codes "rft.jtitle";
      change = λ pairs. led (option_map (λ found. found.name) (citation pairs)) (first_of pairs (codes "rft.jtitle"));
    }

-- the name comes last, since the others are read before it leads
abbrev pub citing_steps : List Step
citing_steps =
    citing (codes "rft.volume") (λ found. found.volume) ∷ citing (codes "rft.issue") (λ found. found.issue) ∷
    citing (codes "rft.pages") (λ found. found.pages) ∷ citing_year ∷ citing_name ∷ []
