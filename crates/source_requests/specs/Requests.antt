-- The requests for a query of any source.
use Rattle.std.specs.Prelude.{◌<◌, ◌≤◌, ◌⊎◌, Bool, ◌||◌, ◌==◌, not, nat_le, List, [], ◌∷◌, count_by, map, filter, length, codes, if◌then◌else◌}
use Rattle.std.specs.Str.{IsUtf8, bytes_eq}
use Rattle.form_urlencoded.specs.Form as form
use Rattle.text_model.specs.Texts.{Text}
use Rattle.kev_read.specs.Pairs.{KeyValue, pairs_of}
use Rattle.kev_read.specs.declared.read.TheConstants.{MAX_QUERY_BYTES}
use Rattle.source_queries.specs.Utf8.{source_query}
use Rattle.openurl_reading.specs.Reading.{ReadRequest, reading_of}

-- ---- the reading

-- a query of any source, repaired, in UTF-8, and read as OpenURL 1.0
abbrev pub reading_of_source : Text → ReadRequest
reading_of_source query = reading_of (pairs_of (source_query query))

-- no longer than a query may be, as it was sent and as it is read
abbrev pub IsShort : Text → Type 0
IsShort query = (length query ≤ MAX_QUERY_BYTES) × (length (source_query query) ≤ MAX_QUERY_BYTES)

abbrev pub IsTooLong : Text → Type 0
IsTooLong query = (MAX_QUERY_BYTES < length query) ⊎ (MAX_QUERY_BYTES < length (source_query query))

-- ---- pairs as a form

abbrev pub IsUtf8Pair : KeyValue → Type 0
IsUtf8Pair pair = IsUtf8 pair.key × IsUtf8 pair.value

abbrev pub as_texts : KeyValue → Text × Text
as_texts pair = (pair.key, pair.value)

-- as a form has them (URL Standard, section 5.2)
abbrev pub written : List KeyValue → Text
written pairs = form.extend_pairs [] (map as_texts pairs)

-- with one pair more
abbrev pub with_pair : Text → KeyValue → Text
with_pair text pair = form.append_pair text pair.key pair.value

abbrev pub fits : Text → Bool
fits text = nat_le (length text) MAX_QUERY_BYTES

-- the pairs that can be added to a form, up to the first with which it would be too long
abbrev pub fitting_after : Text → List KeyValue → List KeyValue
fitting_after text [] = []
fitting_after text (pair ∷ pairs) =
    if fits (with_pair text pair) then pair ∷ fitting_after (with_pair text pair) pairs else []

-- the pairs that fit into a query
abbrev pub fitting : List KeyValue → List KeyValue
fitting pairs = fitting_after [] pairs

-- ---- the requests

-- the keys by which the rows of a title are found
abbrev pub is_row_key : Text → Bool
is_row_key key = bytes_eq key (codes "rft.issn") || bytes_eq key (codes "rft.eissn") || bytes_eq key (codes "rft.isbn")

-- with a pair that finds rows in the place of those that do
abbrev pub led_by : KeyValue → List KeyValue → List KeyValue
led_by first pairs = first ∷ filter (λ pair. not (is_row_key pair.key)) pairs

-- tables of targets that answer every request have `ANY` in the place of an ISSN
abbrev pub any_issn : KeyValue
any_issn = record { key = codes "rft.issn"; value = codes "ANY" }

-- for these targets
abbrev pub any_pairs : List KeyValue → List KeyValue
any_pairs pairs = led_by any_issn pairs

-- without its hyphens an ISSN has eight characters (ISO 3297), and an ISBN ten or thirteen (ISO 2108)
abbrev pub has_issn_length : Text → Bool
has_issn_length number = count_by (λ b. not (b == 0x2d)) number == 8

abbrev pub number_pair : Text → KeyValue
number_pair number = record { key = if has_issn_length number then codes "rft.issn" else codes "rft.isbn"; value = number }

-- for targets that have the cited title under another number
abbrev pub further_pairs : Text → List KeyValue → List KeyValue
further_pairs number pairs = led_by (number_pair number) pairs
