-- The sources of a request in simple Dublin Core: the journal of an article, often with volume, issue and pages after its name.
use Rattle.std.specs.Prelude.{ℕ, zero, suc, Bool, false, not, ◌&&◌, ◌||◌, ◌+◌, ◌==◌, nat_le, count_by}
use Rattle.std.specs.Prelude.{List, [], ◌∷◌, length, take, drop, slice_get, slice_index, codes, Option, Some, None, if◌then◌else◌}
use Rattle.std.specs.Char.{is_ascii_digit}
use Rattle.std.specs.List.{list_any, filter_map, prefix_len}
use Rattle.text_model.specs.Texts.{Text}
use Rattle.kev_read.specs.Pairs.{KeyValue, all_of}
use Rattle.uri_text.specs.AnyCase.{begins_in_any_case}
use Rattle.journal_references.specs.References.{Reference}
use Rattle.openurl_reading.specs.Citations.{is_letter, in_title}

-- how many sources are read, and how many bytes one has that is searched for a reference or for the end of a name
abbrev pub most_sources : ℕ
most_sources = 3

abbrev pub longest_source : ℕ
longest_source = 250

abbrev pub sources : List KeyValue → List Text
sources pairs = take most_sources (all_of pairs (codes "rft.source"))

-- ---- which may be the name of a journal

-- what texts begin with that are no names: addresses, numbers, identifiers, volumes and issues
abbrev pub no_names : List Text
no_names =
    codes "http:" ∷ codes "https:" ∷ codes "issn" ∷ codes "isbn" ∷ codes "arxiv:" ∷ codes "doi:" ∷ codes "doi " ∷ codes "doi.org/" ∷
    codes "dx.doi.org/" ∷ codes "10." ∷ codes "info:" ∷ codes "urn:" ∷ codes "pmid" ∷ codes "pmcid" ∷ codes "pmc:" ∷ codes "hdl:" ∷
    codes "oai:" ∷ codes "vol." ∷ codes "vol " ∷ codes "no." ∷ []

-- a text with two letters, and none of these
abbrev pub is_journal : Text → Bool
is_journal source = nat_le 2 (count_by is_letter source) && not (list_any (begins_in_any_case source) no_names)

-- ---- the end of a name

-- one of `;([`
abbrev pub is_sign : ℕ → Bool
is_sign b = b == 0x3b || b == 0x28 || b == 0x5b

-- a comma or a space
abbrev pub is_gap : ℕ → Bool
is_gap b = b == 0x2c || b == 0x20

-- words of a volume or an ISSN, and such as are words of a volume or an issue only before a number: `N. American Tides` is a name
abbrev pub place_words : List Text
place_words = codes "vol." ∷ codes "vol " ∷ codes "volume " ∷ codes "issn " ∷ codes "issn:" ∷ []

abbrev pub number_words : List Text
number_words = codes "v." ∷ codes "no." ∷ codes "n." ∷ []

-- a digit, after spaces
abbrev pub begins_with_number : Text → Bool
begins_with_number text = is_ascii_digit (slice_index text (prefix_len (λ b. b == 0x20) text))

abbrev pub is_before_number : Text → Text → Bool
is_before_number text word = begins_in_any_case text word && begins_with_number (drop (length word) text)

-- a text begins with such a sign, a digit or such a word
abbrev pub is_place : Text → Bool
is_place [] = false
is_place (b ∷ t) =
    is_sign b || is_ascii_digit b || list_any (begins_in_any_case (b ∷ t)) place_words || list_any (is_before_number (b ∷ t)) number_words

-- a name is before such a text if it begins with a sign, or with commas and spaces and then one of these
abbrev pub ends_name : Text → Bool
ends_name [] = false
ends_name (b ∷ t) = is_sign b || (is_gap b && is_place (drop (prefix_len is_gap t) t))

-- how many bytes are before it: the first of that many places from one on, or all
abbrev pub first_end : Text → ℕ → ℕ → ℕ
first_end text n zero = n
first_end text n (suc left) = if ends_name (drop n text) then n else first_end text (n + 1) left

abbrev pub before_place : Text → Text
before_place text = take (first_end text 0 (length text)) text

-- ---- the name

-- the reference in a source
abbrev pub in_source : Text → Option Reference
in_source source = if nat_le (length source) longest_source then in_title source else None

-- all of a longer source, and of one without a letter before its end
abbrev pub is_cut : Text → Bool
is_cut source = nat_le (length source) longest_source && list_any is_letter (before_place source)

abbrev pub cut : Text → Text
cut source = if is_cut source then before_place source else source

-- the name of a journal; a source with a reference after a name stays as it is, and the reference is read later
abbrev pub name_by : Option Reference → Text → Option Text
name_by None source = Some (cut source)
name_by (Some found) source = if list_any is_letter found.name then Some source else None

abbrev pub journal_in : Text → Option Text
journal_in source = if is_journal source then name_by (in_source source) source else None

-- that of the first source that has one
abbrev pub first_journal : List KeyValue → Option Text
first_journal pairs = slice_get (filter_map journal_in (sources pairs)) 0

-- ---- the reference

-- the first one in a source, also without a name before it
abbrev pub first_reference : List KeyValue → Option Reference
first_reference pairs = slice_get (filter_map in_source (sources pairs)) 0
