-- Which pairs of a source count.
use Rattle.std.specs.Prelude.{ℕ, Bool, not, ◌&&◌, ◌||◌, ◌-◌, nat_le, ◌==◌, List, [], ◌∷◌, length, slice_index, take, map, filter, codes}
use Rattle.std.specs.Char.{to_ascii_uppercase}
use Rattle.std.specs.List.{list_any, list_all}
use Rattle.std.specs.Str.{bytes_eq, str_eq_ignore_ascii_case}
use Rattle.text_model.specs.Texts.{Text}
use Rattle.standard_names.specs.Columns.{known_columns}
use Rattle.kev_read.specs.Pairs.{KeyValue}
use Rattle.openurl_reading.specs.Keys.{is_one_of, named}

-- how many pairs of a source count
abbrev pub most_pairs : ℕ
most_pairs = 300

-- in small or capital letters
abbrev pub is_one_in_any_case : List Text → Text → Bool
is_one_in_any_case texts text = list_any (λ one. str_eq_ignore_ascii_case one text) texts

-- ---- keys

-- the keys that the resolver adds begin with `x.`
abbrev pub is_added_key : Text → Bool
is_added_key key = nat_le 2 (length key) && (slice_index key 0 == 0x78) && (slice_index key 1 == 0x2e)

-- a column of holdings tables, or one that the update adds for the front door: an empty cell is undefined, so a request that could write one
-- would choose the link
abbrev pub is_column : Text → Bool
is_column key = is_one_of known_columns key || bytes_eq key (codes "title_page")

-- neither of both
abbrev pub is_free : Text → Bool
is_free key = not (is_added_key key) && not (is_column key)

-- the keys that find rows, with their names in OpenURL 0.1, and the field of a form for their numbers
abbrev pub row_keys : List Text
row_keys =
    codes "rft.issn" ∷ codes "rft.eissn" ∷ codes "rft.isbn" ∷ codes "issn" ∷ codes "eissn" ∷ codes "isbn" ∷ codes "number" ∷ []

-- ---- values

-- nothing but spaces and control characters
abbrev pub is_blank : Text → Bool
is_blank value = list_all (λ b. nat_le b 0x20) value

-- without hyphens and spaces, and in upper case
abbrev pub plain : Text → Text
plain value = map to_ascii_uppercase (filter (λ b. not (b == 0x2d || b == 0x20)) value)

-- the number of the rows of targets that answer every request
abbrev pub is_any : Text → Bool
is_any value = bytes_eq (plain value) (codes "ANY")

-- what identifiers begin with, in URIs (`info:` of RFC 4452, `urn:` of RFC 8141), addresses and other forms
abbrev pub prefixes : List Text
prefixes =
    codes "info:doi/" ∷ codes "info:doi:" ∷ codes "info:doi/doi:" ∷ codes "info:pmid/" ∷ codes "info:pmid:" ∷ codes "info:pmcid/" ∷
    codes "info:pmc/" ∷ codes "info:oclcnum/" ∷ codes "info:lccn/" ∷ codes "info:bibcode/" ∷ codes "info:arxiv/" ∷ codes "info:hdl/" ∷
    codes "info:eric/" ∷ codes "info:oai/" ∷ codes "info:sici/" ∷ codes "urn:issn:" ∷ codes "urn:isbn:" ∷ codes "urn:doi:" ∷
    codes "urn:nbn:" ∷ codes "doi:" ∷ codes "pmid:" ∷ codes "pmcid:" ∷ codes "oclc:" ∷ codes "issn:" ∷ codes "isbn:" ∷ codes "arxiv:" ∷
    codes "oai:arxiv.org:" ∷ codes "doi.org/" ∷ codes "dx.doi.org/" ∷ codes "www.doi.org/" ∷ codes "http://doi.org/" ∷
    codes "https://doi.org/" ∷ codes "http://dx.doi.org/" ∷ codes "https://dx.doi.org/" ∷ codes "http://www.doi.org/" ∷
    codes "https://www.doi.org/" ∷ []

-- a prefix alone
abbrev pub is_prefix : Text → Bool
is_prefix value = is_one_in_any_case prefixes value

-- ---- pairs

-- the value says nothing under the key
abbrev pub is_void : KeyValue → Bool
is_void pair =
    is_blank pair.value || (is_one_of row_keys pair.key && is_any pair.value) || (bytes_eq pair.key (codes "rft_id") && is_prefix pair.value)

abbrev pub is_accepted : KeyValue → Bool
is_accepted pair = is_free pair.key && not (is_void pair)

abbrev pub accepted : List KeyValue → List KeyValue
accepted pairs = filter is_accepted pairs

-- the pairs that count, with their keys in small letters if they are known, and how many are left out beyond them
abbrev pub counting : List KeyValue → List KeyValue
counting pairs = take most_pairs (accepted (map named pairs))

abbrev pub left_out : List KeyValue → ℕ
left_out pairs = length (accepted (map named pairs)) - most_pairs
