-- Identifiers as sources write them, without what the layout of a page has put into them.
use Rattle.std.specs.Prelude.{ℕ, ◌-◌, ◌==◌, ◌||◌, ◌&&◌, not, nat_lt, Bool, false, List, [], ◌∷◌, ◌++◌, length, map, filter, take, drop, codes, if◌then◌else◌}
use Rattle.std.specs.Char.{is_ascii_digit}
use Rattle.std.specs.List.{list_all, list_any, prefix_len, suffix_len, slice_split}
use Rattle.text_model.specs.Texts.{Text}
use Rattle.uri_text.specs.AnyCase.{begins_in_any_case}
use Rattle.written_numbers.specs.Characters.{line_feed}
use Rattle.written_numbers.specs.Layout.{without_layout}

-- ---- lines

-- a space or a tab
abbrev pub is_blank : ℕ → Bool
is_blank b = b == 0x20 || b == 9

-- how many spaces and tabs are at the beginning
abbrev pub blanks_before : Text → ℕ
blanks_before line = prefix_len is_blank line

-- and how many at the end
abbrev pub blanks_after : Text → ℕ
blanks_after line = suffix_len is_blank line

abbrev pub unindented : Text → Text
unindented line = drop (blanks_before line) line

-- without the spaces and tabs at both ends
unfoldable pub trimmed : Text → Text
trimmed line = take (length (unindented line) - blanks_after (unindented line)) (unindented line)

abbrev pub is_filled : Text → Bool
is_filled line = not (length line == 0)

-- the lines in which there is more than spaces and tabs, without those at their ends
unfoldable pub filled_lines : Text → List Text
filled_lines text = filter is_filled (map trimmed (slice_split (λ b. b == line_feed) text))

-- ---- identifiers

-- `10.` and a digit, with which a DOI begins (DOI Handbook, section 2)
abbrev pub begins_doi : Text → Bool
begins_doi [] = false
begins_doi (a ∷ []) = false
begins_doi (a ∷ b ∷ []) = false
begins_doi (a ∷ b ∷ c ∷ []) = false
begins_doi (a ∷ b ∷ c ∷ d ∷ t) = a == 0x31 && b == 0x30 && c == 0x2e && is_ascii_digit d

-- the schemes of URIs and the names with which identifiers begin
unfoldable pub beginnings : List Text
beginnings =
    codes "http:" ∷ codes "https:" ∷ codes "info:" ∷ codes "urn:" ∷ codes "doi" ∷ codes "pmid" ∷ codes "pmc" ∷ codes "isbn" ∷
    codes "issn" ∷ []

abbrev pub begins_with_one_of : List Text → Text → Bool
begins_with_one_of names line = list_any (λ name. begins_in_any_case line name) names

-- the line begins an identifier
unfoldable pub begins_identifier : Text → Bool
begins_identifier line = begins_doi line || begins_with_one_of beginnings line

-- the lines up to the first one that begins another identifier, one at once after another
abbrev pub continued : List Text → Text
continued [] = []
continued (line ∷ lines) = if begins_identifier line then [] else line ++ continued lines

-- the first line with those that continue it
abbrev pub of_lines : List Text → Text
of_lines [] = []
of_lines (line ∷ lines) = line ++ continued lines

unfoldable pub identifier_text : Text → Text
identifier_text text = of_lines (filled_lines (without_layout text))

-- ---- for laws

-- ASCII that ends no line
abbrev pub is_plain_byte : ℕ → Bool
is_plain_byte b = nat_lt b 0x80 && not (b == line_feed || b == 0xd)

abbrev pub is_bare : Text → Bool
is_bare text = blanks_before text == 0 && blanks_after text == 0

-- ASCII on one line, with no spaces or tabs at its ends
abbrev pub is_plain : Text → Bool
is_plain text = list_all is_plain_byte text && is_bare text
