-- ISSNs (ISO 3297) and ISBNs (ISO 2108) as identifiers: alone, or after a word that says which number it is.
use Rattle.std.specs.Prelude.{◌≡◌, ◌≤◌, ℕ, ◌==◌, ◌||◌, ◌&&◌, nat_le, Bool, true, List, [], ◌∷◌, codes, length, drop, slice_index}
use Rattle.std.specs.Char.{is_ascii_digit}
use Rattle.std.specs.List.{count_by, list_all, list_any}
use Rattle.text_model.specs.Texts.{Text}
use Rattle.uri_text.specs.AnyCase.{begins_in_any_case}
use Rattle.work_identifiers.specs.declared.numbers.StandardNumber.{StandardNumber}
use Rattle.work_identifiers.specs.declared.numbers.StandardNumber.TheVariants.{Issn, Isbn}
use Rattle.work_identifiers.specs.Ends.{from_start, to_end}
use Rattle.work_identifiers.specs.Forms.{most_bytes}

-- the words, in capital or small letters: the namespaces of URNs (RFC 8141), and what sources write
abbrev pub number_words : StandardNumber → List Text
number_words Issn = codes "urn:issn" ∷ codes "issn" ∷ []
number_words Isbn = codes "urn:isbn" ∷ codes "isbn" ∷ codes "isbn-10" ∷ codes "isbn-13" ∷ []

-- a digit, or `X` for a check digit
abbrev pub is_figure : ℕ → Bool
is_figure b = is_ascii_digit b || b == 0x58 || b == 0x78

-- one of these, or a hyphen
abbrev pub is_number_byte : ℕ → Bool
is_number_byte b = is_figure b || b == 0x2d

-- how many digits a number has: an ISBN ten or 13
abbrev pub has_figures : StandardNumber → ℕ → Bool
has_figures Issn n = n == 8
has_figures Isbn n = n == 10 || n == 13

-- that many digits, with hyphens or without, and nothing else
abbrev pub is_spelled : StandardNumber → Text → Bool
is_spelled number text = list_all is_number_byte text && has_figures number (count_by is_figure text)

-- a text of at most 500 bytes that is such a number, with what sources write after it
abbrev pub is_number_at : StandardNumber → Text → Bool
is_number_at number text = nat_le (length text) most_bytes && is_spelled number (to_end text)

abbrev pub is_number_after : StandardNumber → Text → Text → Bool
is_number_after number text word = begins_in_any_case text word && is_number_at number (from_start (drop (length word) text))

abbrev pub is_after_any : StandardNumber → Text → Bool
is_after_any number text = list_any (is_number_after number text) (number_words number)

-- the text is such a number, after a word that says so
abbrev pub is_number_named : StandardNumber → Text → Bool
is_number_named number text = is_after_any number (from_start text)

-- eight digits without a hyphen may be another number, such as one of PubMed
abbrev pub is_clear : StandardNumber → Text → Bool
is_clear Issn text = slice_index text 4 == 0x2d
is_clear Isbn text = true

-- the text is such a number, without a word
abbrev pub is_number_alone : StandardNumber → Text → Bool
is_number_alone number text = is_number_at number (from_start text) && is_clear number (from_start text)

-- ---- URNs

-- what the URN of a number begins with (RFC 3044, RFC 3187)
abbrev pub urn_start : StandardNumber → Text
urn_start Issn = codes "urn:ISSN:"
urn_start Isbn = codes "urn:ISBN:"

-- a number of at most 500 bytes
abbrev pub IsSpelled : StandardNumber → Text → Type 0
IsSpelled number text = (length text ≤ most_bytes) × (is_spelled number text ≡ true)
