-- The pieces of a reference: each is the longest run of bytes of its class, and passes its test.
use Rattle.std.specs.Prelude.{ℕ, ◌-◌, ◌==◌, ◌||◌, ◌&&◌, not, nat_le, Bool, codes, count_by}
use Rattle.std.specs.Prelude.{length, take, drop, slice_index, Option, Some, None, if◌then◌else◌}
use Rattle.std.specs.Char.{is_ascii_alphabetic, is_ascii_alphanumeric, is_ascii_digit, to_ascii_lowercase}
use Rattle.std.specs.List.{list_all, list_any, prefix_len}
use Rattle.text_model.specs.Texts.{Text}
use Rattle.uri_text.specs.AnyCase.{begins_in_any_case}
use Rattle.journal_references.specs.declared.pieces.Piece.{Piece}
use Rattle.journal_references.specs.declared.pieces.Piece.TheVariants.{Volume, Plain, Issue, PlainIssue, Inner, Pages, Year, Days}
use Rattle.journal_references.specs.Words.{letters}

-- ---- classes of bytes

abbrev pub is_hyphen : ℕ → Bool
is_hyphen b = b == 0x2d

-- a letter, a digit or a hyphen
abbrev pub is_page_byte : ℕ → Bool
is_page_byte b = is_ascii_alphanumeric b || is_hyphen b

-- one of these or `/`
abbrev pub is_number_byte : ℕ → Bool
is_number_byte b = is_page_byte b || b == 0x2f

-- one of these, a space or a full stop
abbrev pub is_inner_byte : ℕ → Bool
is_inner_byte b = is_number_byte b || b == 0x20 || b == 0x2e

abbrev pub is_byte : Piece → ℕ → Bool
is_byte Volume = is_number_byte
is_byte Plain = is_number_byte
is_byte Issue = is_number_byte
is_byte PlainIssue = is_number_byte
is_byte Inner = is_inner_byte
is_byte Pages = is_page_byte
is_byte Year = is_number_byte
is_byte Days = is_inner_byte

-- ---- tests

-- the last byte
abbrev pub last : Text → ℕ
last t = slice_index t (length t - 1)

-- a letter or a digit at both ends
abbrev pub is_closed : Text → Bool
is_closed t = is_ascii_alphanumeric (slice_index t 0) && is_ascii_alphanumeric (last t)

-- from 1500 to 2099
abbrev pub is_year : Text → Bool
is_year t =
    (length t == 4) && list_all is_ascii_digit t
    && ((slice_index t 0 == 0x31 && nat_le 0x35 (slice_index t 1)) || (slice_index t 0 == 0x32 && slice_index t 1 == 0x30))

-- a digit first, at most nine bytes, and one letter of them at most, as `12`, `12A` and `12-13`
abbrev pub is_volume : Text → Bool
is_volume t = is_ascii_digit (slice_index t 0) && is_closed t && nat_le (length t) 9 && nat_le (count_by is_ascii_alphabetic t) 1

-- with a digit, at most nine bytes, as `3`, `3-4` and `S1`
abbrev pub is_issue : Text → Bool
is_issue t = list_any is_ascii_digit t && is_closed t && nat_le (length t) 9

abbrev pub ends_with_year : Text → Bool
ends_with_year t = is_year (drop (length t - 4) t)

-- the digits at the beginning are a year
abbrev pub begins_with_year : Text → Bool
begins_with_year t = is_year (take (prefix_len is_ascii_digit t) t)

-- an issue in brackets, of at most twenty bytes, and no year, as `3`, `3 Suppl 1`, `Pt 3` and `Suppl`
abbrev pub is_inner : Text → Bool
is_inner t =
    (list_any is_ascii_digit t || begins_in_any_case t (codes "suppl")) && is_closed t && nat_le (length t) 20
    && not (ends_with_year t || begins_with_year t)

-- at most three letters and a digit at the beginning, and at most one letter at the end, as `45`, `S45-S50` and `e1234`
abbrev pub is_numbered : Text → Bool
is_numbered t =
    nat_le (letters t) 3 && is_ascii_digit (slice_index t (letters t))
    && (is_ascii_digit (last t) || is_ascii_digit (slice_index t (length t - 2)))

-- one of `ivxl`, in capital or small letters, or a hyphen
abbrev pub is_roman_byte : ℕ → Bool
is_roman_byte b = let c = to_ascii_lowercase b in c == 0x69 || c == 0x76 || c == 0x78 || c == 0x6c || is_hyphen b

-- a range of pages in Roman numerals, as `iii-xii`
abbrev pub is_roman : Text → Bool
is_roman t = list_all is_roman_byte t && list_any is_hyphen t

abbrev pub are_pages : Text → Bool
are_pages t = is_closed t && nat_le (length t) 30 && (is_numbered t || is_roman t)

-- what may be between a year and `;`: nothing, or at most twenty bytes and no second year, as ` Mar 15`
abbrev pub are_days : Text → Bool
are_days t = nat_le (length t) 20 && nat_le (count_by is_ascii_digit t) 3

abbrev pub is_piece : Piece → Text → Bool
is_piece Volume t = is_volume t
is_piece Plain t = is_volume t && not (is_year t)
is_piece Issue t = is_issue t
is_piece PlainIssue t = is_issue t && not (ends_with_year t)
is_piece Inner t = is_inner t
is_piece Pages t = are_pages t
is_piece Year t = is_year t
is_piece Days t = are_days t

-- how many bytes the piece has with which a text begins
abbrev pub piece_length : Piece → Text → Option ℕ
piece_length piece t = let n = prefix_len (is_byte piece) t in if is_piece piece (take n t) then Some n else None
