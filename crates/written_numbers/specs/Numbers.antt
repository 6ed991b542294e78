-- Numbers as sources write them, in ASCII.
use Rattle.std.specs.Prelude.{ℕ, ◌-◌, ◌==◌, ◌||◌, ◌&&◌, not, Bool, true, List, [], ◌∷◌, ◌++◌, length, map, fold, chars, slice_index, if◌then◌else◌}
use Rattle.std.specs.List.{flat_map, slice_split}
use Rattle.text_model.specs.Texts.{Text}
use Rattle.written_numbers.specs.Characters.{Range, is_in, line_feed, space, hyphen, number_character}

-- ---- characters

-- the text with what is written for each character
unfoldable pub in_ascii : Text → Text
in_ascii text = flat_map number_character (chars text)

-- ---- words and lines

abbrev pub is_begun : Text → Bool
is_begun text = not (length text == 0)

-- the last byte is a hyphen
abbrev pub ends_with_hyphen : Text → Bool
ends_with_hyphen text = slice_index text (length text - 1) == hyphen

-- a part after others, with a space between them or not; nothing if it is empty
abbrev pub with_part : Bool → Text → Text → Text
with_part gap before part = if length part == 0 then before else if gap then before ++ space ∷ part else before ++ part

-- a word after others
abbrev pub with_word : Text → Text → Text
with_word before word = with_part (is_begun before) before word

-- a line after others: at once after a hyphen, at which a number is divided
abbrev pub with_line : Text → Text → Text
with_line before line = with_part (is_begun before && not (ends_with_hyphen before)) before line

-- the words of a line, with single spaces
unfoldable pub words : Text → Text
words line = fold with_word [] (slice_split (λ b. b == space) line)

-- the lines of a text, each with single spaces, one after another
unfoldable pub joined_lines : Text → Text
joined_lines text = fold with_line [] (map words (slice_split (λ b. b == line_feed) text))

-- ---- numbers

unfoldable pub number_text : Text → Text
number_text text = joined_lines (in_ascii text)

-- ---- for laws

-- the visible characters of ASCII without the quotation mark
unfoldable pub visible : List Range
visible = (0x21, 0x21) ∷ (0x23, 0x7e) ∷ []

-- this byte may be next in a text of words with single spaces
abbrev pub may_follow : Bool → ℕ → Bool
may_follow gap b = is_in visible b || b == space && not gap

-- visible characters with single spaces between them, after the beginning or a space, or after another byte
abbrev pub is_plain_after : Bool → Text → Bool
is_plain_after gap [] = not gap
is_plain_after gap (b ∷ t) = may_follow gap b && is_plain_after (b == space) t

abbrev pub is_plain : Text → Bool
is_plain text = is_plain_after true text
