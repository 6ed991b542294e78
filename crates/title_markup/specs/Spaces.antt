-- Spaces in titles.
use Rattle.std.specs.Prelude.{ℕ, ◌==◌, ◌||◌, ◌&&◌, not, nat_le, Bool, true, false, [], ◌∷◌, ◌++◌, if◌then◌else◌}
use Rattle.text_model.specs.Texts.{Text}
use Rattle.title_markup.specs.Titles.{is_blank, without_markup}

-- a space or a control character
abbrev pub is_space : ℕ → Bool
is_space b = nat_le b 0x20 || b == 0x7f

-- a space before a text
abbrev pub space_if : Bool → Text → Text
space_if true t = 0x20 ∷ t
space_if false t = t

-- what is written for a byte: nothing for a space, and one space before the first byte after it
abbrev pub written : Bool → Bool → ℕ → Text
written true gap b = []
written false gap b = space_if gap (b ∷ [])

-- words have begun, and a space was the last byte
abbrev pub words_after : Bool → Bool → Text → Text
words_after begun gap [] = []
words_after begun gap (b ∷ t) = written (is_space b) (begun && gap) b ++ words_after (begun || not (is_space b)) (is_space b) t

-- the words of a text, with one space between two of them
unfoldable pub words : Text → Text
words t = words_after false false t

-- the title with single spaces; one of spaces alone stays
abbrev pub with_single_spaces : Text → Text
with_single_spaces title = if is_blank (words title) then title else words title

-- without markup, and then with single spaces
abbrev pub plain_title : Text → Text
plain_title title = with_single_spaces (without_markup title)

-- ---- for laws

-- spaces are between words, and single; a gap is the beginning, or a space
abbrev pub is_single_after : Bool → Text → Bool
is_single_after gap [] = not gap
is_single_after gap (b ∷ t) = if b == 0x20 then not gap && is_single_after true t else not (is_space b) && is_single_after false t

abbrev pub has_single_spaces : Text → Bool
has_single_spaces [] = true
has_single_spaces (b ∷ t) = is_single_after true (b ∷ t)
