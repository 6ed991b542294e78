-- The characters of numbers, by the code charts of the Unicode Standard.
use Rattle.std.specs.Prelude.{ℕ, ◌-◌, ◌&&◌, nat_le, Bool, List, [], ◌∷◌, encode_utf8, if◌then◌else◌}
use Rattle.std.specs.List.{list_any}
use Rattle.text_model.specs.Texts.{Text}

-- ---- ranges

-- the first character of a range, and the last one
abbrev pub Range : Type 0
Range = ℕ × ℕ

abbrev pub is_between : Range → ℕ → Bool
is_between range c = nat_le range.0 c && nat_le c range.1

abbrev pub is_in : List Range → ℕ → Bool
is_in ranges c = list_any (λ (range : Range). is_between range c) ranges

-- ---- classes

-- soft hyphen, hyphen to horizontal bar, hyphen bullet, minus sign, small em dash, small and full-width hyphen-minus
unfoldable pub dashes : List Range
dashes =
    (0xad, 0xad) ∷ (0x2010, 0x2015) ∷ (0x2043, 0x2043) ∷ (0x2212, 0x2212) ∷ (0xfe58, 0xfe58) ∷ (0xfe63, 0xfe63) ∷
    (0xff0d, 0xff0d) ∷ []

-- no-break space, en quad to zero width space, narrow no-break space, mathematical and ideographic space, byte order mark
unfoldable pub wide_spaces : List Range
wide_spaces =
    (0xa0, 0xa0) ∷ (0x2000, 0x200b) ∷ (0x202f, 0x202f) ∷ (0x205f, 0x205f) ∷ (0x3000, 0x3000) ∷ (0xfeff, 0xfeff) ∷ []

-- quotation marks, joiners, and marks, embeddings, overrides and isolates of direction
unfoldable pub marks : List Range
marks =
    (0x22, 0x22) ∷ (0xab, 0xab) ∷ (0xbb, 0xbb) ∷ (0x200c, 0x200f) ∷ (0x2018, 0x201f) ∷ (0x202a, 0x202e) ∷ (0x2039, 0x203a) ∷
    (0x2066, 0x2069) ∷ (0xff02, 0xff02) ∷ []

-- tab, line feed and carriage return
unfoldable pub line_ends : List Range
line_ends = (9, 0xa) ∷ (0xd, 0xd) ∷ []

abbrev pub arabic_digits : Range
arabic_digits = (0x660, 0x669)

abbrev pub persian_digits : Range
persian_digits = (0x6f0, 0x6f9)

abbrev pub devanagari_digits : Range
devanagari_digits = (0x966, 0x96f)

-- full-width forms of the visible characters of ASCII
abbrev pub full_width : Range
full_width = (0xff01, 0xff5e)

-- ---- what is written

abbrev pub line_feed : ℕ
line_feed = 0xa

abbrev pub space : ℕ
space = 0x20

abbrev pub hyphen : ℕ
hyphen = 0x2d

-- a digit as that of ASCII, a full-width form as its character of ASCII, and another character as it is
unfoldable pub narrow : ℕ → ℕ
narrow c =
    if is_between arabic_digits c then c - 0x630 else if is_between persian_digits c then c - 0x6c0 else
    if is_between devanagari_digits c then c - 0x936 else if is_between full_width c then c - 0xfee0 else c

unfoldable pub ascii_of : ℕ → ℕ
ascii_of c = if is_in dashes c then hyphen else if is_in wide_spaces c then space else if is_in line_ends c then line_feed else narrow c

-- what is written for a character of a number
unfoldable pub number_character : ℕ → Text
number_character c = if is_in marks c then [] else encode_utf8 (ascii_of c)
