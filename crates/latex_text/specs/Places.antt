-- Places in a text in LaTeX: what is before a byte decides what the byte means (LaTeX2e: An unofficial reference manual,
-- sections "LaTeX command syntax" and "Math formulas").
use Rattle.std.specs.Prelude.{ℕ, ◌==◌, ◌||◌, ◌&&◌, not, nat_lt, Bool, true, false, List, [], ◌∷◌, if◌then◌else◌}
use Rattle.std.specs.Char.{is_ascii_alphabetic, is_ascii_alphanumeric}
use Rattle.std.specs.List.{list_any}
use Rattle.text_model.specs.Texts.{Text}
use Rattle.latex_text.specs.declared.places.Place.{Place}
use Rattle.latex_text.specs.declared.places.Place.TheVariants.{Start, Word, Initial, Escaped, Name, Sign, Formula}

-- ---- bytes

abbrev pub backslash : ℕ
backslash = 0x5c

abbrev pub opening : ℕ
opening = 0x7b

abbrev pub closing : ℕ
closing = 0x7d

abbrev pub dollar : ℕ
dollar = 0x24

-- a byte of this kind is in the text
abbrev pub has : ℕ → Text → Bool
has mark t = list_any (λ b. b == mark) t

abbrev pub is_letter : ℕ → Bool
is_letter b = is_ascii_alphabetic b

-- a letter, a digit, `_`, the end of a group, or part of a character that is not ASCII
abbrev pub is_word_byte : ℕ → Bool
is_word_byte b = is_ascii_alphanumeric b || b == 0x5f || b == closing || not (nat_lt b 0x80)

-- `O` and `D`, with which names begin that have an apostrophe next
abbrev pub is_initial : ℕ → Bool
is_initial b = b == 0x4f || b == 0x44

-- ---- places

-- after this byte of a text, which is no part of a command or of a formula; it may be the first of a word
abbrev pub in_text : Bool → ℕ → Place
in_text at_start b =
    if b == backslash then Escaped else if b == dollar then Formula else
    if is_word_byte b then (if is_initial b && at_start then Initial else Word) else Start

abbrev pub next : Place → ℕ → Place
next Start b = in_text true b
next Word b = in_text false b
next Initial b = in_text false b
next Escaped b = if is_letter b then Name else Sign
next Name b = if is_letter b then Name else in_text false b
next Sign b = in_text false b
next Formula b = if b == dollar then Start else Formula

abbrev pub place_after : Place → Text → Place
place_after place [] = place
place_after place (b ∷ t) = place_after (next place b) t

-- the place of each byte of a text
abbrev pub places : Place → Text → List Place
places place [] = []
places place (b ∷ t) = place ∷ places (next place b) t

-- a command may begin here
abbrev pub has_commands : Place → Bool
has_commands Start = true
has_commands Word = true
has_commands Initial = true
has_commands Escaped = false
has_commands Name = true
has_commands Sign = true
has_commands Formula = false

-- a group may begin here that is no argument of a command
abbrev pub has_groups : Place → Bool
has_groups Start = true
has_groups Word = true
has_groups Initial = true
has_groups Escaped = false
has_groups Name = false
has_groups Sign = false
has_groups Formula = false

-- the text after this place begins no word with `O` or `D` before it
abbrev pub is_within_text : Place → Bool
is_within_text Start = true
is_within_text Word = true
is_within_text Initial = false
is_within_text Escaped = false
is_within_text Name = false
is_within_text Sign = false
is_within_text Formula = false

abbrev pub follows_initial : Place → Bool
follows_initial Start = false
follows_initial Word = false
follows_initial Initial = true
follows_initial Escaped = false
follows_initial Name = false
follows_initial Sign = false
follows_initial Formula = false
