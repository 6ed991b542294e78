-- The words of a text.
use Rattle.std.specs.Prelude.{ℕ, ◌==◌, ◌||◌, ◌&&◌, not, nat_le, Bool, List, [], ◌∷◌, ◌++◌, take, drop, slice_index, if◌then◌else◌}
use Rattle.std.specs.Char.{is_ascii_alphabetic, is_ascii_alphanumeric, is_ascii_digit}
use Rattle.std.specs.List.{flat_map, list_all, list_any, prefix_len, slice_split}
use Rattle.text_model.specs.Texts.{Text}
use Rattle.article_places.specs.Labels.{is_label, is_supplement_word}

-- a space or a control character, one of `.,:;`, a quote, or a closing bracket
abbrev pub is_gap : ℕ → Bool
is_gap b =
    nat_le b 0x20 || b == 0x2e || b == 0x2c || b == 0x3a || b == 0x3b || b == 0x22 || b == 0x27 || b == 0x29 || b == 0x5d

-- `(` or `[`
abbrev pub is_open : ℕ → Bool
is_open b = b == 0x28 || b == 0x5b

abbrev pub is_not_open : ℕ → Bool
is_not_open b = not (is_open b)

-- how many letters the word begins with
abbrev pub letters : Text → ℕ
letters word = prefix_len is_ascii_alphabetic word

-- a word of two letters or more that says which number it is, and a number that begins with a digit, as `Vol12`
abbrev pub is_joined : Text → Bool
is_joined word =
    nat_le 2 (letters word) && is_ascii_digit (slice_index word (letters word))
    && (is_label (take (letters word) word) || is_supplement_word (take (letters word) word))

-- a joined word as two, any other as it is, and none of an empty one
abbrev pub apart : Text → List Text
apart [] = []
apart (b ∷ word) =
    let w = b ∷ word in
    if is_joined w then (take (letters w) w ∷ drop (letters w) w ∷ []) else (w ∷ [])

-- the words of a text without brackets
abbrev pub words_in : Text → List Text
words_in text = flat_map apart (slice_split is_gap text)

-- an opening bracket is a word, and what follows it
abbrev pub bracketed : Text → List Text
bracketed [] = []
bracketed (b ∷ text) = (b ∷ []) ∷ words_in text

-- the words of a text: those before its first opening bracket, that bracket, and those after it
abbrev pub words : Text → List Text
words text = let n = prefix_len is_not_open text in words_in (take n text) ++ bracketed (drop n text)

-- a letter, a digit, `-` or `/`
abbrev pub is_number_byte : ℕ → Bool
is_number_byte b = is_ascii_alphanumeric b || b == 0x2d || b == 0x2f

-- a number as volumes and issues have them: of these, with a digit, as `53`, `12A` and `3-4`
abbrev pub is_number : Text → Bool
is_number word = list_all is_number_byte word && list_any is_ascii_digit word
