-- Texts that a source has encoded twice: values as queries have them (URL Standard, section 5.1).
use Rattle.std.specs.Prelude.{ℕ, ◌-◌, ◌==◌, ◌||◌, ◌&&◌, not, nat_le, Bool, true, false, List, [], ◌∷◌, length, drop, if◌then◌else◌}
use Rattle.std.specs.Char.{is_ascii_alphabetic, is_ascii_alphanumeric}
use Rattle.std.specs.List.{list_all, list_any, slice_split}
use Rattle.text_model.specs.Texts.{Text, begins_with_triplet, percent}
use Rattle.request_encodings.specs.declared.encoding.Encoding.TheVariants.{Utf8}
use Rattle.request_encodings.specs.Texts.{value_in}

-- `+`, which stands for a space
abbrev pub plus : ℕ
plus = 0x2b

-- a byte of this kind is in the text
abbrev pub has : ℕ → Text → Bool
has mark text = list_any (λ b. b == mark) text

-- a space or a control character is in the text
abbrev pub has_space : Text → Bool
has_space text = list_any (λ b. nat_le b 0x20) text

-- each `%` begins an escape
abbrev pub has_whole_escapes : Text → Bool
has_whole_escapes [] = true
has_whole_escapes (b ∷ t) = (not (b == percent) || begins_with_triplet (b ∷ t)) && has_whole_escapes t

-- ---- words

-- a letter or `_`
abbrev pub is_word_start : ℕ → Bool
is_word_start b = is_ascii_alphabetic b || b == 0x5f

-- a letter, a digit or `_`
abbrev pub is_word_byte : ℕ → Bool
is_word_byte b = is_ascii_alphanumeric b || b == 0x5f

abbrev pub is_word : Text → Bool
is_word [] = false
is_word (b ∷ t) = is_word_start b && list_all is_word_byte t

abbrev pub begins_as_word : Text → Bool
begins_as_word [] = false
begins_as_word (b ∷ []) = false
begins_as_word (b ∷ c ∷ t) = is_word_start b && is_word_byte c

-- the last two bytes are as those of a word
abbrev pub ends_as_word : Text → Bool
ends_as_word text = begins_as_word (drop (length text - 2) text)

-- a word, and then the beginning of one
abbrev pub begin_with_words : List Text → Bool
begin_with_words [] = false
begin_with_words (word ∷ []) = false
begin_with_words (word ∷ next ∷ words) = is_word word && begins_as_word next

-- three words follow one another
abbrev pub has_three_words : List Text → Bool
has_three_words [] = false
has_three_words (first ∷ words) = (ends_as_word first && begin_with_words words) || has_three_words words

-- ---- encoded texts

-- without spaces, and with escapes or with `+` between three words, but with no `%` that begins no escape
abbrev pub is_encoded : Text → Bool
is_encoded text =
    (not (has_space text) && has_whole_escapes text) && (has percent text || has_three_words (slice_split (λ b. b == plus) text))

abbrev pub decoded_again : Text → Text
decoded_again text = if is_encoded text then value_in Utf8 text else text

-- ---- encoded identifiers

-- with escapes, but with no `%` that begins no escape; a `+` may be a part of an identifier
abbrev pub is_escaped : Text → Bool
is_escaped text = has_whole_escapes text && has percent text && not (has plus text)

abbrev pub unescaped : Text → Text
unescaped text = if is_escaped text then value_in Utf8 text else text
