-- The identifier that a title mentions among its words, as `Silt and tides. doi:10.1000/182` does.
use Rattle.std.specs.Prelude.{ℕ, ◌+◌, ◌&&◌, not, nat_le, Bool, List, [], ◌∷◌, codes, length, drop, Option, None, if◌then◌else◌}
use Rattle.std.specs.Char.{is_ascii_alphabetic, is_ascii_digit}
use Rattle.std.specs.List.{count_by, list_any, prefix_len, slice_split}
use Rattle.std.specs.Option.{option_or}
use Rattle.text_model.specs.Texts.{Text}
use Rattle.uri_text.specs.AnyCase.{begins_in_any_case}
use Rattle.work_identifiers.specs.declared.namespace.Namespace.{Namespace}
use Rattle.work_identifiers.specs.Addresses.{is_one_of}
use Rattle.work_identifiers.specs.Ends.{from_start, to_end}
use Rattle.work_identifiers.specs.Places.{words, identifier_in, identifier_alone}

-- ---- the titles that are searched

-- how many bytes such a title has at most
abbrev pub longest_title : ℕ
longest_title = 1000

-- how many digits an identifier among words has at least: one more than a year
abbrev pub fewest_digits : ℕ
fewest_digits = 5

-- how many words of a title have so many digits at most
abbrev pub most_numbers : ℕ
most_numbers = 4

abbrev pub digits_of : Text → ℕ
digits_of text = count_by is_ascii_digit text

abbrev pub has_number : Text → Bool
has_number text = nat_le fewest_digits (digits_of text)

-- what the title of a notice begins with, in capital or small letters
abbrev pub notices : List Text
notices =
    codes "errat" ∷ codes "corrigend" ∷ codes "correction" ∷ codes "retract" ∷ codes "withdraw" ∷ codes "expression of" ∷ codes "comment" ∷
    codes "reply" ∷ codes "response" ∷ codes "addend" ∷ []

-- who may be named before that
abbrev pub signers : List Text
signers = codes "author" ∷ codes "publisher" ∷ []

abbrev pub begins_with_one_of : List Text → Text → Bool
begins_with_one_of beginnings text = list_any (begins_in_any_case text) beginnings

abbrev pub is_no_letter : ℕ → Bool
is_no_letter b = not (is_ascii_alphabetic b)

abbrev pub from_letter : Text → Text
from_letter text = drop (prefix_len is_no_letter text) text

-- a space or a control character
abbrev pub is_space : ℕ → Bool
is_space b = nat_le b 0x20

abbrev pub is_no_space : ℕ → Bool
is_no_space b = not (is_space b)

-- what is after the first word, if that names who signs a notice
abbrev pub after_signer : Text → Text
after_signer text = if begins_with_one_of signers text then drop (prefix_len is_no_space text + 1) text else text

-- the title of an erratum or of another notice, which has the identifier of the article that it is about
abbrev pub is_notice : Text → Bool
is_notice text = begins_with_one_of notices (after_signer (from_letter text))

-- ---- the identifier

abbrev pub words_of : Text → List Text
words_of text = slice_split is_space text

-- the word says which number is after it, as `PMID:` does
abbrev pub is_label : Namespace → Text → Bool
is_label namespace word = is_one_of (words namespace) (to_end (from_start word))

-- the number that a word is, after such a word
abbrev pub labelled : Namespace → Text → Text → Option Text
labelled namespace before word = if is_label namespace before then identifier_alone namespace word else None

-- the identifier that a word with a number is, by itself or after the word before it
abbrev pub mention_at : Namespace → Text → Text → Option Text
mention_at namespace before word =
    if has_number word then option_or (identifier_in namespace word) (labelled namespace before word) else None

-- the first one of some words, after another word
abbrev pub first_mention : Namespace → Text → List Text → Option Text
first_mention namespace before [] = None
first_mention namespace before (word ∷ words) = option_or (mention_at namespace before word) (first_mention namespace word words)

abbrev pub is_searched : Text → Bool
is_searched text = nat_le (length text) longest_title && has_number text && not (is_notice text)

-- the first one of few words with numbers
abbrev pub mention_among : Namespace → List Text → Option Text
mention_among namespace words = if nat_le (count_by has_number words) most_numbers then first_mention namespace [] words else None

-- the first identifier that a title mentions
abbrev pub mention_in : Namespace → Text → Option Text
mention_in namespace text = if is_searched text then mention_among namespace (words_of text) else None
