-- The first and the last page in a text.
use Rattle.std.specs.Prelude.{ℕ, ◌==◌, ◌||◌, ◌&&◌, not, Bool, false, List, [], ◌∷◌, ◌++◌, codes}
use Rattle.std.specs.Prelude.{length, take, drop, slice_get, slice_index, Option, Some, None, is_some, if◌then◌else◌}
use Rattle.std.specs.Char.{is_ascii_alphanumeric}
use Rattle.std.specs.List.{flat_map, prefix_len, slice_split}
use Rattle.std.specs.Option.{option_and_then, option_map}
use Rattle.std.specs.Str.{str_eq_ignore_ascii_case}
use Rattle.text_model.specs.Texts.{Text}
use Rattle.article_places.specs.declared.pages.Pages as code
use Rattle.article_places.specs.declared.pages.LastPage as code_last
use Rattle.article_places.specs.Labels.{is_range_word}
use Rattle.article_places.specs.Words.{letters}
use Rattle.article_places.specs.PageForms.{digits, has_label, is_stop, is_numbered, numbered, roman, page}
use Rattle.article_places.specs.LastPages.{last_page}

-- a first page, and a last one
pub record Range : Type 0 where
  pub first : Text
  pub last : Option Text

abbrev pub in_full : code_last.LastPage → Text
in_full last = last.shared.now ++ last.written.now

abbrev pub range : code.Pages → Range
range pages = record { first = pages.first.now; last = option_map in_full pages.last }

-- ---- words

-- neither a letter, a digit nor a full stop
abbrev pub is_between : ℕ → Bool
is_between b = not (is_ascii_alphanumeric b || is_stop b)

-- how many letters say that a page is next: `S` says so only before a full stop, as in German
abbrev pub label_length : Text → ℕ
label_length word =
    if has_label word || (str_eq_ignore_ascii_case (roman word) (codes "s") && is_stop (slice_index word (letters word))) then letters word else 0

-- a word without these letters, and then without full stops at its beginning
abbrev pub bare : Text → Text
bare word = let rest = drop (label_length word) word in drop (prefix_len is_stop rest) rest

-- that, if anything is left
abbrev pub bare_word : Text → List Text
bare_word word = if length (bare word) == 0 then [] else (bare word ∷ [])

abbrev pub page_words : Text → List Text
page_words text = flat_map bare_word (slice_split is_between text)

-- ---- pages

-- the first page with a number
abbrev pub first_number : List Text → Option Text
first_number [] = None
first_number (word ∷ words) = if is_numbered word then Some (numbered word) else first_number words

abbrev pub or_else : Option Text → Option Text → Option Text
or_else None other = other
or_else (Some text) other = Some text

-- the first page; only the first word may be a Roman numeral
abbrev pub first_page : List Text → Option Text
first_page [] = None
first_page (word ∷ words) = or_else (page word) (first_number words)

abbrev pub begins_with_number : List Text → Bool
begins_with_number [] = false
begins_with_number (word ∷ words) = is_numbered word

-- a page of a section such as `C-12` is no range, though its letter is a Roman numeral
abbrev pub is_sectioned : Text → List Text → Bool
is_sectioned first lasts = length first == 1 && digits first == 0 && begins_with_number lasts

-- the word at which a range ends: after a hyphen that has but one word before it, or after a page and a word such as `to`
abbrev pub last_word : List Text → List Text → Option Text
last_word [] lasts = None
last_word (word ∷ []) lasts = slice_get lasts 0
last_word (word ∷ between ∷ words) lasts = if is_some (page word) && is_range_word between then slice_get words 0 else None

abbrev pub last_in : Text → List Text → List Text → Option Text
last_in first firsts lasts = option_and_then (last_page first) (option_and_then page (last_word firsts lasts))

abbrev pub from_page : Option Text → List Text → List Text → Option Range
from_page None firsts lasts = None
from_page (Some first) firsts lasts =
    if is_sectioned first lasts then None else Some (record { first = first; last = last_in first firsts lasts })

abbrev pub is_no_hyphen : ℕ → Bool
is_no_hyphen b = not (b == 0x2d)

-- one page alone
abbrev pub only : Text → Range
only page = record { first = page; last = None }

-- `45`, `pp. 45-67`, `2344-55`, `101 to 118`, `S12-S18`, `e1234`, `xii`: the words before the first hyphen, and those after it
abbrev pub pages_in : Text → Option Range
pages_in text =
    let n = prefix_len is_no_hyphen text in
    let firsts = page_words (take n text) in
    from_page (first_page firsts) firsts (page_words (drop n text))
