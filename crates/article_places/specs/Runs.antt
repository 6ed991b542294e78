-- Classes of bytes, of which a text may begin with several or have no others.
use Rattle.std.specs.Prelude.{ℕ, Bool}
use Rattle.std.specs.Char.{is_ascii_alphabetic, is_ascii_alphanumeric, is_ascii_digit}
use Rattle.article_places.specs.declared.runs.Class.{Class}
use Rattle.article_places.specs.declared.runs.Class.TheVariants.{Digit, Letter, Alphanumeric, Numeral, SmallNumeral}
use Rattle.article_places.specs.declared.runs.Class.TheVariants.{NumberByte, InPart, NotOpen, NoHyphen, Stop}
use Rattle.article_places.specs.Words.{is_not_open, is_number_byte}
use Rattle.article_places.specs.Enumerations.{is_in_part, is_roman}
use Rattle.article_places.specs.PageForms.{is_numeral, is_stop}
use Rattle.article_places.specs.Pages.{is_no_hyphen}

abbrev pub has : Class → ℕ → Bool
has Digit = is_ascii_digit
has Letter = is_ascii_alphabetic
has Alphanumeric = is_ascii_alphanumeric
has Numeral = is_numeral
has SmallNumeral = is_roman
has NumberByte = is_number_byte
has InPart = is_in_part
has NotOpen = is_not_open
has NoHyphen = is_no_hyphen
has Stop = is_stop
