-- Classes of bytes, of which a text may begin with several, have one or have no others.
use Rattle.std.specs.Prelude.{ℕ, Bool}
use Rattle.std.specs.Char.{is_ascii_alphabetic, is_ascii_digit}
use Rattle.journal_references.specs.declared.runs.Class.{Class}
use Rattle.journal_references.specs.declared.runs.Class.TheVariants.{Digit, Letter, Space, TitleByte, WordGap, DayGap, MonthGap, NameByte, RomanByte, Hyphen}
use Rattle.journal_references.specs.Words.{is_gap}
use Rattle.journal_references.specs.Dates.{is_day_gap, is_month_gap, is_name_byte}
use Rattle.journal_references.specs.Pieces.{is_hyphen, is_roman_byte}
use Rattle.journal_references.specs.Parts.{is_space, is_title_byte}

abbrev pub has : Class → ℕ → Bool
has Digit = is_ascii_digit
has Letter = is_ascii_alphabetic
has Space = is_space
has TitleByte = is_title_byte
has WordGap = is_gap
has DayGap = is_day_gap
has MonthGap = is_month_gap
has NameByte = is_name_byte
has RomanByte = is_roman_byte
has Hyphen = is_hyphen
