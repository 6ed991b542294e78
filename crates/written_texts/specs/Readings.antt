-- Titles, names, numbers and identifiers as sources write them, read as text.
use Rattle.std.specs.Prelude.{◌≡◌, ◌&&◌, not, nat_le, Bool, true, false, length, if◌then◌else◌}
use Rattle.std.specs.List.{list_all}
use Rattle.std.specs.Str.{bytes_eq}
use Rattle.text_model.specs.Texts.{Text, percent}
use Rattle.latex_text.specs.Places as latex
use Rattle.latex_text.specs.Texts.{without_latex}
use Rattle.title_markup.specs.Endings as markup
use Rattle.title_markup.specs.Spaces.{has_single_spaces, plain_title}
use Rattle.retraction_remarks.specs.Titles.{without_remarks}
use Rattle.written_numbers.specs.Numbers as numbers
use Rattle.written_numbers.specs.Numbers.{number_text}
use Rattle.written_numbers.specs.Identifiers as identifiers
use Rattle.written_numbers.specs.Identifiers.{identifier_text}
use Rattle.written_texts.specs.declared.readings.Role.{Role}
use Rattle.written_texts.specs.declared.readings.Role.TheVariants.{Title, Other, Number, Identifier}
use Rattle.written_texts.specs.Encoded.{decoded_again, unescaped, has, plus}

-- decoded again, and then without commands and markup
abbrev pub plain_text : Text → Text
plain_text text = plain_title (without_latex (decoded_again text))

-- what a source says of a retraction is no part of a title; numbers and identifiers are decoded again, and written in ASCII
unfoldable pub read_once : Role → Text → Text
read_once Title text = without_remarks (plain_text text)
read_once Other text = plain_text text
read_once Number text = number_text (decoded_again text)
read_once Identifier text = identifier_text (unescaped text)

-- spaces and control characters alone
abbrev pub is_blank : Text → Bool
is_blank text = list_all (λ b. nat_le b 0x20) text

-- what is read of a text once is the same as what is read of that again, not blank, and no longer than the text
abbrev pub is_kept : Text → Text → Text → Bool
is_kept text once again = bytes_eq again once && not (is_blank once) && nat_le (length once) (length text)

-- a reading that settles at once; otherwise the text stays
abbrev pub settled_by : (Text → Text) → Text → Text
settled_by read text = if is_kept text (read text) (read (read text)) then read text else text

-- the text that a source has written
unfoldable pub written : Role → Text → Text
written role text = settled_by (read_once role) text

-- ---- for laws

-- there is nothing to read: no `%`, no `+`, no byte with which markup or a command begins, and single spaces
pub record IsPlain (text : Text) : Type 0 where
  pub no_percent : has percent text ≡ false
  pub no_plus : has plus text ≡ false
  pub no_tag : markup.has markup.opening text ≡ false
  pub no_reference : markup.has markup.ampersand text ≡ false
  pub no_command : latex.has latex.backslash text ≡ false
  pub no_group : latex.has latex.opening text ≡ false
  pub single_spaces : has_single_spaces text ≡ true

-- a number in ASCII, with no `%` and no `+`
pub record IsPlainNumber (text : Text) : Type 0 where
  pub no_percent : has percent text ≡ false
  pub no_plus : has plus text ≡ false
  pub ascii : numbers.is_plain text ≡ true

-- an identifier in ASCII on one line, with no `%`
pub record IsPlainIdentifier (text : Text) : Type 0 where
  pub no_percent : has percent text ≡ false
  pub ascii : identifiers.is_plain text ≡ true
