-- The values that steps read.
use Rattle.std.specs.Prelude.{ℕ, List, ◌∷◌, [], take, Option, Some, None, if◌then◌else◌}
use Rattle.std.specs.Str.{bytes_eq}
use Rattle.text_model.specs.Texts.{Text}
use Rattle.kev_read.specs.Pairs.{KeyValue, all_of}
use Rattle.written_texts.specs.declared.readings.Role.TheVariants.{Number}
use Rattle.written_texts.specs.Readings.{written}
use Rattle.openurl_reading.specs.Steps.{Change, unchanged, leading}

-- how many values of a key are read, and how many bytes of a value are searched for a number or a date
abbrev pub most_values : ℕ
most_values = 20

abbrev pub most_bytes : ℕ
most_bytes = 200

-- the first values of a key
abbrev pub values_of : List KeyValue → Text → List Text
values_of pairs key = take most_values (all_of pairs key)

-- a value as a number, a date, a volume or a page is written in ASCII
abbrev pub in_ascii : Text → Text
in_ascii value = written Number value

-- the part of it that is searched
abbrev pub searched : Text → Text
searched value = take most_bytes (in_ascii value)

-- what was found leads the values of its key, unless it does already
abbrev pub led : Option Text → Option Text → Change
led None first = unchanged
led (Some found) None = leading (found ∷ [])
led (Some found) (Some value) = if bytes_eq value found then unchanged else leading (found ∷ [])
