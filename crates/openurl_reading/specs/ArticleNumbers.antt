-- The number of an article that has no page, such as `e1004`.
use Rattle.std.specs.Prelude.{ℕ, Bool, false, ◌==◌, ◌||◌, ◌&&◌, nat_le, length, Option, Some, None, if◌then◌else◌}
use Rattle.std.specs.Char.{is_ascii_alphanumeric, is_ascii_digit}
use Rattle.std.specs.List.{list_all, list_any}
use Rattle.std.specs.Str.{trim, bytes_eq}
use Rattle.text_model.specs.Texts.{Text}
use Rattle.openurl_reading.specs.Values.{in_ascii}

-- how many bytes it has at most
abbrev pub most_bytes : ℕ
most_bytes = 40

-- a letter, a digit, or one of `_./-`
abbrev pub is_number_byte : ℕ → Bool
is_number_byte b = is_ascii_alphanumeric b || b == 0x5f || b == 0x2e || b == 0x2f || b == 0x2d

-- of these, with a digit
abbrev pub is_article_number : Text → Bool
is_article_number text = nat_le (length text) most_bytes && list_all is_number_byte text && list_any is_ascii_digit text

-- a text that is one, without the spaces around it
abbrev pub article_of : Text → Option Text
article_of text = if is_article_number (trim text) then Some (trim text) else None

-- a value that is one
abbrev pub article_in : Text → Option Text
article_in value = article_of (in_ascii value)

-- a value is the number of the article
abbrev pub is_article : Option Text → Option Text → Bool
is_article None value = false
is_article (Some number) None = false
is_article (Some number) (Some value) = bytes_eq value number
