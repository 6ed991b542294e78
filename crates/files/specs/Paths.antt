-- How paths are printed.
use Rattle.std.specs.Prelude.{ℕ, encode_utf8, if◌then◌else◌}
use Rattle.std.specs.Char.{is_ascii_control}
use Rattle.text_model.specs.Texts.{Text}
use Rattle.printed_text.specs.Printed.{escape}

-- how a character of a path is printed: the control characters of ASCII, 00 to 1F and 7F, are escaped
abbrev pub path_char : ℕ → Text
path_char c = if is_ascii_control c then escape c else encode_utf8 c
