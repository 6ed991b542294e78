-- The beginning of a text, compared in either case.
use Rattle.std.specs.Prelude.{Bool, length, take}
use Rattle.std.specs.Str.{str_eq_ignore_ascii_case}
use Rattle.text_model.specs.Texts.{Text}

-- the text begins with these letters, each in either case
abbrev pub begins_in_any_case : Text → Text → Bool
begins_in_any_case text beginning = str_eq_ignore_ascii_case (take (length beginning) text) beginning
