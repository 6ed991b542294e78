-- The normal form of an identifier, byte by byte.
use Rattle.std.specs.Prelude.{filter, map}
use Rattle.std.specs.Char.{to_ascii_uppercase}
use Rattle.text_model.specs.Texts.{Text}
use Rattle.kbart_rows.specs.Identifiers.{counts}

-- without the bytes of hyphens and spaces, and in upper case
abbrev pub normal : Text → Text
normal bytes = map to_ascii_uppercase (filter counts bytes)
