-- Bytes read as text in UTF-8.
use Rattle.std.specs.Prelude.{ℕ, ◌-◌, ◌==◌, ◌||◌, nat_lt, List, [], map, slice_index, encode_utf8_all, if◌then◌else◌}
use Rattle.std.specs.Str.{is_utf8}
use Rattle.form_urlencoded.specs.Form as form
use Rattle.text_model.specs.Texts.{Text}
use Rattle.request_encodings.specs.declared.encoding.Encoding.{Encoding}
use Rattle.request_encodings.specs.declared.encoding.Encoding.TheVariants.{Utf8, Bytes, Unknown}
use Rattle.request_encodings.specs.declared.encoding.ByteEncoding.{ByteEncoding}
use Rattle.request_encodings.specs.declared.encoding.ByteEncoding.TheVariants.{Windows1250, Windows1251, Windows1252, Iso8859_2, Iso8859_5}
use Rattle.request_encodings.specs.declared.encoding.ByteEncoding.TheVariants.{Iso8859_15, Koi8R}
use Rattle.request_encodings.specs.Tables as tables

unfoldable pub upper_half : ByteEncoding → List ℕ
upper_half Windows1250 = tables.windows_1250
upper_half Windows1251 = tables.windows_1251
upper_half Windows1252 = tables.windows_1252
upper_half Iso8859_2 = tables.iso_8859_2
upper_half Iso8859_5 = tables.iso_8859_5
upper_half Iso8859_15 = tables.iso_8859_15
upper_half Koi8R = tables.koi8_r

-- the character of a byte: up to 7f, and if the table has a space, the one with its number
abbrev pub character : ByteEncoding → ℕ → ℕ
character encoding byte =
    let listed = slice_index (upper_half encoding) (byte - 0x80) in
    if nat_lt byte 0x80 || listed == 0x20 then byte else listed

-- each byte is a character
abbrev pub decoded : ByteEncoding → Text → Text
decoded encoding bytes = encode_utf8_all (map (character encoding) bytes)

-- what is not UTF-8, though it should be, is windows-1252; of an encoding that is not known, only UTF-8 is read
abbrev pub text_in : Encoding → Text → Text
text_in Utf8 bytes = if is_utf8 bytes then bytes else decoded Windows1252 bytes
text_in (Bytes encoding) bytes = decoded encoding bytes
text_in Unknown bytes = if is_utf8 bytes then bytes else []

-- the text that a name or a value of a query stands for (URL Standard, section 5.1: `+` is a space, and `%` with two digits a byte)
abbrev pub value_in : Encoding → Text → Text
value_in encoding value = text_in encoding (form.decode value)
