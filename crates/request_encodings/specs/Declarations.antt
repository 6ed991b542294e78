-- The encoding that a query declares in `ctx_enc` (ANSI/NISO Z39.88-2004).
use Rattle.std.specs.Prelude.{ℕ, ◌==◌, nat_eq, Bool, List, [], ◌∷◌, codes, map, if◌then◌else◌}
use Rattle.std.specs.Char.{to_ascii_lowercase}
use Rattle.std.specs.List.{list_any, ends_with, slice_split}
use Rattle.text_model.specs.Texts.{Text}
use Rattle.uri_text.specs.AnyCase.{begins_in_any_case}
use Rattle.request_encodings.specs.declared.encoding.Encoding.{Encoding}
use Rattle.request_encodings.specs.declared.encoding.Encoding.TheVariants.{Utf8, Bytes, Unknown}
use Rattle.request_encodings.specs.declared.encoding.ByteEncoding.{ByteEncoding}
use Rattle.request_encodings.specs.declared.encoding.ByteEncoding.TheVariants.{Windows1250, Windows1251, Windows1252, Iso8859_2, Iso8859_5}
use Rattle.request_encodings.specs.declared.encoding.ByteEncoding.TheVariants.{Iso8859_15, Koi8R}

-- ---- the names of encodings, in small letters and with hyphens

-- how a name of UTF-8, of ASCII or of none ends
abbrev pub utf8_endings : List Text
utf8_endings =
    codes "utf-8" ∷ codes "utf8" ∷ codes "ascii" ∷ codes ":" ∷ codes "/" ∷ codes "=" ∷ codes "+" ∷ codes "%3a" ∷ codes "%2f" ∷ codes "%20" ∷ []

-- how the names of the others end; by Latin-1, browsers and vendors mean windows-1252
abbrev pub endings : ByteEncoding → List Text
endings Windows1250 = codes "1250" ∷ []
endings Windows1251 = codes "1251" ∷ []
endings Windows1252 = codes "8859-1" ∷ codes "latin-1" ∷ codes "latin1" ∷ codes "1252" ∷ []
endings Iso8859_2 = codes "8859-2" ∷ codes "latin-2" ∷ codes "latin2" ∷ []
endings Iso8859_5 = codes "8859-5" ∷ []
endings Iso8859_15 = codes "8859-15" ∷ codes "latin-9" ∷ codes "latin9" ∷ []
endings Koi8R = codes "koi8-r" ∷ codes "koi8r" ∷ []

abbrev pub byte_encodings : List ByteEncoding
byte_encodings = Windows1250 ∷ Windows1251 ∷ Windows1252 ∷ Iso8859_2 ∷ Iso8859_5 ∷ Iso8859_15 ∷ Koi8R ∷ []

abbrev pub ends_so : Text → Text → Bool
ends_so name ending = ends_with nat_eq name ending

abbrev pub has_ending : List Text → Text → Bool
has_ending all name = list_any (λ ending. ends_so name ending) all

abbrev pub first_named : List ByteEncoding → Text → Encoding
first_named [] name = Unknown
first_named (encoding ∷ encodings) name = if has_ending (endings encoding) name then Bytes encoding else first_named encodings name

abbrev pub encoding_named : Text → Encoding
encoding_named name = if has_ending utf8_endings name then Utf8 else first_named byte_encodings name

-- ---- the declaration

-- in small letters, and with hyphens
abbrev pub plain_byte : ℕ → ℕ
plain_byte b = if b == 0x5f then 0x2d else to_ascii_lowercase b

abbrev pub plain : Text → Text
plain text = map plain_byte text

abbrev pub is_declaration : Text → Bool
is_declaration part = begins_in_any_case part (codes "ctx_enc=")

-- the first pair counts; without one, UTF-8
abbrev pub declared_by : List Text → Encoding
declared_by [] = Utf8
declared_by (part ∷ parts) = if is_declaration part then encoding_named (plain part) else declared_by parts

abbrev pub declared_in : Text → Encoding
declared_in query = declared_by (slice_split (λ b. b == 0x26) query)
