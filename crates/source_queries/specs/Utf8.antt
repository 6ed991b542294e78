-- Queries whose names and values are UTF-8.
use Rattle.std.specs.Prelude.{◌≡◌, ◌&&◌, Bool, true, false, List, [], ◌∷◌, codes, map, Option, Some, None, if◌then◌else◌}
use Rattle.std.specs.List.{list_all}
use Rattle.std.specs.Str.{IsUtf8, is_utf8, str_eq_ignore_ascii_case}
use Rattle.form_urlencoded.specs.Form as form
use Rattle.text_model.specs.Texts.{Text}
use Rattle.kev_read.specs.Pairs.{KeyValue}
use Rattle.query_repair.specs.Repair.{repaired}
use Rattle.request_encodings.specs.declared.encoding.Encoding.{Encoding}
use Rattle.request_encodings.specs.declared.encoding.Encoding.TheVariants.{Utf8, Bytes, Unknown}
use Rattle.request_encodings.specs.Declarations.{declared_in}
use Rattle.request_encodings.specs.Texts.{value_in}

-- ---- a query that is UTF-8

abbrev pub is_utf8_pair : Text × Text → Bool
is_utf8_pair pair = is_utf8 pair.0 && is_utf8 pair.1

abbrev pub is_utf8_encoding : Encoding → Bool
is_utf8_encoding Utf8 = true
is_utf8_encoding (Bytes encoding) = false
is_utf8_encoding Unknown = false

-- this encoding is UTF-8, and so are all names and values (URL Standard, section 5.1)
unfoldable pub is_utf8_in : Encoding → Text → Bool
is_utf8_in encoding query = is_utf8_encoding encoding && list_all is_utf8_pair (form.parse query)

-- by the encoding that the query declares
abbrev pub is_utf8_query : Text → Bool
is_utf8_query query = is_utf8_in (declared_in query) query

-- ---- its pairs as UTF-8

-- `ctx_enc`, in capital or small letters (ANSI/NISO Z39.88-2004)
abbrev pub is_encoding_key : Text → Bool
is_encoding_key name = str_eq_ignore_ascii_case name (codes "ctx_enc")

-- the encoding of what is UTF-8 now, from the registry of the standard
abbrev pub utf8_uri : Text
utf8_uri = codes "info:ofi/enc:UTF-8"

abbrev pub value_for : Encoding → Text → Text → Text
value_for encoding name value = if is_encoding_key name then utf8_uri else value_in encoding value

abbrev pub pair_in : Encoding → Text × Text → Text × Text
pair_in encoding pair = (value_in encoding pair.0, value_for encoding (value_in encoding pair.0) pair.1)

abbrev pub pairs_in : Encoding → Text → List (Text × Text)
pairs_in encoding query = map (pair_in encoding) (form.raw_pairs query)

-- texts in UTF-8
abbrev pub IsUtf8Pair : Text × Text → Type 0
IsUtf8Pair pair = IsUtf8 pair.0 × IsUtf8 pair.1

-- what pairs declare: the first one that declares an encoding counts
abbrev pub first_declared : List (Text × Text) → Option Text
first_declared [] = None
first_declared (pair ∷ pairs) = if is_encoding_key pair.0 then Some pair.1 else first_declared pairs

-- no encoding but UTF-8
abbrev pub DeclareNoOther : List (Text × Text) → Type 0
DeclareNoOther pairs = (value : Text) → first_declared pairs ≡ Some value → value ≡ utf8_uri

-- as the pairs of a request are read
abbrev pub key_value : Text × Text → KeyValue
key_value pair = record { key = pair.0; value = pair.1 }

-- ---- the query

-- written again as a form, if it is not UTF-8 (URL Standard, section 5.2)
unfoldable pub utf8_query : Text → Text
utf8_query query = if is_utf8_query query then query else form.extend_pairs [] (pairs_in (declared_in query) query)

unfoldable pub source_query : Text → Text
source_query query = utf8_query (repaired query)
