-- The pairs of a request (ANSI/NISO Z39.88-2004, key/encoded-value form), and the values of a key.
use Rattle.std.specs.Prelude.{ℕ, Bool, List, map, filter, sum_by, length, Option, slice_get}
use Rattle.std.specs.Str.{bytes_eq}
use Rattle.std.specs.Str.Lossy.{utf8_lossy}
use Rattle.text_model.specs.Texts.{Text}
use Rattle.form_urlencoded.specs.Form as form

pub record KeyValue : Type 0 where
  pub key : Text
  pub value : Text

-- the text that a form's name or value encodes; what is not UTF-8 becomes U+FFFD
abbrev pub decoded : List ℕ → Text
decoded bytes = utf8_lossy (form.decode bytes)

abbrev pub decoded_pair : List ℕ × List ℕ → KeyValue
decoded_pair (name, value) = record { key = decoded name; value = decoded value }

-- the pairs of a query, in order
abbrev pub pairs_of : List ℕ → List KeyValue
pairs_of query = map decoded_pair (form.raw_pairs query)

abbrev pub has_key : Text → KeyValue → Bool
has_key key pair = bytes_eq pair.key key

-- the values of a key, in order, and the first of them
abbrev pub all_of : List KeyValue → Text → List Text
all_of pairs key = map (λ pair. pair.value) (filter (has_key key) pairs)

abbrev pub first_of : List KeyValue → Text → Option Text
first_of pairs key = slice_get (all_of pairs key) 0

-- the bytes of all values
abbrev pub value_bytes : List KeyValue → ℕ
value_bytes pairs = sum_by (λ pair. length pair.value) pairs
