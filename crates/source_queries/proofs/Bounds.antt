-- How long a query of a source is once it is UTF-8.
use Rattle.std.proofs.Common.{◌≡◌, ℕ, ◌+◌, ◌-◌, ◌*◌, ◌<◌, ◌≤◌, Bool, true, cond, List, [], ◌∷◌, ◌++◌, map, length, take, drop, filter, sum_by}
use Rattle.std.proofs.Common.{refl, sym, ap, subst, ◌∙◌, arith, length-append, length-drop, take-append-drop}
use Rattle.std.specs.Prelude.{◌==◌, codes, nat_lt}
use Rattle.std.specs.Char.{to_ascii_lowercase}
use Rattle.std.specs.List.{All, position_or_len}
use Rattle.std.specs.Str.{IsAscii}
use Rattle.std.proofs.lemmas.Bool.{cond_both, ltb-true}
use Rattle.std.proofs.lemmas.Bool.Decides.{nat_tests}
use Rattle.std.proofs.lemmas.Grind.{common_steps}
use Rattle.std.proofs.lemmas.List.{length-map}
use Rattle.std.proofs.lemmas.List.Elements.{All-nil, All-cons, All-head, All-tail, All-weaker}
use Rattle.std.proofs.lemmas.List.Sums.{AllPass-from_list_all}
use Rattle.std.proofs.lemmas.Slice.Eq.{bytes_eq-Decides}
use Rattle.std.proofs.lemmas.Str.Ascii.{IsAscii-from_all}
use Rattle.percent_encoding.specs.Percent.{percent_encode_byte}
use Rattle.percent_encoding.proofs.PercentLemmas.{length-percent_decode}
use Rattle.form_urlencoded.specs.Form as form
use Rattle.form_urlencoded.proofs.FormLemmas.{byte_serialize-nil, byte_serialize-cons}
use Rattle.text_model.specs.Texts.{Text}
use Rattle.query_repair.specs.Repair.{repaired}
use Rattle.request_encodings.specs.declared.encoding.Encoding.{Encoding}
use Rattle.request_encodings.specs.Declarations.{declared_in}
use Rattle.request_encodings.specs.Texts.{text_in, value_in}
use Rattle.source_queries.specs.Utf8.{is_utf8_query, is_encoding_key, utf8_uri, value_for, pair_in, pairs_in, utf8_query, source_query}
use Rattle.source_queries.proofs.Declared.{later, extended}

-- what the laws of the lower crates say
abbrev pub TextsAreBounded : Type 0
TextsAreBounded = (encoding : Encoding) (bytes : Text) → length (text_in encoding bytes) ≤ 3 * length bytes

abbrev pub AsciiIsBounded : Type 0
AsciiIsBounded = (encoding : Encoding) (bytes : Text) → IsAscii (text_in encoding bytes) → length (text_in encoding bytes) ≤ length bytes

abbrev pub RepairsAreBounded : Type 0
RepairsAreBounded = (query : Text) → length (repaired query) ≤ 2 * length query

-- ---- texts

serialized_byte : (b : ℕ) → length (form.serialize_byte b) ≤ 3
unfolding percent_encode_byte
serialized_byte b =
    cond_both (form.is_unchanged b) (b ∷ []) (cond (b == form.space) (form.plus_sign ∷ []) (percent_encode_byte b)) (λ t. length t ≤ 3)
    (λ e. omega arith)
    (λ e. cond_both (b == form.space) (form.plus_sign ∷ []) (percent_encode_byte b) (λ t. length t ≤ 3) (λ k. omega arith) (λ k. omega arith))

serialized : (t : Text) → length (form.byte_serialize t) ≤ 3 * length t
serialized [] = omega (arith, ap length byte_serialize-nil)
serialized (b ∷ t) =
    omega (arith, ap length (byte_serialize-cons b t), length-append (form.serialize_byte b) (form.byte_serialize t), serialized_byte b, serialized t)

decoded : (t : Text) → length (form.decode t) ≤ length t
decoded t = omega (arith, (length-percent_decode (map form.plus_to_space t)).0, length-map t form.plus_to_space)

text_short : TextsAreBounded → (encoding : Encoding) (t : Text) → length (form.byte_serialize (value_in encoding t)) ≤ 9 * length t
text_short texts encoding t =
    omega (arith, serialized (value_in encoding t), texts encoding (form.decode t), decoded t)

-- ---- the key of an encoding

low_letter : (b : ℕ) → to_ascii_lowercase b < 128 → b < 128
low_letter b h = grind (arith, nat_tests)

low_letters : (t : Text) → All (λ b. b < 128) (map to_ascii_lowercase t) → All (λ b. b < 128) t
low_letters [] all = All-nil (λ b. b < 128)
low_letters (b ∷ t) all =
    let P : ℕ → Type 0 = λ b. b < 128 in
    let first = All-head P (to_ascii_lowercase b) (map to_ascii_lowercase t) all in
    All-cons P b t (low_letter b first) (low_letters t (All-tail P (to_ascii_lowercase b) (map to_ascii_lowercase t) all))

key_letters : (name : Text) → is_encoding_key name ≡ true → map to_ascii_lowercase name ≡ codes "ctx_enc"
key_letters name h = (bytes_eq-Decides (map to_ascii_lowercase name) (codes "ctx_enc")).0 h

key_long : (name : Text) → is_encoding_key name ≡ true → length name ≡ 7
key_long name h = sym (length-map name to_ascii_lowercase) ∙ ap length (key_letters name h)

is_low : ℕ → Bool
is_low b = nat_lt b 128

low_from : (b : ℕ) → is_low b ≡ true → b < 128
unfolding is_low
low_from b h = ltb-true b 128 h

key_ascii : (name : Text) → is_encoding_key name ≡ true → IsAscii name
unfolding is_low
key_ascii name h =
    IsAscii-from_all name (low_letters name (subst (All (λ b. b < 128)) (sym (key_letters name h))
    (All-weaker (λ b. is_low b ≡ true) (λ b. b < 128) low_from (codes "ctx_enc") (AllPass-from_list_all is_low (codes "ctx_enc") refl))))

-- ---- pairs

uri_short : length (form.byte_serialize utf8_uri) ≤ 24
unfolding form.byte_serialize percent_encode_byte
uri_short = omega arith

key_short : AsciiIsBounded → (encoding : Encoding) (name : Text) → is_encoding_key (value_in encoding name) ≡ true
    → (length (form.byte_serialize (value_in encoding name)) ≤ 21) × (7 ≤ length name)
key_short ascii encoding name h =
    let text : Text = value_in encoding name in
    let seven = key_long text h in
    let bytes = ascii encoding (form.decode name) (key_ascii text h) in
    (omega (arith, serialized text, seven), omega (arith, bytes, decoded name, seven))

pair_length : (pair : Text × Text) → length (form.serialize_pair pair) ≡ length (form.byte_serialize pair.0) + 1 + length (form.byte_serialize pair.1)
pair_length pair =
    omega (
      arith,
      length-append (form.byte_serialize pair.0 ++ form.equals_sign ∷ []) (form.byte_serialize pair.1),
      length-append (form.byte_serialize pair.0) (form.equals_sign ∷ []),
    )

value_short : TextsAreBounded → AsciiIsBounded → (encoding : Encoding) (name value : Text)
    → length (form.byte_serialize (value_in encoding name)) + length (form.byte_serialize (value_for encoding (value_in encoding name) value))
    ≤ 9 * (length name + length value)
value_short texts ascii encoding name value =
    cond_both (is_encoding_key (value_in encoding name)) utf8_uri (value_in encoding value)
    (λ t. length (form.byte_serialize (value_in encoding name)) + length (form.byte_serialize t) ≤ 9 * (length name + length value))
    (λ e. let key = key_short ascii encoding name e in omega (arith, key.0, key.1, uri_short))
    (λ e. omega (arith, text_short texts encoding name, text_short texts encoding value))

split_short : (piece : Text) → length (form.split_pair piece).0 + length (form.split_pair piece).1 ≤ length piece
split_short piece =
    let k : ℕ = position_or_len (λ b. b == form.equals_sign) piece in
    omega (arith, ap length (take-append-drop k piece), length-append (take k piece) (drop k piece), length-drop k piece, length-drop (k + 1) piece)

pair_short : TextsAreBounded → AsciiIsBounded → (encoding : Encoding) (piece : Text)
    → length (form.serialize_pair (pair_in encoding (form.split_pair piece))) ≤ 9 * length piece + 1
pair_short texts ascii encoding piece =
    let pair : Text × Text = form.split_pair piece in
    omega (arith, pair_length (pair_in encoding pair), value_short texts ascii encoding pair.0 pair.1, split_short piece)

-- ---- a form

later_of : Encoding → List Text → Text
later_of encoding kept = later (map (pair_in encoding) (map form.split_pair kept))

one_more : TextsAreBounded → AsciiIsBounded → (encoding : Encoding) (piece : Text) (kept : List Text)
    → length (later_of encoding (piece ∷ kept)) ≤ 9 * length piece + 2 + length (later_of encoding kept)
unfolding later later_of
one_more texts ascii encoding piece kept =
    let pair : Text × Text = pair_in encoding (form.split_pair piece) in
    let rest : Text = later (map (pair_in encoding) (map form.split_pair kept)) in
    omega (arith, pair_short texts ascii encoding piece, length-append (form.serialize_pair pair) rest)

later_short : TextsAreBounded → AsciiIsBounded → (encoding : Encoding) (pieces : List Text)
    → length (later_of encoding (filter form.is_nonempty pieces)) ≤ 9 * sum_by length pieces + 2 * length pieces
unfolding later later_of
later_short texts ascii encoding [] = omega arith
later_short texts ascii encoding (piece ∷ pieces) =
    let kept : List Text = filter form.is_nonempty pieces in
    let rest = later_short texts ascii encoding pieces in
    let sum : sum_by length (piece ∷ pieces) ≡ length piece + sum_by length pieces = grind (arith, common_steps) in
    cond_both (form.is_nonempty piece) (piece ∷ kept) kept
    (λ some. length (later_of encoding some) ≤ 9 * sum_by length (piece ∷ pieces) + 2 * length (piece ∷ pieces))
    (λ e. omega (arith, rest, sum, one_more texts ascii encoding piece kept))
    (λ e. omega (arith, rest, sum))

record IsParted (bytes : ℕ) (pieces : List Text) : Type 0 where
  some : 0 < length pieces
  whole : sum_by length pieces + length pieces ≡ bytes + 1

split_parts : (bs : Text) → IsParted (length bs) (form.split form.ampersand bs)
unfolding form.split
split_parts [] = record { some = omega arith; whole = omega arith }
split_parts (b ∷ bs) = grind (arith, common_steps, split_parts bs)

form_length : (pairs : List (Text × Text)) → length (form.extend_pairs [] pairs) ≤ length (later pairs) - 1
unfolding later
form_length [] = omega arith
form_length (pair ∷ pairs) =
    let some : 0 < length (form.serialize_pair pair) = omega (arith, pair_length pair) in
    omega (arith, ap length (extended (form.serialize_pair pair) pairs some))

form_short : TextsAreBounded → AsciiIsBounded → (query : Text)
    → length (form.extend_pairs [] (pairs_in (declared_in query) query)) ≤ 9 * length query + 1
unfolding form.raw_pairs later_of
form_short texts ascii query =
    let pieces : List Text = form.split form.ampersand query in
    let parts = split_parts query in
    omega (arith, form_length (pairs_in (declared_in query) query), later_short texts ascii (declared_in query) pieces, parts.some, parts.whole)

-- ---- the query

utf8_short : TextsAreBounded → AsciiIsBounded → (query : Text) → length (utf8_query query) ≤ 9 * length query + 1
unfolding utf8_query
utf8_short texts ascii query =
    cond_both (is_utf8_query query) query (form.extend_pairs [] (pairs_in (declared_in query) query)) (λ t. length t ≤ 9 * length query + 1)
    (λ e. omega arith) (λ e. form_short texts ascii query)

pub source_short : TextsAreBounded → AsciiIsBounded → (query : Text) → length (source_query query) ≤ 9 * length (repaired query) + 1
unfolding source_query
source_short texts ascii query = utf8_short texts ascii (repaired query)
