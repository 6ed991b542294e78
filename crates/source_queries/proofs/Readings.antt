-- What a query of a source has once it is UTF-8.
use Rattle.std.proofs.Common.{◌≡◌, Bool, true, false, cond, ◌&&◌, List, [], ◌∷◌, map, length, Some, refl, sym, ap, subst, ◌∙◌}
use Rattle.std.specs.List.{All, list_all}
use Rattle.std.specs.Str.{IsUtf8, is_utf8, chars}
use Rattle.std.specs.Str.Lossy.{utf8_lossy}
use lib.Utf8.{encode}
use Rattle.std.proofs.lemmas.Bool.{and_parts, cond_both}
use Rattle.std.proofs.lemmas.List.{length-map}
use Rattle.std.proofs.lemmas.List.Elements.{All-nil, All-cons, All-head, All-tail, All-weaker}
use Rattle.std.proofs.lemmas.Option.{same_Some}
use Rattle.std.proofs.lemmas.Str.{IsUtf8-from_is_utf8, is_utf8-from_IsUtf8, utf8_lossy-IsUtf8}
use Rattle.form_urlencoded.specs.Form as form
use Rattle.form_urlencoded.proofs.FormLemmas.{IsBytePair, round_trip}
use Rattle.text_model.specs.Texts.{Text}
use Rattle.kev_read.specs.Pairs.{decoded_pair, pairs_of}
use Rattle.query_repair.specs.Repair.{repaired}
use Rattle.query_repair.specs.Settled.{IsSettled}
use Rattle.request_encodings.specs.declared.encoding.Encoding.{Encoding}
use Rattle.request_encodings.specs.declared.encoding.Encoding.TheVariants.{Utf8, Bytes, Unknown}
use Rattle.request_encodings.specs.Declarations.{declared_in}
use Rattle.request_encodings.specs.Texts.{text_in, value_in}
use Rattle.source_queries.specs.Utf8.{is_utf8_pair, is_utf8_encoding, is_utf8_in, is_utf8_query, is_encoding_key, utf8_uri, value_for, pair_in}
use Rattle.source_queries.specs.Utf8.{pairs_in, IsUtf8Pair, first_declared, DeclareNoOther, key_value, utf8_query, source_query}
use Rattle.source_queries.proofs.Bytes.{utf8_bytes}
use Rattle.source_queries.proofs.Declared.{form_declared}

-- what the laws of the lower crates say
abbrev pub TextsAreUtf8 : Type 0
TextsAreUtf8 = (encoding : Encoding) (bytes : Text) → IsUtf8 (text_in encoding bytes)

abbrev pub SettledStay : Type 0
SettledStay = (query : Text) → IsSettled query → repaired query ≡ query

abbrev pub FormsStay : Type 0
FormsStay = (pairs : List (Text × Text)) → repaired (form.extend_pairs [] pairs) ≡ form.extend_pairs [] pairs

abbrev pub RepairedStay : Type 0
RepairedStay = (query : Text) → repaired (repaired query) ≡ repaired query

-- ---- the pairs that are written

uri_utf8 : IsUtf8 utf8_uri
unfolding is_utf8 chars encode
uri_utf8 = IsUtf8-from_is_utf8 utf8_uri refl

value_utf8 : TextsAreUtf8 → (encoding : Encoding) (name value : Text) → IsUtf8 (value_for encoding name value)
value_utf8 texts encoding name value =
    cond_both (is_encoding_key name) utf8_uri (value_in encoding value) IsUtf8 (λ e. uri_utf8) (λ e. texts encoding (form.decode value))

utf8_pair : TextsAreUtf8 → (encoding : Encoding) (pair : Text × Text) → IsUtf8Pair (pair_in encoding pair)
utf8_pair texts encoding pair = (texts encoding (form.decode pair.0), value_utf8 texts encoding (value_in encoding pair.0) pair.1)

utf8_pairs : TextsAreUtf8 → (encoding : Encoding) (raw : List (Text × Text)) → All IsUtf8Pair (map (pair_in encoding) raw)
utf8_pairs texts encoding [] = All-nil IsUtf8Pair
utf8_pairs texts encoding (pair ∷ raw) =
    All-cons IsUtf8Pair (pair_in encoding pair) (map (pair_in encoding) raw) (utf8_pair texts encoding pair) (utf8_pairs texts encoding raw)

none_declared : (encoding : Encoding) (raw : List (Text × Text)) → DeclareNoOther (map (pair_in encoding) raw)
none_declared encoding [] value e = cc
none_declared encoding (pair ∷ raw) value e = by_test (is_encoding_key (value_in encoding pair.0)) refl (none_declared encoding raw) e
  where
    by_test : (b : Bool) → is_encoding_key (value_in encoding pair.0) ≡ b → DeclareNoOther (map (pair_in encoding) raw)
        → cond b (Some (value_for encoding (value_in encoding pair.0) pair.1)) (first_declared (map (pair_in encoding) raw)) ≡ Some value
        → value ≡ utf8_uri
    by_test true is later h = sym (same_Some _ value h) ∙ ap (λ b. cond b utf8_uri (value_in encoding pair.1)) is
    by_test false is later h = later value h

-- ---- forms of them

byte_pair : (pair : Text × Text) → IsUtf8Pair pair → IsBytePair pair
byte_pair pair is = (utf8_bytes pair.0 is.0, utf8_bytes pair.1 is.1)

form_parsed : (pairs : List (Text × Text)) → All IsUtf8Pair pairs → form.parse (form.extend_pairs [] pairs) ≡ pairs
form_parsed pairs all = round_trip pairs (All-weaker IsUtf8Pair IsBytePair byte_pair pairs all)

all_utf8 : (pairs : List (Text × Text)) → All IsUtf8Pair pairs → list_all is_utf8_pair pairs ≡ true
all_utf8 [] all = refl
all_utf8 (pair ∷ pairs) all =
    let is : IsUtf8Pair pair = All-head IsUtf8Pair pair pairs all in
    ap (λ b. b && is_utf8 pair.1 && list_all is_utf8_pair pairs) (is_utf8-from_IsUtf8 pair.0 is.0)
    ∙ ap (λ b. b && list_all is_utf8_pair pairs) (is_utf8-from_IsUtf8 pair.1 is.1)
    ∙ all_utf8 pairs (All-tail IsUtf8Pair pair pairs all)

form_utf8 : (pairs : List (Text × Text)) → All IsUtf8Pair pairs → DeclareNoOther pairs → is_utf8_query (form.extend_pairs [] pairs) ≡ true
unfolding is_utf8_in
form_utf8 pairs all none =
    let text : Text = form.extend_pairs [] pairs in
    ap (λ e. is_utf8_encoding e && list_all is_utf8_pair (form.parse text)) (form_declared pairs none)
    ∙ ap (list_all is_utf8_pair) (form_parsed pairs all)
    ∙ all_utf8 pairs all

-- ---- a query that is UTF-8

utf8_same : (query : Text) → is_utf8_query query ≡ true → utf8_query query ≡ query
unfolding utf8_query
utf8_same query is = ap (λ b. cond b query (form.extend_pairs [] (pairs_in (declared_in query) query))) is

pub settled_stays : SettledStay → (query : Text) → IsSettled query → is_utf8_query query ≡ true → source_query query ≡ query
unfolding source_query
settled_stays stay query settled is = ap utf8_query (stay query settled) ∙ utf8_same query is

pub form_stays : FormsStay → (pairs : List (Text × Text)) → All IsUtf8Pair pairs → DeclareNoOther pairs
    → source_query (form.extend_pairs [] pairs) ≡ form.extend_pairs [] pairs
unfolding source_query
form_stays stay pairs all none = ap utf8_query (stay pairs) ∙ utf8_same (form.extend_pairs [] pairs) (form_utf8 pairs all none)

-- ---- any query

pub source_utf8 : TextsAreUtf8 → (query : Text) → is_utf8_query (source_query query) ≡ true
unfolding source_query utf8_query
source_utf8 texts query =
    let x : Text = repaired query in
    cond_both (is_utf8_query x) x (form.extend_pairs [] (pairs_in (declared_in x) x)) (λ t. is_utf8_query t ≡ true) (λ e. e)
    (λ e. form_utf8 (pairs_in (declared_in x) x) (utf8_pairs texts (declared_in x) (form.raw_pairs x)) (none_declared (declared_in x) (form.raw_pairs x)))

pub source_once : TextsAreUtf8 → FormsStay → RepairedStay → (query : Text) → source_query (source_query query) ≡ source_query query
unfolding source_query utf8_query
source_once texts forms once query =
    let x : Text = repaired query in
    cond_both (is_utf8_query x) x (form.extend_pairs [] (pairs_in (declared_in x) x)) (λ t. source_query t ≡ t)
    (λ e. ap utf8_query (once query) ∙ utf8_same x e)
    (λ e. form_stays forms (pairs_in (declared_in x) x) (utf8_pairs texts (declared_in x) (form.raw_pairs x))
    (none_declared (declared_in x) (form.raw_pairs x)))

-- ---- its texts

declares_utf8 : (encoding : Encoding) → is_utf8_encoding encoding ≡ true → encoding ≡ Utf8
declares_utf8 Utf8 h = refl
declares_utf8 (Bytes encoding) h = cc
declares_utf8 Unknown h = cc

pub source_declared : TextsAreUtf8 → (query : Text) → declared_in (source_query query) ≡ Utf8
unfolding is_utf8_in
source_declared texts query = declares_utf8 (declared_in (source_query query)) (and_parts _ _ (source_utf8 texts query)).0

both_utf8 : (pairs : List (Text × Text)) → list_all is_utf8_pair pairs ≡ true → All IsUtf8Pair pairs
both_utf8 [] h = All-nil IsUtf8Pair
both_utf8 (pair ∷ pairs) h =
    let first = and_parts (is_utf8_pair pair) (list_all is_utf8_pair pairs) h in
    let texts = and_parts (is_utf8 pair.0) (is_utf8 pair.1) first.0 in
    All-cons IsUtf8Pair pair pairs (IsUtf8-from_is_utf8 pair.0 texts.0, IsUtf8-from_is_utf8 pair.1 texts.1)
    (both_utf8 pairs first.1)

pub source_texts : TextsAreUtf8 → (query : Text) → All IsUtf8Pair (form.parse (source_query query))
unfolding is_utf8_in
source_texts texts query = both_utf8 (form.parse (source_query query)) (and_parts _ _ (source_utf8 texts query)).1

abbrev decode_pair : Text × Text → Text × Text
decode_pair pair = (form.decode pair.0, form.decode pair.1)

read_raw : (raw : List (Text × Text)) → All IsUtf8Pair (map decode_pair raw)
    → map decoded_pair raw ≡ map key_value (map decode_pair raw)
read_raw [] all = refl
read_raw (pair ∷ raw) all =
    let first = All-head IsUtf8Pair (decode_pair pair) (map decode_pair raw) all in
    let same : decoded_pair pair ≡ key_value (decode_pair pair) =
    ap (λ key. record { key = key; value = utf8_lossy (form.decode pair.1) }) (utf8_lossy-IsUtf8 (form.decode pair.0) first.0)
    ∙ ap (λ value. record { key = form.decode pair.0; value = value }) (utf8_lossy-IsUtf8 (form.decode pair.1) first.1) in
    ap (λ p. p ∷ map decoded_pair raw) same
    ∙ ap (λ ps. key_value (decode_pair pair) ∷ ps) (read_raw raw (All-tail IsUtf8Pair (decode_pair pair) (map decode_pair raw) all))

pub source_read : TextsAreUtf8 → (query : Text) → pairs_of (source_query query) ≡ map key_value (form.parse (source_query query))
source_read texts query = read_raw (form.raw_pairs (source_query query)) (source_texts texts query)

-- ---- its pairs

pub source_written : TextsAreUtf8 → (query : Text) → is_utf8_query (repaired query) ≡ false
    → form.parse (source_query query) ≡ pairs_in (declared_in (repaired query)) (repaired query)
unfolding source_query utf8_query
source_written texts query other =
    let x : Text = repaired query in
    ap (λ b. form.parse (cond b x (form.extend_pairs [] (pairs_in (declared_in x) x)))) other
    ∙ form_parsed (pairs_in (declared_in x) x) (utf8_pairs texts (declared_in x) (form.raw_pairs x))

raw_parsed : (query : Text) → length (form.raw_pairs query) ≡ length (form.parse query)
raw_parsed query = sym (length-map (form.raw_pairs query) decode_pair)

pub source_number : TextsAreUtf8 → (query : Text) → length (form.raw_pairs (source_query query)) ≡ length (form.raw_pairs (repaired query))
unfolding source_query utf8_query
source_number texts query =
    let x : Text = repaired query in
    let y : Text = form.extend_pairs [] (pairs_in (declared_in x) x) in
    cond_both (is_utf8_query x) x y (λ t. length (form.raw_pairs t) ≡ length (form.raw_pairs x)) (λ e. refl)
    (λ e. raw_parsed y
    ∙ ap length (form_parsed (pairs_in (declared_in x) x) (utf8_pairs texts (declared_in x) (form.raw_pairs x)))
    ∙ length-map (form.raw_pairs x) (pair_in (declared_in x)))

-- ---- a form that is read back

pub read_back : (pairs : List (Text × Text)) → All IsUtf8Pair pairs → pairs_of (form.extend_pairs [] pairs) ≡ map key_value pairs
read_back pairs all =
    let parsed = form_parsed pairs all in
    read_raw (form.raw_pairs (form.extend_pairs [] pairs)) (subst (All IsUtf8Pair) (sym parsed) all) ∙ ap (map key_value) parsed
