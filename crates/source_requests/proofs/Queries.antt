-- Readings that are written as queries are read as they are.
use Rattle.std.proofs.Common.{◌≡◌, ◌≤◌, ◌++◌, Bool, true, false, cond, not, List, [], ◌∷◌, Option, Some, None, filter, map, length}
use Rattle.std.proofs.Common.{refl, sym, ap, subst, ◌∙◌, arith}
use Rattle.std.specs.Prelude.{codes, slice_get}
use Rattle.std.specs.List.{All}
use Rattle.std.specs.Str.{bytes_eq}
use Rattle.std.proofs.lemmas.List.{length-map, length-take}
use Rattle.std.proofs.lemmas.List.Elements.{All-head, All-tail}
use Rattle.std.proofs.lemmas.Option.{same_Some}
use Rattle.std.proofs.lemmas.Slice.Eq.{bytes_eq-Decides}
use Rattle.form_urlencoded.specs.Form as form
use Rattle.text_model.specs.Texts.{Text}
use Rattle.kev_read.specs.Pairs.{KeyValue, all_of, first_of, has_key, pairs_of}
use Rattle.source_queries.specs.Utf8 as sent
use Rattle.source_queries.specs.Utf8.{DeclareNoOther, first_declared, is_encoding_key, source_query, utf8_uri}
use Rattle.openurl_reading.specs.Canonical.{IsCanonical, IsEncoding}
use Rattle.openurl_reading.specs.Counting.{accepted, counting, is_accepted, left_out, most_pairs}
use Rattle.openurl_reading.specs.Keys.{in_small_letters, is_known, key_of, named}
use Rattle.openurl_reading.specs.Reading.{derived, normal_form, reading_of, with_derived}
use Rattle.openurl_reading.specs.Retractions.{is_retracted}
use Rattle.openurl_reading.specs.Versions.{encoding, is_other}
use Rattle.source_requests.specs.Requests.{IsUtf8Pair, as_texts, reading_of_source, written}
use Rattle.source_requests.proofs.ReadBack.{FormsReadBack, read_back, utf8_texts}

-- what the laws of the lower crates say
abbrev pub FormsStay : Type 0
FormsStay = (pairs : List (Text × Text)) → All sent.IsUtf8Pair pairs → DeclareNoOther pairs
    → source_query (form.extend_pairs [] pairs) ≡ form.extend_pairs [] pairs

-- a known key is in small letters
abbrev pub IsNamed : KeyValue → Type 0
IsNamed pair = key_of pair.key ≡ pair.key

-- ---- the encoding that pairs declare

small_key : (key : Text) → key_of key ≡ key → is_encoding_key key ≡ true → key ≡ codes "ctx_enc"
unfolding is_known
small_key key named h =
    let small : in_small_letters key ≡ codes "ctx_enc" = (bytes_eq-Decides (in_small_letters key) (codes "ctx_enc")).0 h in
    sym named ∙ ap (λ text. cond (is_known text) text key) small

encoding_key : (pair : KeyValue) → IsNamed pair → is_encoding_key pair.key ≡ has_key (codes "ctx_enc") pair
encoding_key pair named = by_test (is_encoding_key pair.key) refl (has_key (codes "ctx_enc") pair) refl
  where
    by_test : (b : Bool) → is_encoding_key pair.key ≡ b → (d : Bool) → has_key (codes "ctx_enc") pair ≡ d → b ≡ d
    by_test true e true g = refl
    by_test false e false g = refl
    by_test true e false g =
        let is : has_key (codes "ctx_enc") pair ≡ true = ap (λ key. bytes_eq key (codes "ctx_enc")) (small_key pair.key named e) in cc
    by_test false e true g =
        let is : is_encoding_key pair.key ≡ true = ap is_encoding_key ((bytes_eq-Decides pair.key (codes "ctx_enc")).0 g) in cc

first_is : (pairs : List KeyValue) → All IsNamed pairs → first_declared (map as_texts pairs) ≡ first_of pairs (codes "ctx_enc")
first_is [] all = refl
first_is (pair ∷ pairs) all =
    ap (λ b. cond b (Some pair.value) (first_declared (map as_texts pairs))) (encoding_key pair (All-head IsNamed pair pairs all))
    ∙ by_test (has_key (codes "ctx_enc") pair) (first_is pairs (All-tail IsNamed pair pairs all))
  where
    others : List KeyValue
    others = filter (has_key (codes "ctx_enc")) pairs

    by_test : (b : Bool) → first_declared (map as_texts pairs) ≡ first_of pairs (codes "ctx_enc")
        → cond b (Some pair.value) (first_declared (map as_texts pairs)) ≡ slice_get (map (λ (p : KeyValue). p.value) (cond b (pair ∷ others) others)) 0
    by_test true later = refl
    by_test false later = later

-- ---- queries of pairs

stays : FormsReadBack → FormsStay → (pairs : List KeyValue) → All IsUtf8Pair pairs → All IsNamed pairs
    → ((value : Text) → first_of pairs (codes "ctx_enc") ≡ Some value → value ≡ encoding) → pairs_of (source_query (written pairs)) ≡ pairs
stays back stay pairs utf8 named declared =
    let none : DeclareNoOther (map as_texts pairs) = λ value e. declared value (sym (first_is pairs named) ∙ e) in
    ap pairs_of (stay (map as_texts pairs) (utf8_texts pairs utf8) none) ∙ read_back back pairs utf8

-- ---- requests that are OpenURL 1.0

abbrev pub CanonicalStay : Type 0
CanonicalStay = (pairs : List KeyValue) → IsCanonical pairs → counting pairs ≡ pairs → (reading_of pairs).pairs ≡ with_derived pairs

abbrev pub KeysAreNamed : Type 0
KeysAreNamed = (pairs : List KeyValue) → All IsNamed (reading_of pairs).pairs

later_all : (P : KeyValue → Type 0) (front pairs : List KeyValue) → All P (front ++ pairs) → All P pairs
later_all P [] pairs all = all
later_all P (pair ∷ front) pairs all = later_all P front pairs (All-tail P pair (front ++ pairs) all)

first_value : (P : Text → Type 0) (values : List Text) → All P values → (value : Text) → slice_get values 0 ≡ Some value → P value
first_value P [] all value e = cc
first_value P (v ∷ values) all value e = subst P (same_Some v value e) (All-head P v values all)

fewer : (pairs : List KeyValue) → length (accepted pairs) ≤ length pairs
fewer [] = omega arith
fewer (pair ∷ pairs) = by_test (is_accepted pair) (fewer pairs)
  where
    by_test : (b : Bool) → length (accepted pairs) ≤ length pairs → length (cond b (pair ∷ accepted pairs) (accepted pairs)) ≤ length (pair ∷ pairs)
    by_test true h = omega (arith, h)
    by_test false h = omega (arith, h)

none_left_out : (pairs : List KeyValue) → counting pairs ≡ pairs → left_out pairs ≡ 0
none_left_out pairs same =
    omega (arith, fewer (map named pairs), length-map pairs named, ap length same, length-take most_pairs (accepted (map named pairs)))

pub canonical_stays : FormsReadBack → FormsStay → CanonicalStay → KeysAreNamed
    → (pairs : List KeyValue) → All IsUtf8Pair pairs → IsCanonical pairs → counting pairs ≡ pairs
    → reading_of_source (written pairs) ≡ record { pairs = with_derived pairs; left_out = 0; is_retracted = is_retracted pairs }
canonical_stays back stay canonical keys pairs utf8 is all =
    let read = canonical pairs is all in
    let named : All IsNamed pairs = later_all IsNamed (derived pairs) pairs (subst (All IsNamed) read (keys pairs)) in
    let declared = first_value IsEncoding (all_of pairs (codes "ctx_enc")) is.encoding in
    let none = none_left_out pairs all in
    let noted : is_retracted (counting pairs) ≡ is_retracted pairs = ap is_retracted all in
    ap reading_of (stays back stay pairs utf8 named declared)
    ∙ (λ i. record { pairs = read i; left_out = none i; is_retracted = noted i })

-- ---- readings

abbrev pub EncodingsAreNamed : Type 0
EncodingsAreNamed = (pairs : List KeyValue) → is_other encoding (first_of (reading_of pairs).pairs (codes "ctx_enc")) ≡ false

abbrev pub ReadOnce : Type 0
ReadOnce = (pairs : List KeyValue) → length (normal_form (counting pairs)) ≤ most_pairs
    → reading_of (reading_of pairs).pairs
    ≡ record { pairs = (reading_of pairs).pairs; left_out = 0; is_retracted = is_retracted (normal_form (counting pairs)) }

no_other : (stated : Option Text) → is_other encoding stated ≡ false → (value : Text) → stated ≡ Some value → value ≡ encoding
no_other None h value e = cc
no_other (Some one) h value e = sym (same_Some one value e) ∙ (bytes_eq-Decides one encoding).0 (by_test (bytes_eq one encoding) refl h)
  where
    by_test : (b : Bool) → bytes_eq one encoding ≡ b → not b ≡ false → bytes_eq one encoding ≡ true
    by_test true e h = e
    by_test false e h = cc

pub read_once : FormsReadBack → FormsStay → KeysAreNamed → EncodingsAreNamed → ReadOnce
    → (query : Text) → All IsUtf8Pair (reading_of_source query).pairs
    → length (normal_form (counting (pairs_of (source_query query)))) ≤ most_pairs
    → reading_of_source (written (reading_of_source query).pairs)
    ≡ record { pairs = (reading_of_source query).pairs; left_out = 0; is_retracted = is_retracted (normal_form (counting (pairs_of (source_query query)))) }
read_once back stay keys encodings once query utf8 few =
    let pairs = pairs_of (source_query query) in
    let read = (reading_of pairs).pairs in
    ap reading_of (stays back stay read utf8 (keys pairs) (no_other (first_of read (codes "ctx_enc")) (encodings pairs))) ∙ once pairs few
