-- A form whose pairs are UTF-8 declares no other encoding.
use Rattle.std.proofs.Common.{◌≡◌, ℕ, ◌-◌, ◌<◌, Bool, true, false, cond, ◌||◌, List, [], ◌∷◌, ◌++◌, map, length, drop, Some, refl, sym, ap, subst, ◌∙◌}
use Rattle.std.proofs.Common.{arith, append_assoc, append-nil, length-append, ⊎_elim}
use Rattle.std.specs.Prelude.{◌==◌, codes, nat_eq}
use Rattle.std.specs.Cmp.Lexicographic.{pointwise}
use Rattle.std.specs.List.{All, list_any, slice_split}
use Rattle.std.proofs.lemmas.Bool.{cond-true, lt-ltb, ne_eqb}
use Rattle.std.proofs.lemmas.Bool.Decides.{nat_tests}
use Rattle.percent_encoding.specs.Percent.{percent_encode_byte}
use Rattle.std.proofs.lemmas.List.{drop_all, drop-append-le, map-append}
use Rattle.std.proofs.lemmas.List.Elements.{All-nil, All-cons, All-append, All-weaker}
use Rattle.std.proofs.lemmas.List.Splits.{slice_split_none, slice_split_at}
use Rattle.form_urlencoded.specs.Form as form
use Rattle.form_urlencoded.proofs.FormLemmas.{IsSerializedByte, All-byte_serialize}
use Rattle.text_model.specs.Texts.{Text}
use Rattle.request_encodings.specs.declared.encoding.Encoding.TheVariants.{Utf8}
use Rattle.request_encodings.specs.Declarations.{ends_so, first_named, byte_encodings, encoding_named, plain_byte, plain}
use Rattle.request_encodings.specs.Declarations.{is_declaration, declared_by, declared_in}
use Rattle.source_queries.specs.Utf8.{is_encoding_key, utf8_uri, first_declared, DeclareNoOther}
use Rattle.source_queries.proofs.Keys.{key_of_declaration, declaration_of_key}

-- ---- the URI of UTF-8 names UTF-8

drop_front : (x s : Text) → drop (length (x ++ s) - length s) (x ++ s) ≡ s
drop_front x s =
    let same : length (x ++ s) - length s ≡ length x = simp length-append (omega arith) in
    ap (λ n. drop n (x ++ s)) same ∙ drop-append-le (length x) x s (omega arith) ∙ ap (λ t. t ++ s) (drop_all (length x) x (omega arith))

ends_same : (x s : Text) → pointwise nat_eq s s ≡ true → ends_so (x ++ s) s ≡ true
ends_same x s h = ap (pointwise nat_eq s) (drop_front x s) ∙ h

other_endings : List Text
other_endings =
    codes "utf8" ∷ codes "ascii" ∷ codes ":" ∷ codes "/" ∷ codes "=" ∷ codes "+" ∷ codes "%3a" ∷ codes "%2f" ∷ codes "%20" ∷ []

named_by_end : (x : Text) → encoding_named (x ++ codes "utf-8") ≡ Utf8
unfolding other_endings
named_by_end x =
    let name : Text = x ++ codes "utf-8" in
    ap (λ b. cond (b || list_any (λ ending. ends_so name ending) other_endings) Utf8 (first_named byte_encodings name)) (ends_same x (codes "utf-8") refl)

uri_named : (x : Text) → encoding_named (plain (x ++ form.byte_serialize utf8_uri)) ≡ Utf8
unfolding form.byte_serialize percent_encode_byte
uri_named x =
    ap encoding_named (map-append plain_byte x (codes "info%3Aofi%2Fenc%3AUTF-8") ∙ sym (append_assoc (plain x) (codes "info%3aofi%2fenc%3a") (codes "utf-8")))
    ∙ named_by_end (plain x ++ codes "info%3aofi%2fenc%3a")

-- ---- one pair

pair_as_rest : (pair : Text × Text) → form.serialize_pair pair ≡ form.byte_serialize pair.0 ++ 61 ∷ form.byte_serialize pair.1
pair_as_rest pair = append_assoc (form.byte_serialize pair.0) (61 ∷ []) (form.byte_serialize pair.1)

declaration_is_key : (pair : Text × Text) → is_declaration (form.serialize_pair pair) ≡ is_encoding_key pair.0
declaration_is_key pair = by_test (is_encoding_key pair.0) refl (is_declaration (form.serialize_pair pair)) refl
  where
    by_test : (b : Bool) → is_encoding_key pair.0 ≡ b → (d : Bool) → is_declaration (form.serialize_pair pair) ≡ d → d ≡ b
    by_test true e true g = refl
    by_test false e false g = refl
    by_test true e false g =
        let is : is_declaration (form.serialize_pair pair) ≡ true =
        ap is_declaration (pair_as_rest pair) ∙ declaration_of_key pair.0 (form.byte_serialize pair.1) e in
        cc
    by_test false e true g =
        let key = key_of_declaration pair.0 (form.byte_serialize pair.1) (subst (λ t. is_declaration t ≡ true) (pair_as_rest pair) g) in cc

utf8_named : (name : Text) → encoding_named (plain (form.serialize_pair (name, utf8_uri))) ≡ Utf8
utf8_named name = uri_named (form.byte_serialize name ++ 61 ∷ [])

-- ---- the parts of a form

is_cut : ℕ → Bool
is_cut b = b == 0x26

no_cut_byte : (b : ℕ) → IsSerializedByte b → is_cut b ≡ false
unfolding is_cut
no_cut_byte b h = ne_eqb b 0x26 (λ e. ⊎_elim (λ kept. grind (arith, nat_tests)) (λ other. grind arith) h.allowed)

whole_pair : (pair : Text × Text) → All (λ b. is_cut b ≡ false) (form.serialize_pair pair)
unfolding is_cut
whole_pair pair =
    let P : ℕ → Type 0 = λ b. is_cut b ≡ false in
    let part = λ (t : Text). All-weaker IsSerializedByte P no_cut_byte (form.byte_serialize t) (All-byte_serialize t) in
    All-append P (form.byte_serialize pair.0 ++ 61 ∷ []) (form.byte_serialize pair.1)
    (All-append P (form.byte_serialize pair.0) (61 ∷ []) (part pair.0) (All-cons P 61 [] refl (All-nil P))) (part pair.1)

-- each further pair, after `&`
unfoldable pub later : List (Text × Text) → Text
later [] = []
later (pair ∷ pairs) = 0x26 ∷ form.serialize_pair pair ++ later pairs

pub extended : (text : Text) (pairs : List (Text × Text)) → 0 < length text → form.extend_pairs text pairs ≡ text ++ later pairs
unfolding later
extended text [] some = sym (append-nil text)
extended text (pair ∷ pairs) some =
    let longer : 0 < length (form.append_pair text pair.0 pair.1) = simp length-append (omega arith) in
    let joined : form.separator text ≡ 0x26 ∷ [] = cond-true _ _ _ (lt-ltb 0 _ some) in
    extended (form.append_pair text pair.0 pair.1) pairs longer ∙ simp (joined, append_assoc)

split_at_cut : Text → List Text
split_at_cut t = slice_split (λ b. b == 0x26) t

-- each pair is a part
pair_parts : (pair : Text × Text) (pairs : List (Text × Text)) → split_at_cut (form.serialize_pair pair ++ later pairs)
    ≡ map form.serialize_pair (pair ∷ pairs)
unfolding later is_cut split_at_cut
pair_parts pair [] = ap split_at_cut (append-nil (form.serialize_pair pair)) ∙ slice_split_none is_cut (form.serialize_pair pair) (whole_pair pair)
pair_parts pair (next ∷ pairs) =
    slice_split_at is_cut (form.serialize_pair pair) 0x26 (form.serialize_pair next ++ later pairs) (whole_pair pair) refl
    ∙ ap (λ parts. form.serialize_pair pair ∷ parts) (pair_parts next pairs)

form_parts : (pair : Text × Text) (pairs : List (Text × Text)) → split_at_cut (form.extend_pairs [] (pair ∷ pairs))
    ≡ map form.serialize_pair (pair ∷ pairs)
form_parts pair pairs =
    let some : 0 < length (form.serialize_pair pair) = simp length-append (omega arith) in
    ap split_at_cut (extended (form.serialize_pair pair) pairs some) ∙ pair_parts pair pairs

-- ---- a form

first_counts : (pairs : List (Text × Text)) → DeclareNoOther pairs → declared_by (map form.serialize_pair pairs) ≡ Utf8
first_counts [] none = refl
first_counts (pair ∷ pairs) none =
    ap (λ b. cond b (encoding_named (plain (form.serialize_pair pair))) (declared_by (map form.serialize_pair pairs))) (declaration_is_key pair)
    ∙ by_test (is_encoding_key pair.0) (first_counts pairs) none
  where
    by_test : (b : Bool) → (DeclareNoOther pairs → declared_by (map form.serialize_pair pairs) ≡ Utf8)
        → ((value : Text) → cond b (Some pair.1) (first_declared pairs) ≡ Some value → value ≡ utf8_uri)
        → cond b (encoding_named (plain (form.serialize_pair pair))) (declared_by (map form.serialize_pair pairs)) ≡ Utf8
    by_test true later none = ap (λ value. encoding_named (plain (form.serialize_pair (pair.0, value)))) (none pair.1 refl) ∙ utf8_named pair.0
    by_test false later none = later none

pub form_declared : (pairs : List (Text × Text)) → DeclareNoOther pairs → declared_in (form.extend_pairs [] pairs) ≡ Utf8
unfolding split_at_cut
form_declared [] none = refl
form_declared (pair ∷ pairs) none = ap declared_by (form_parts pair pairs) ∙ first_counts (pair ∷ pairs) none
