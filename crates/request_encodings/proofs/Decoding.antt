-- Texts of bytes.
use Rattle.std.proofs.Common.{◌≡◌, ℕ, suc, ◌+◌, ◌*◌, ◌<◌, ◌≤◌, Bool, true, false, cond, [], ◌∷◌, ◌++◌, map, length, get_or, take}
use Rattle.std.proofs.Common.{refl, ap, subst, ◌∙◌, arith, length-append}
use Rattle.std.specs.Prelude.{encode_utf8, encode_utf8_all}
use Rattle.std.specs.Char.{IsScalar, len_utf8}
use Rattle.std.specs.Str.{IsUtf8, IsAscii, is_utf8}
use Rattle.std.proofs.lemmas.Bool.{cond_both}
use Rattle.std.proofs.lemmas.Bool.Decides.{nat_tests}
use Rattle.std.proofs.lemmas.List.{append-nil, map-append, take_more}
use Rattle.std.proofs.lemmas.Str.{IsUtf8-nil, IsUtf8-append, IsUtf8-encode, IsUtf8-from_ascii, IsUtf8-from_is_utf8, is_utf8-from_IsUtf8}
use Rattle.std.proofs.lemmas.Str.{encode_ascii, encodes-append, encodes-IsAscii, inside_one, length-encode}
use Rattle.text_model.specs.Texts.{Text}
use Rattle.request_encodings.specs.declared.encoding.Encoding.{Encoding}
use Rattle.request_encodings.specs.declared.encoding.Encoding.TheVariants.{Utf8, Bytes, Unknown}
use Rattle.request_encodings.specs.declared.encoding.ByteEncoding.{ByteEncoding}
use Rattle.request_encodings.specs.declared.encoding.ByteEncoding.TheVariants.{Windows1252}
use Rattle.request_encodings.specs.Texts.{character, decoded, text_in}
use Rattle.request_encodings.proofs.Characters.{small, low}

-- ---- one byte more

pub decoded_more : (encoding : ByteEncoding) (bytes : Text) (i : ℕ) → i < length bytes
    → decoded encoding (take (i + 1) bytes) ≡ decoded encoding (take i bytes) ++ encode_utf8 (character encoding (get_or bytes i 0))
decoded_more encoding bytes i within =
    ap (decoded encoding) (take_more bytes i 0 within)
    ∙ ap encode_utf8_all (map-append (character encoding) (take i bytes) (get_or bytes i 0 ∷ []))
    ∙ encodes-append (map (character encoding) (take i bytes)) (character encoding (get_or bytes i 0) ∷ [])
    ∙ ap (λ last. decoded encoding (take i bytes) ++ last) (append-nil (encode_utf8 (character encoding (get_or bytes i 0))))

-- ---- UTF-8

pub no_utf8 : (bytes : Text) (b : Bool) → is_utf8 bytes ≡ b → (IsUtf8 bytes → ⊥) → is_utf8 bytes ≡ false
no_utf8 bytes true e none = absurd (none (IsUtf8-from_is_utf8 bytes e))
no_utf8 bytes false e none = e

small_scalar : (c : ℕ) → c < 0xd800 → IsScalar c
small_scalar c h = grind (arith, nat_tests)

decoded_utf8 : (encoding : ByteEncoding) (bytes : Text) → IsUtf8 (decoded encoding bytes)
decoded_utf8 encoding [] = IsUtf8-nil
decoded_utf8 encoding (b ∷ bytes) =
    IsUtf8-append (encode_utf8 (character encoding b)) (decoded encoding bytes)
    (IsUtf8-encode (character encoding b) (small_scalar (character encoding b) (small encoding b)))
    (decoded_utf8 encoding bytes)

utf8_choice : (bytes : Text) (b : Bool) → is_utf8 bytes ≡ b → IsUtf8 (cond b bytes (decoded Windows1252 bytes))
utf8_choice bytes true e = IsUtf8-from_is_utf8 bytes e
utf8_choice bytes false e = decoded_utf8 Windows1252 bytes

unknown_choice : (bytes : Text) (b : Bool) → is_utf8 bytes ≡ b → IsUtf8 (cond b bytes [])
unknown_choice bytes true e = IsUtf8-from_is_utf8 bytes e
unknown_choice bytes false e = IsUtf8-nil

pub texts_utf8 : (encoding : Encoding) (bytes : Text) → IsUtf8 (text_in encoding bytes)
texts_utf8 Utf8 bytes = utf8_choice bytes (is_utf8 bytes) refl
texts_utf8 (Bytes encoding) bytes = decoded_utf8 encoding bytes
texts_utf8 Unknown bytes = unknown_choice bytes (is_utf8 bytes) refl

pub utf8_same : (bytes : Text) → IsUtf8 bytes → text_in Utf8 bytes ≡ bytes
utf8_same bytes is = ap (λ b. cond b bytes (decoded Windows1252 bytes)) (is_utf8-from_IsUtf8 bytes is)

-- ---- ASCII

same_characters : (encoding : ByteEncoding) (bytes : Text) → IsAscii bytes → map (character encoding) bytes ≡ bytes
same_characters encoding [] are = refl
same_characters encoding (b ∷ bytes) are =
    ap (λ c. c ∷ map (character encoding) bytes) (low encoding b (are 0))
    ∙ ap (λ cs. b ∷ cs) (same_characters encoding bytes (λ i. are (suc i)))

decoded_ascii : (encoding : ByteEncoding) (bytes : Text) → IsAscii bytes → decoded encoding bytes ≡ bytes
decoded_ascii encoding bytes are = ap encode_utf8_all (same_characters encoding bytes are) ∙ encodes-IsAscii bytes are

pub ascii_same : (encoding : Encoding) (bytes : Text) → IsAscii bytes → text_in encoding bytes ≡ bytes
ascii_same Utf8 bytes are = utf8_same bytes (IsUtf8-from_ascii bytes are)
ascii_same (Bytes encoding) bytes are = decoded_ascii encoding bytes are
ascii_same Unknown bytes are = ap (λ b. cond b bytes []) (is_utf8-from_IsUtf8 bytes (IsUtf8-from_ascii bytes are))

-- ---- how long they are

three : (c : ℕ) → c < 0xd800 → len_utf8 c ≤ 3
three c h = grind (arith, nat_tests)

decoded_short : (encoding : ByteEncoding) (bytes : Text) → length (decoded encoding bytes) ≤ 3 * length bytes
decoded_short encoding [] = omega arith
decoded_short encoding (b ∷ bytes) =
    let c : ℕ = character encoding b in
    let one : length (encode_utf8 c) ≤ 3 = omega (arith, length-encode c, three c (small encoding b)) in
    let rest = decoded_short encoding bytes in
    simp length-append (omega (arith, one, rest))

chosen_short : (b : Bool) (x y : Text) (n : ℕ) → length x ≤ n → length y ≤ n → length (cond b x y) ≤ n
chosen_short true x y n h k = h
chosen_short false x y n h k = k

pub texts_short : (encoding : Encoding) (bytes : Text) → length (text_in encoding bytes) ≤ 3 * length bytes
texts_short Utf8 bytes =
    chosen_short (is_utf8 bytes) bytes (decoded Windows1252 bytes) (3 * length bytes) (omega arith) (decoded_short Windows1252 bytes)
texts_short (Bytes encoding) bytes = decoded_short encoding bytes
texts_short Unknown bytes =
    chosen_short (is_utf8 bytes) bytes [] (3 * length bytes) (omega arith) (omega arith)

-- ---- a text in ASCII has a byte for each

some_byte : (c : ℕ) → 0 < len_utf8 c
some_byte c = grind (arith, nat_tests)

ascii_first : (c : ℕ) (rest : Text) → IsAscii (encode_utf8 c ++ rest) → c < 0x80
ascii_first c rest are =
    let some : 0 < length (encode_utf8 c) = omega (arith, length-encode c, some_byte c) in
    let first = are 0 in
    omega (arith, first, inside_one c rest (encode_utf8 c ++ rest) 0 refl some first)

decoded_ascii_short : (encoding : ByteEncoding) (bytes : Text) → IsAscii (decoded encoding bytes)
    → length (decoded encoding bytes) ≤ length bytes
decoded_ascii_short encoding [] are = omega arith
decoded_ascii_short encoding (b ∷ bytes) are =
    let c : ℕ = character encoding b in
    let rest : Text = decoded encoding bytes in
    let same : decoded encoding (b ∷ bytes) ≡ c ∷ rest = ap (λ x. x ++ rest) (encode_ascii c (ascii_first c rest are)) in
    let all : IsAscii (c ∷ rest) = subst IsAscii same are in
    omega (arith, ap length same, decoded_ascii_short encoding bytes (λ i. all (suc i)))

pub texts_ascii_short : (encoding : Encoding) (bytes : Text) → IsAscii (text_in encoding bytes)
    → length (text_in encoding bytes) ≤ length bytes
texts_ascii_short Utf8 bytes =
    cond_both (is_utf8 bytes) bytes (decoded Windows1252 bytes) (λ t. IsAscii t → length t ≤ length bytes) (λ e are. omega arith)
    (λ e. decoded_ascii_short Windows1252 bytes)
texts_ascii_short (Bytes encoding) bytes = decoded_ascii_short encoding bytes
texts_ascii_short Unknown bytes =
    cond_both (is_utf8 bytes) bytes [] (λ t. IsAscii t → length t ≤ length bytes) (λ e are. omega arith) (λ e are. omega arith)
