-- What the bytes of a form's name or value decode to, from the first one on.
use Rattle.std.proofs.Common.{◌≡◌, ◌≢◌, ℕ, ◌+◌, ◌*◌, ◌<◌, ◌≤◌, List, [], ◌∷◌, length, map, drop, get_or, ap, ◌∙◌, arith}
use Rattle.std.specs.Prelude.{All, IsUtf8}
use Rattle.std.specs.Char.{digit_value}
use Rattle.std.specs.Str.Lossy.{utf8_lossy}
use Rattle.std.proofs.lemmas.Bool.Decides.{nat_tests}
use Rattle.std.proofs.lemmas.List.Elements.{All-head, All-tail, All-weaker}
use Rattle.std.proofs.lemmas.Str.{IsUtf8-from_ascii, utf8_lossy-IsUtf8}
use Rattle.std.proofs.lemmas.Str.Ascii.{IsAscii-from_all}
use Rattle.percent_encoding.specs.Percent.{percent_decode}
use Rattle.percent_encoding.proofs.PercentLemmas.{percent_decode-nil, percent_decode_escape, KeepsFirst_from_no_escape, percent_decode_not_percent}
use Rattle.form_urlencoded.specs.Form as form
use Rattle.kev_read.specs.Pairs.{decoded}
use Rattle.kev_read.specs.Private.Ordinary.{IsOrdinary}

pub decoded_nothing : (bytes : List ℕ) → length bytes ≡ 0 → form.decode bytes ≡ []
decoded_nothing [] e = percent_decode-nil
decoded_nothing (b ∷ bytes) e = absurd (omega arith)

percent_before : (b : ℕ) → form.plus_to_space b ≡ 37 → b ≡ 37
percent_before b e = grind arith

digit_before : (b : ℕ) → digit_value (form.plus_to_space b) < 16 → digit_value b < 16
digit_before b h = grind (arith, nat_tests)

digit_stays : (b : ℕ) → digit_value b < 16 → form.plus_to_space b ≡ b
digit_stays b h = grind arith

not_plus : (b : ℕ) → b ≢ 43 → form.plus_to_space b ≡ b
not_plus b other = grind arith

-- bytes that begin with no escape
pub decoded_first : (bytes : List ℕ) → 0 < length bytes
    → (3 ≤ length bytes → get_or bytes 0 0 ≡ 37 → digit_value (get_or bytes 1 0) < 16 → digit_value (get_or bytes 2 0) < 16 → ⊥)
    → form.decode bytes ≡ form.plus_to_space (get_or bytes 0 0) ∷ form.decode (drop 1 bytes)
decoded_first [] some never = absurd (omega arith)
decoded_first (b ∷ []) some never = KeepsFirst_from_no_escape (form.plus_to_space b ∷ []) (λ long percent high low. absurd (omega (arith, long)))
decoded_first (b ∷ c ∷ []) some never =
    KeepsFirst_from_no_escape (form.plus_to_space b ∷ form.plus_to_space c ∷ []) (λ long percent high low. absurd (omega (arith, long)))
decoded_first (b ∷ c ∷ d ∷ bytes) some never =
    KeepsFirst_from_no_escape (form.plus_to_space b ∷ form.plus_to_space c ∷ form.plus_to_space d ∷ map form.plus_to_space bytes)
    (λ long percent high low. never (omega arith) (percent_before b percent) (digit_before c high) (digit_before d low))

-- and bytes that begin with one
pub decoded_escape : (bytes : List ℕ) → 3 ≤ length bytes → get_or bytes 0 0 ≡ 37 → digit_value (get_or bytes 1 0) < 16 → digit_value (get_or bytes 2 0) < 16
    → form.decode bytes ≡ (16 * digit_value (get_or bytes 1 0) + digit_value (get_or bytes 2 0)) ∷ form.decode (drop 3 bytes)
decoded_escape [] long percent high low = absurd (omega arith)
decoded_escape (b ∷ []) long percent high low = absurd (omega arith)
decoded_escape (b ∷ c ∷ []) long percent high low = absurd (omega arith)
decoded_escape (b ∷ c ∷ d ∷ bytes) long percent high low = grind (arith, digit_stays, percent_decode_escape)

-- bytes that stand for themselves
decoded_bytes : (bytes : List ℕ) → All IsOrdinary bytes → form.decode bytes ≡ bytes
decoded_bytes [] are = percent_decode-nil
decoded_bytes (b ∷ bytes) are =
    let plain = (All-head IsOrdinary b bytes are).plain in
    ap (λ x. percent_decode (x ∷ map form.plus_to_space bytes)) (not_plus b plain.0)
    ∙ (percent_decode_not_percent b (map form.plus_to_space bytes) plain.1 ∙ ap (λ x. b ∷ x) (decoded_bytes bytes (All-tail IsOrdinary b bytes are)))

pub ordinary_utf8 : (bytes : List ℕ) → All IsOrdinary bytes → IsUtf8 bytes
ordinary_utf8 bytes are = IsUtf8-from_ascii bytes (IsAscii-from_all bytes (All-weaker IsOrdinary (λ b. b < 128) (λ b is. is.ascii) bytes are))

pub decoded_ordinary : (bytes : List ℕ) → All IsOrdinary bytes → decoded bytes ≡ bytes
decoded_ordinary bytes are = ap utf8_lossy (decoded_bytes bytes are) ∙ utf8_lossy-IsUtf8 bytes (ordinary_utf8 bytes are)
