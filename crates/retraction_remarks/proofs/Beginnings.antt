-- Beginnings in capital or small letters, and the word `retracted`.
use Rattle.std.proofs.Common.{◌≡◌, ℕ, zero, suc, ◌+◌, ◌-◌, ◌<◌, ◌≤◌, [], ◌∷◌, Bool, true, ◌||◌, length, get_or, map, take, drop}
use Rattle.std.proofs.Common.{refl, sym, ap, ◌∙◌, subst, arith}
use Rattle.std.specs.Prelude.{codes, nat_lt, nat_le}
use Rattle.std.specs.Char.{to_ascii_lowercase}
use Rattle.std.specs.Str.{IsUtf8, IsCharBoundary}
use Rattle.std.proofs.lemmas.Bool.{or_left, or_right}
use Rattle.std.proofs.lemmas.Bool.Decides.{nat_tests}
use Rattle.std.proofs.lemmas.List.{length-map, length-take, get_or-map, get_or-take, drop_more}
use Rattle.std.proofs.lemmas.Slice.Eq.{bytes_eq-Decides}
use Rattle.std.proofs.lemmas.Str.{IsUtf8-drop, IsCharBoundary-after_ascii}
use Rattle.text_model.specs.Texts.{Text}
use Rattle.uri_text.specs.AnyCase.{begins_in_any_case}
use Rattle.retraction_remarks.specs.Titles.{has_word}

-- ---- bytes

same : (t a : Text) → begins_in_any_case t a ≡ true → map to_ascii_lowercase (take (length a) t) ≡ map to_ascii_lowercase a
same t a h = (bytes_eq-Decides (map to_ascii_lowercase (take (length a) t)) (map to_ascii_lowercase a)).0 h

pub begins_within : (t a : Text) → begins_in_any_case t a ≡ true → length a ≤ length t
begins_within t a h =
    omega (arith, ap length (same t a h), length-map (take (length a) t) to_ascii_lowercase, length-map a to_ascii_lowercase, length-take (length a) t)

byte_same : (t a : Text) (k : ℕ) → begins_in_any_case t a ≡ true → k < length a
    → to_ascii_lowercase (get_or t k 0) ≡ to_ascii_lowercase (get_or a k 0)
byte_same t a k h within =
    let short : k < length (take (length a) t) = omega (arith, begins_within t a h, length-take (length a) t) in
    ap to_ascii_lowercase (sym (get_or-take (length a) t k 0 within))
    ∙ sym (get_or-map to_ascii_lowercase (take (length a) t) k 0 0 short) ∙ ap (λ l. get_or l k 0) (same t a h)
    ∙ get_or-map to_ascii_lowercase a k 0 0 within

-- ---- where a character begins

-- ASCII, or the first byte of a longer character
abbrev pub is_first : ℕ → Bool
is_first b = nat_lt b 0x80 || nat_le 0xc0 b

first_folded : (b c : ℕ) → to_ascii_lowercase b ≡ to_ascii_lowercase c → is_first c ≡ true → is_first b ≡ true
first_folded b c e h = grind (arith, nat_tests)

ascii_folded : (b c : ℕ) → to_ascii_lowercase b ≡ to_ascii_lowercase c → c < 128 → b < 128
ascii_folded b c e h = grind (arith, nat_tests)

pub first_begins : (t a : Text) → begins_in_any_case t a ≡ true → 0 < length a → is_first (get_or a 0 0) ≡ true → is_first (get_or t 0 0) ≡ true
first_begins t a h some is = first_folded (get_or t 0 0) (get_or a 0 0) (byte_same t a 0 h some) is

pub ascii_ends : (t a : Text) → begins_in_any_case t a ≡ true → get_or a (length a - 1) 0 < 128 → IsUtf8 t → IsUtf8 (drop (length a) t)
ascii_ends t a h last utf8 = by_length (length a) refl
  where
    by_length : (n : ℕ) → length a ≡ n → IsUtf8 (drop n t)
    by_length zero e = utf8
    by_length (suc n) e =
        let within : n < length a = omega (arith, e) in
        let at : length a - 1 ≡ n = omega (arith, e) in
        let ascii : get_or t n 0 < 128 =
        ascii_folded (get_or t n 0) (get_or a n 0) (byte_same t a n h within) (subst (λ k. get_or a k 0 < 128) at last) in
        let long : n < length t = omega (arith, begins_within t a h) in
        let next : n + 1 ≡ suc n = omega arith in
        subst (λ k. IsUtf8 (drop k t)) next (IsUtf8-drop t (n + 1) utf8 (IsCharBoundary-after_ascii t n utf8 long ascii))

pub first_boundary : (t : Text) (k : ℕ) → k < length t → is_first (get_or (drop k t) 0 0) ≡ true → IsCharBoundary t k
first_boundary t k within is =
    let split : drop k t ≡ get_or t k 0 ∷ drop (k + 1) t = drop_more t k 0 within in
    let here : is_first (get_or t k 0) ≡ true = ap (λ l. is_first (get_or l 0 0)) (sym split) ∙ is in
    (omega arith, λ _ high. grind (arith, nat_tests))

-- ---- the word

pub word_here : (t : Text) → begins_in_any_case t (codes "retracted") ≡ true → has_word t ≡ true
word_here [] h = cc
word_here (b ∷ t) h = or_left _ _ h

pub word_later : (k : ℕ) (t : Text) → has_word (drop k t) ≡ true → has_word t ≡ true
word_later zero t h = h
word_later (suc k) [] h = cc
word_later (suc k) (b ∷ t) h = or_right _ _ (word_later k t h)
