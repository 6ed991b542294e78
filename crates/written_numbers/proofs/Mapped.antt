-- Texts with something else written for each character.
use Rattle.std.proofs.Common.{◌≡◌, ℕ, ◌<◌, ◌≤◌, ◌⊎◌, true, List, [], ◌∷◌, ◌++◌, length, encode_utf8, encode_utf8_all, chars}
use Rattle.std.specs.Prelude.{◌&&◌}
use Rattle.std.proofs.Common.{sym, ap, ◌∙◌, subst, inl, inr, append-nil, arith}
use Rattle.std.specs.Char.{IsScalar}
use Rattle.std.specs.List.{flat_map}
use Rattle.std.specs.Str.{IsUtf8, IsAscii, all_scalars}
use Rattle.std.proofs.lemmas.Bool.{and_parts}
use Rattle.std.proofs.lemmas.List.{length-append}
use Rattle.std.proofs.lemmas.List.Concat.{flat_map-append}
use Rattle.std.proofs.lemmas.Str.{IsUtf8-nil, IsUtf8-append, IsUtf8-encode, length-encode, len_utf8_bounds, len_utf8_ascii}
use Rattle.std.proofs.lemmas.Str.{chars-append, chars-encodes, chars-IsAscii, encodes-chars, scalars-chars}
use Rattle.text_model.specs.Texts.{Text}

-- ---- characters

-- ASCII, or the character itself
abbrev pub IsShort : ℕ → ℕ → Type 0
IsShort c d = (d < 128) ⊎ (d ≡ c)

pub one_short : (c d : ℕ) → IsShort c d → length (encode_utf8 d) ≤ length (encode_utf8 c)
one_short c d (inl h) = let known = len_utf8_bounds c in omega (arith, length-encode c, length-encode d, len_utf8_ascii d h, known)
one_short c d (inr e) = subst (λ x. length (encode_utf8 x) ≤ length (encode_utf8 c)) (sym e) (omega arith)

pub one_scalar : (c d : ℕ) → IsShort c d → IsScalar c → IsScalar d
one_scalar c d (inl h) is = low d h
  where
    low : (n : ℕ) → n < 128 → IsScalar n
    low n g = grind arith
one_scalar c d (inr e) is = subst IsScalar (sym e) is

-- ---- texts

-- one character more
pub mapped_next : (f : ℕ → Text) (cs : List ℕ) (c : ℕ) → flat_map f (cs ++ c ∷ []) ≡ flat_map f cs ++ f c
mapped_next f cs c = flat_map-append f cs (c ∷ []) ∙ ap (λ u. flat_map f cs ++ u) (append-nil (f c))

short_all : (f : ℕ → Text) → ((c : ℕ) → length (f c) ≤ length (encode_utf8 c)) → (cs : List ℕ)
    → length (flat_map f cs) ≤ length (encode_utf8_all cs)
short_all f h [] = omega arith
short_all f h (c ∷ cs) =
    omega (arith, h c, short_all f h cs, length-append (f c) (flat_map f cs), length-append (encode_utf8 c) (encode_utf8_all cs))

pub mapped_short : (f : ℕ → Text) → ((c : ℕ) → length (f c) ≤ length (encode_utf8 c)) → (t : Text) → IsUtf8 t
    → length (flat_map f (chars t)) ≤ length t
mapped_short f h t utf8 = omega (arith, short_all f h (chars t), ap length (encodes-chars t utf8))

utf8_all : (f : ℕ → Text) → ((c : ℕ) → IsScalar c → IsUtf8 (f c)) → (cs : List ℕ) → all_scalars cs ≡ true → IsUtf8 (flat_map f cs)
utf8_all f h [] are = IsUtf8-nil
utf8_all f h (c ∷ cs) are =
    let parts = and_parts _ (all_scalars cs) are in IsUtf8-append (f c) (flat_map f cs) (h c parts.0) (utf8_all f h cs parts.1)

pub mapped_utf8 : (f : ℕ → Text) → ((c : ℕ) → IsScalar c → IsUtf8 (f c)) → (t : Text) → IsUtf8 t → IsUtf8 (flat_map f (chars t))
mapped_utf8 f h t utf8 = utf8_all f h (chars t) (scalars-chars t utf8)

chars_of : (c : ℕ) → IsScalar c → chars (encode_utf8 c) ≡ c ∷ []
chars_of c is = ap chars (sym (append-nil (encode_utf8 c))) ∙ chars-encodes (c ∷ []) (ap (λ b. b && true) is)

pub mapped_at : (f : ℕ → Text) (c : ℕ) (front back : Text) → IsUtf8 front → IsScalar c
    → flat_map f (chars (front ++ encode_utf8 c ++ back)) ≡ (flat_map f (chars front) ++ f c) ++ flat_map f (chars back)
mapped_at f c front back utf8 is =
    let before : chars (front ++ encode_utf8 c) ≡ chars front ++ c ∷ [] =
    chars-append front (encode_utf8 c) utf8 ∙ ap (λ u. chars front ++ u) (chars_of c is) in
    let whole : chars (front ++ encode_utf8 c ++ back) ≡ (chars front ++ c ∷ []) ++ chars back =
    chars-append (front ++ encode_utf8 c) back (IsUtf8-append front (encode_utf8 c) utf8 (IsUtf8-encode c is)) ∙ ap (λ u. u ++ chars back) before in
    ap (λ u. flat_map f u) whole ∙ flat_map-append f (chars front ++ c ∷ []) (chars back)
    ∙ ap (λ u. u ++ flat_map f (chars back))
    (flat_map-append f (chars front) (c ∷ []) ∙ ap (λ u. flat_map f (chars front) ++ u) (append-nil (f c)))

-- the same is written for two characters
pub mapped_same : (f : ℕ → Text) (c d : ℕ) (front back : Text) → IsUtf8 front → IsScalar c → IsScalar d → f c ≡ f d
    → flat_map f (chars (front ++ encode_utf8 c ++ back)) ≡ flat_map f (chars (front ++ encode_utf8 d ++ back))
mapped_same f c d front back utf8 is other same =
    mapped_at f c front back utf8 is
    ∙ ap (λ u. (flat_map f (chars front) ++ u) ++ flat_map f (chars back)) same ∙ sym (mapped_at f d front back utf8 other)

-- nothing is written for a character
pub mapped_away : (f : ℕ → Text) (c : ℕ) (front back : Text) → IsUtf8 front → IsScalar c → f c ≡ []
    → flat_map f (chars (front ++ encode_utf8 c ++ back)) ≡ flat_map f (chars (front ++ back))
mapped_away f c front back utf8 is none =
    mapped_at f c front back utf8 is
    ∙ ap (λ u. (flat_map f (chars front) ++ u) ++ flat_map f (chars back)) none
    ∙ ap (λ u. u ++ flat_map f (chars back)) (append-nil (flat_map f (chars front)))
    ∙ sym (ap (λ u. flat_map f u) (chars-append front back utf8) ∙ flat_map-append f (chars front) (chars back))

-- a text of ASCII whose characters stay
pub mapped_plain : (f : ℕ → Text) (t : Text) → IsAscii t → flat_map f t ≡ t → flat_map f (chars t) ≡ t
mapped_plain f t ascii same = ap (λ u. flat_map f u) (chars-IsAscii t ascii) ∙ same
