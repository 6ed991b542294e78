-- The characters that commands denote.
use Rattle.std.proofs.Common.{◌≡◌, ℕ, suc, ◌<◌, ◌≤◌, ◌⊎◌, inl, inr, List, [], ◌∷◌, Bool, true, false, cond, Some, length, get_or}
use Rattle.std.proofs.Common.{refl, sym, ap, ◌∙◌, subst, arith}
use Rattle.std.specs.Prelude.{◌&&◌, nat_lt, nat_le, encode_utf8}
use Rattle.std.specs.Char.{IsScalar, len_utf8}
use Rattle.std.specs.List.{list_all}
use Rattle.std.specs.Str.{bytes_eq, IsUtf8}
use Rattle.std.proofs.lemmas.Bool.{and_parts, ltb-true, leb-true, cases_lt}
use Rattle.std.proofs.lemmas.Bool.Decides.{nat_tests}
use Rattle.std.proofs.lemmas.List.{append-nil}
use Rattle.std.proofs.lemmas.Option.{same_Some}
use Rattle.std.proofs.lemmas.Slice.Eq.{bytes_eq-Decides}
use Rattle.std.proofs.lemmas.Str.{IsUtf8-encode, length-encode, len_utf8_ascii, inside_one}
use Rattle.text_model.specs.Texts.{Text}
use Rattle.latex_text.specs.Places.{is_letter}
use Rattle.latex_text.specs.Letters.{sign_accents_names, sign_accents_characters, letter_accents_names, letter_accents_characters}
use Rattle.latex_text.specs.Letters.{letters_names, letters_characters}
use Rattle.latex_text.specs.Commands.{listed, composed, letter_named}
use Rattle.latex_text.proofs.Settled.{is_quiet}

-- ---- characters beyond ASCII

-- a byte of a character of several bytes is not ASCII
high : (c k : ℕ) → k < length (encode_utf8 c) → 1 < length (encode_utf8 c) → 128 ≤ get_or (encode_utf8 c) k 0
high c k h several = by_size (cases_lt (get_or (encode_utf8 c) k 0) 128)
  where
    by_size : (get_or (encode_utf8 c) k 0 < 128) ⊎ (128 ≤ get_or (encode_utf8 c) k 0) → 128 ≤ get_or (encode_utf8 c) k 0
    by_size (inr is) = is
    by_size (inl low) =
        let same : c ≡ get_or (encode_utf8 c) k 0 = inside_one c [] (encode_utf8 c) k (sym (append-nil (encode_utf8 c))) h low in
        let ascii : c < 128 = omega (arith, same, low) in
        let one : length (encode_utf8 c) ≡ 1 = length-encode c ∙ len_utf8_ascii c ascii in
        absurd (omega (arith, one, several))

two_bytes : (c : ℕ) → 128 ≤ c → 1 < len_utf8 c
two_bytes c h = grind (arith, nat_tests)

-- no byte that begins a command, a group or a formula
high_quiet : (b : ℕ) → 128 ≤ b → is_quiet b ≡ true
high_quiet b h = grind (arith, nat_tests)

all_quiet : (s : Text) → ((k : ℕ) → k < length s → 128 ≤ get_or s k 0) → list_all is_quiet s ≡ true
all_quiet [] each = refl
all_quiet (b ∷ s) each =
    ap (λ x. x && list_all is_quiet s) (high_quiet b (each 0 (omega arith))) ∙ all_quiet s (λ k h. each (suc k) (omega (arith, h)))

-- ---- characters of the tables

-- a character whose command has that many bytes after the backslash
pub record IsCharacter (n c : ℕ) : Type 0 where
  pub utf8 : IsUtf8 (encode_utf8 c)
  pub quiet : list_all is_quiet (encode_utf8 c) ≡ true
  pub short : length (encode_utf8 c) ≤ suc n

pub is_scalar : (c : ℕ) → c < 0xd800 → IsScalar c
is_scalar c h = grind (arith, nat_tests)

abbrev is_fit : ℕ → ℕ → Bool
is_fit n c = (nat_lt c 0xd800 && nat_le 128 c) && nat_le (len_utf8 c) (suc n)

abbrev are_fit : List Text → List ℕ → Bool
are_fit [] cs = true
are_fit (n ∷ ns) [] = false
are_fit (n ∷ ns) (c ∷ cs) = is_fit (length n) c && are_fit ns cs

-- such a character that is not ASCII
pub record IsBeyond (n c : ℕ) : Type 0 where
  pub character : IsCharacter n c
  pub high : (k : ℕ) → k < length (encode_utf8 c) → 128 ≤ get_or (encode_utf8 c) k 0
  pub some : 0 < length (encode_utf8 c)

fit_character : (n c : ℕ) → is_fit n c ≡ true → IsBeyond n c
fit_character n c h =
    let parts = and_parts (nat_lt c 0xd800 && nat_le 128 c) (nat_le (len_utf8 c) (suc n)) h in
    let range = and_parts (nat_lt c 0xd800) (nat_le 128 c) parts.0 in
    let above : 128 ≤ c = leb-true 128 c range.1 in
    let several : 1 < length (encode_utf8 c) = omega (arith, length-encode c, two_bytes c above) in
    let small : len_utf8 c ≤ suc n = leb-true (len_utf8 c) (suc n) parts.1 in
    record {
      character = record {
        utf8 = IsUtf8-encode c (is_scalar c (ltb-true c 0xd800 range.0));
        quiet = all_quiet (encode_utf8 c) (λ k inside. high c k inside several);
        short = omega (arith, length-encode c, small);
      };
      high = λ k inside. high c k inside several;
      some = omega (arith, several);
    }

listed_character : (names : List Text) (cs : List ℕ) (name : Text) (c : ℕ) → are_fit names cs ≡ true → listed names cs name ≡ Some c
    → IsBeyond (length name) c
listed_character [] cs name c fit h = cc
listed_character (other ∷ names) [] name c fit h = cc
listed_character (other ∷ names) (d ∷ cs) name c fit h =
    let parts = and_parts (is_fit (length other) d) (are_fit names cs) fit in
    by_name (bytes_eq other name) refl parts.0 (listed_character names cs name c parts.1) h
  where
    by_name : (b : Bool) → bytes_eq other name ≡ b → is_fit (length other) d ≡ true → (listed names cs name ≡ Some c → IsBeyond (length name) c)
        → cond b (Some d) (listed names cs name) ≡ Some c → IsBeyond (length name) c
    by_name true e is others g =
        let same : other ≡ name = (bytes_eq-Decides other name).0 e in
        let character : d ≡ c = same_Some d c g in
        fit_character (length name) c (subst (λ n. is_fit (length n) c ≡ true) same (subst (λ k. is_fit (length other) k ≡ true) character is))
    by_name false e is others g = others g

signs_fit : are_fit sign_accents_names sign_accents_characters ≡ true
unfolding sign_accents_names sign_accents_characters
signs_fit = refl

letter_accents_fit : are_fit letter_accents_names letter_accents_characters ≡ true
unfolding letter_accents_names letter_accents_characters
letter_accents_fit = refl

letters_fit : are_fit letters_names letters_characters ≡ true
unfolding letters_names letters_characters
letters_fit = refl

pub composed_character : (accent letter c : ℕ) → composed accent letter ≡ Some c → IsBeyond 2 c
unfolding composed
composed_character accent letter c h = by_letter (is_letter accent) h
  where
    by_letter : (b : Bool) → cond b (listed letter_accents_names letter_accents_characters (accent ∷ letter ∷ []))
        (listed sign_accents_names sign_accents_characters (accent ∷ letter ∷ [])) ≡ Some c → IsBeyond 2 c
    by_letter true g = listed_character letter_accents_names letter_accents_characters (accent ∷ letter ∷ []) c letter_accents_fit g
    by_letter false g = listed_character sign_accents_names sign_accents_characters (accent ∷ letter ∷ []) c signs_fit g

pub named_character : (name : Text) (c : ℕ) → letter_named name ≡ Some c → IsBeyond (length name) c
unfolding letter_named
named_character name c h = listed_character letters_names letters_characters name c letters_fit h
