-- What a reference denotes has fewer bytes than the reference.
use Rattle.std.proofs.Common.{◌≡◌, ℕ, ◌+◌, ◌<◌, ◌≤◌, ◌⊎◌, inl, inr, List, [], ◌∷◌, Bool, true, false, cond, Option, Some, None, length, drop}
use Rattle.std.proofs.Common.{refl, sym, ap, ◌∙◌, subst, arith}
use Rattle.std.specs.Prelude.{◌++◌, ◌==◌, ◌&&◌, ◌||◌, nat_lt, nat_le, encode_utf8}
use Rattle.std.specs.Char.{IsScalar, is_digit, digit_value, len_utf8}
use Rattle.std.specs.List.{list_all, slice_get}
use Rattle.std.specs.Str.{bytes_eq}
use Rattle.std.proofs.lemmas.Bool.{and_parts, ltb-true, leb-true}
use Rattle.std.proofs.lemmas.Bool.Decides.{nat_tests}
use Rattle.std.proofs.lemmas.Option.{same_Some, cond_some}
use Rattle.std.proofs.lemmas.Slice.Eq.{bytes_eq-Decides}
use Rattle.std.proofs.lemmas.Str.{length-encode, len_utf8_bounds, len_utf8_ascii}
use Rattle.text_model.specs.Texts.{Text}
use Rattle.title_markup.specs.declared.references.Base.{Base}
use Rattle.title_markup.specs.declared.references.Base.TheVariants.{Decimal, Hexadecimal}
use Rattle.title_markup.specs.Names.{latin_names, latin_characters, greek_names, greek_characters, marks_names, marks_characters}
use Rattle.title_markup.specs.References.{are_digits, value, is_character, character, number_in, numbered, listed, named, character_of}

-- a character, and how many bytes its reference has
pub record IsDenoted (n c : ℕ) : Type 0 where
  pub scalar : IsScalar c
  pub short : length (encode_utf8 c) < n

-- ---- characters

is_scalar : (c : ℕ) → is_character c ≡ true → IsScalar c
is_scalar c h = grind (arith, nat_tests)

four : (c : ℕ) → length (encode_utf8 c) ≤ 4
four c = omega (arith, length-encode c, (len_utf8_bounds c).1)

one : (c : ℕ) → c < 128 → length (encode_utf8 c) ≡ 1
one c h = length-encode c ∙ len_utf8_ascii c h

small_three : (c : ℕ) → c < 0x10000 → len_utf8 c ≤ 3
small_three c h = grind (arith, nat_tests)

three : (c : ℕ) → c < 0x10000 → length (encode_utf8 c) ≤ 3
three c h = omega (arith, length-encode c, small_three c h)

character_is : (n c : ℕ) → character n ≡ Some c → (is_character c ≡ true) × (n ≡ c)
character_is n c h =
    let parts = cond_some (is_character n) n c h in (ap is_character (sym parts.1) ∙ parts.0, parts.1)

-- ---- by number

digit_small : (d : ℕ) → is_digit d 10 ≡ true → value Decimal (d ∷ []) < 128
digit_small d h = let less : digit_value d < 10 = ltb-true (digit_value d) 10 h in omega arith

number_is : (base : Base) (t : Text) (c : ℕ) → number_in base t ≡ Some c
    → (are_digits base t ≡ true) × ((is_character c ≡ true) × (value base t ≡ c))
number_is base t c h = by_digits (are_digits base t) refl h
  where
    by_digits : (b : Bool) → are_digits base t ≡ b → cond b (character (value base t)) None ≡ Some c
        → (are_digits base t ≡ true) × ((is_character c ≡ true) × (value base t ≡ c))
    by_digits true e g = (e, character_is (value base t) c g)
    by_digits false e g = cc

decimal_denoted : (t : Text) (c : ℕ) → number_in Decimal t ≡ Some c → IsDenoted (length t + 3) c
decimal_denoted [] c h = cc
decimal_denoted (d ∷ []) c h =
    let is = number_is Decimal (d ∷ []) c h in
    let digit : is_digit d 10 ≡ true = (and_parts (is_digit d 10) true (and_parts true (is_digit d 10 && true) is.0).1).0 in
    let small : c < 128 = subst (λ n. n < 128) is.1.1 (digit_small d digit) in
    record { scalar = is_scalar c is.1.0; short = omega (arith, one c small) }
decimal_denoted (d ∷ e ∷ t) c h =
    let is = number_is Decimal (d ∷ e ∷ t) c h in
    let size : length (encode_utf8 c) ≤ 4 = four c in
    record { scalar = is_scalar c is.1.0; short = omega (arith, size) }

hexadecimal_denoted : (t : Text) (c : ℕ) → number_in Hexadecimal t ≡ Some c → IsDenoted (length t + 4) c
hexadecimal_denoted [] c h = cc
hexadecimal_denoted (d ∷ t) c h =
    let is = number_is Hexadecimal (d ∷ t) c h in
    let size : length (encode_utf8 c) ≤ 4 = four c in
    record { scalar = is_scalar c is.1.0; short = omega (arith, size) }

number_denoted : (t : Text) (c : ℕ) → numbered t ≡ Some c → IsDenoted (length t + 3) c
number_denoted [] c h = cc
number_denoted (b ∷ t) c h = by_letter (b == 0x78 || b == 0x58) h
  where
    by_letter : (x : Bool) → cond x (number_in Hexadecimal t) (number_in Decimal (b ∷ t)) ≡ Some c → IsDenoted (length (b ∷ t) + 3) c
    by_letter true g =
        let is = hexadecimal_denoted t c g in
        let less = is.short in
        record { scalar = is.scalar; short = omega (arith, less) }
    by_letter false g = decimal_denoted (b ∷ t) c g

-- ---- by name

-- all names have two letters, and all characters at most three bytes
abbrev is_long : Text → Bool
is_long name = nat_le 2 (length name)

abbrev is_small : ℕ → Bool
is_small c = is_character c && nat_lt c 0x10000

all_long : list_all is_long (latin_names ++ greek_names ++ marks_names) ≡ true
all_long = refl

all_small : list_all is_small (latin_characters ++ greek_characters ++ marks_characters) ≡ true
all_small = refl

after_small : (cs : List ℕ) → list_all is_small cs ≡ true → list_all is_small (drop 1 cs) ≡ true
after_small [] h = h
after_small (c ∷ cs) h = (and_parts (is_small c) (list_all is_small cs) h).1

first_small : (cs : List ℕ) (c : ℕ) → list_all is_small cs ≡ true → slice_get cs 0 ≡ Some c → is_small c ≡ true
first_small [] c h e = cc
first_small (d ∷ cs) c h e = ap is_small (sym (same_Some d c e)) ∙ (and_parts (is_small d) (list_all is_small cs) h).0

listed_denoted : (names : List Text) (characters : List ℕ) (name : Text) (c : ℕ) → list_all is_long names ≡ true
    → list_all is_small characters ≡ true → listed names characters name ≡ Some c → IsDenoted (length name + 2) c
listed_denoted [] characters name c long small h = cc
listed_denoted (other ∷ names) characters name c long small h =
    by_name (bytes_eq other name) refl
    (listed_denoted names (drop 1 characters) name c (and_parts (is_long other) (list_all is_long names) long).1 (after_small characters small)) h
  where
    by_name : (b : Bool) → bytes_eq other name ≡ b → (listed names (drop 1 characters) name ≡ Some c → IsDenoted (length name + 2) c)
        → cond b (slice_get characters 0) (listed names (drop 1 characters) name) ≡ Some c → IsDenoted (length name + 2) c
    by_name true e others g =
        let same : other ≡ name = (bytes_eq-Decides other name).0 e in
        let is = and_parts (is_character c) (nat_lt c 0x10000) (first_small characters c small g) in
        let two : 2 ≤ length name = subst (λ t. 2 ≤ length t) same (leb-true 2 (length other) (and_parts (is_long other) (list_all is_long names) long).0) in
        let size : length (encode_utf8 c) ≤ 3 = three c (ltb-true c 0x10000 is.1) in
        record { scalar = is_scalar c is.0; short = omega (arith, size, two) }
    by_name false e others g = others g

named_denoted : (name : Text) (c : ℕ) → named name ≡ Some c → IsDenoted (length name + 2) c
unfolding named
named_denoted name c h =
    listed_denoted (latin_names ++ greek_names ++ marks_names) (latin_characters ++ greek_characters ++ marks_characters) name c all_long all_small h

-- ---- references

pub denoted : (body : Text) (c : ℕ) → character_of body ≡ Some c → IsDenoted (length body + 2) c
denoted [] c h = cc
denoted (b ∷ t) c h = by_sign (b == 0x23) h
  where
    by_sign : (x : Bool) → cond x (numbered t) (named (b ∷ t)) ≡ Some c → IsDenoted (length (b ∷ t) + 2) c
    by_sign true g =
        let is = number_denoted t c g in
        let less = is.short in
        record { scalar = is.scalar; short = omega (arith, less) }
    by_sign false g = named_denoted (b ∷ t) c g
