-- A number in normal form is its own normal form, so a request with it has this identifier alone.
use Rattle.std.proofs.Common.{◌≡◌, ℕ, ◌+◌, ◌<◌, ◌≤◌, ◌⊎◌, inl, inr, Bool, true, false, ◌&&◌, ◌||◌, [], ◌∷◌, length, get_or}
use Rattle.std.proofs.Common.{take, map, refl, sym, ap, ◌∙◌, subst, arith, codes}
use Rattle.std.specs.Prelude.{◌==◌, All, filter, nat_le}
use Rattle.std.specs.Char.{is_ascii_digit, to_ascii_uppercase}
use Rattle.std.specs.List.{list_all}
use Rattle.std.specs.Str.{IsAscii, bytes_eq, encode_utf8_all}
use Rattle.std.proofs.lemmas.Bool.{and_parts, cases_lt, eqb-true}
use Rattle.std.proofs.lemmas.Bool.Decides.{nat_tests, Decides-by_and}
use Rattle.std.proofs.lemmas.List.{get_or-take, get_or_default, get_or_past, length-take-le}
use Rattle.std.proofs.lemmas.List.Elements.{All-weaker}
use Rattle.std.proofs.lemmas.List.Folds.{map_fixed}
use Rattle.std.proofs.lemmas.Slice.Eq.{bytes_eq-Decides}
use Rattle.std.proofs.lemmas.Str.{chars-IsAscii}
use Rattle.std.proofs.lemmas.Str.Ascii.{encodes-IsAscii}
use Rattle.text_model.specs.Texts.{Text}
use Rattle.text_model.proofs.Lists.{filter_all}
use Rattle.kbart_rows.specs.Identifiers.{counts, ids_of, normalised}
use Rattle.table_inspection.specs.Identifiers.{is_check, is_checked, is_long_isbn, is_number}
use Rattle.menu_laws.specs.OneKey.{by_issn}

-- a digit, or a letter in upper case
abbrev is_plain : ℕ → Bool
is_plain b = is_ascii_digit b || (nat_le 65 b && nat_le b 90)

abbrev plain : ℕ → Type 0
plain b = is_plain b ≡ true

-- ---- the bytes of numbers

all_plain : (t : Text) → list_all is_plain t ≡ true → All plain t
all_plain t e = (Decides-by_and is_plain plain (list_all is_plain) (λ _. (λ x. x, λ x. x)) refl (λ _ _. refl) t).0 e

digit_plain : (b : ℕ) → is_ascii_digit b ≡ true → plain b
digit_plain b e = grind (arith, nat_tests)

check_plain : (b : ℕ) → is_check b ≡ true → plain b
check_plain b e = grind (arith, nat_tests)

digits_plain : (t : Text) → list_all is_ascii_digit t ≡ true → All plain t
digits_plain t e =
    All-weaker (λ b. is_ascii_digit b ≡ true) plain digit_plain t
    ((Decides-by_and is_ascii_digit (λ b. is_ascii_digit b ≡ true) (list_all is_ascii_digit) (λ _. (λ x. x, λ x. x)) refl (λ _ _. refl) t).0 e)

checked_plain : (digits : ℕ) (id : Text) → is_checked digits id ≡ true → All plain id
checked_plain digits id is k d within =
    let parts = and_parts (length id == digits + 1) (list_all is_ascii_digit (take digits id) && is_check (get_or id digits 0)) is in
    let both = and_parts (list_all is_ascii_digit (take digits id)) (is_check (get_or id digits 0)) parts.1 in
    let long : length id ≡ digits + 1 = eqb-true (length id) (digits + 1) parts.0 in
    by_place (cases_lt k digits) long both.0 both.1
  where
    by_place : (k < digits) ⊎ (digits ≤ k) → length id ≡ digits + 1 → list_all is_ascii_digit (take digits id) ≡ true → is_check (get_or id digits 0) ≡ true
        → plain (get_or id k d)
    by_place (inl below) long first last =
        let short = length-take-le digits id (omega (arith, long)) in
        subst plain (get_or-take digits id k d below) (digits_plain (take digits id) first k d (omega (arith, short, below)))
    by_place (inr past) long first last =
        let at : digits ≡ k = omega (arith, past, within, long) in
        subst plain (ap (λ place. get_or id place 0) at ∙ get_or_default id k 0 d within) (check_plain (get_or id digits 0) last)

or_cases : (a b : Bool) (P : Type 0) → (a ≡ true → P) → (b ≡ true → P) → (a || b) ≡ true → P
or_cases true b P left right h = left refl
or_cases false b P left right h = right h

number_plain : (id : Text) → is_number id ≡ true → All plain id
number_plain id is =
    or_cases (is_checked 7 id) (is_checked 9 id || (is_long_isbn id || bytes_eq id (codes "ANY"))) (All plain id) (checked_plain 7 id)
    (or_cases (is_checked 9 id) (is_long_isbn id || bytes_eq id (codes "ANY")) (All plain id) (checked_plain 9 id)
    (or_cases (is_long_isbn id) (bytes_eq id (codes "ANY")) (All plain id)
    (λ long. digits_plain id (and_parts (list_all is_ascii_digit id) _ (and_parts (length id == 13) _ long).1).0)
    (λ any. subst (All plain) (sym ((bytes_eq-Decides id (codes "ANY")).0 any)) (all_plain (codes "ANY") refl)))) is

-- ---- the normal form

plain_ascii : (id : Text) → All plain id → IsAscii id
plain_ascii id all k = by_place (cases_lt k (length id))
  where
    plain_small : (b : ℕ) → plain b → b < 128
    plain_small b e = grind (arith, nat_tests)

    by_place : (k < length id) ⊎ (length id ≤ k) → get_or id k 0 < 128
    by_place (inl within) = plain_small (get_or id k 0) (all k 0 within)
    by_place (inr past) = rw (get_or_past id k 0 past) (omega arith)

plain_counts : (b : ℕ) → plain b → counts b ≡ true
plain_counts b e = grind (arith, nat_tests)

plain_upper : (b : ℕ) → plain b → to_ascii_uppercase b ≡ b
plain_upper b e = grind (arith, nat_tests)

plain_normal : (id : Text) → All plain id → normalised id ≡ id
plain_normal id all =
    let ascii = plain_ascii id all in
    ap (λ (t : Text). encode_utf8_all (map to_ascii_uppercase (filter counts t))) (chars-IsAscii id ascii)
    ∙ ap (λ (t : Text). encode_utf8_all (map to_ascii_uppercase t)) (filter_all counts id (All-weaker plain (λ b. counts b ≡ true) plain_counts id all))
    ∙ ap encode_utf8_all (map_fixed to_ascii_uppercase id (All-weaker plain (λ b. to_ascii_uppercase b ≡ b) plain_upper id all))
    ∙ encodes-IsAscii id ascii

-- ---- a request with the number

some_id : (id : Text) → is_number id ≡ true → normalised id ≡ id → ids_of (by_issn id) ≡ id ∷ []
some_id [] is normal = absurd (cc)
some_id (b ∷ id) is normal = rw normal refl

pub id_of_number : (id : Text) → is_number id ≡ true → ids_of (by_issn id) ≡ id ∷ []
id_of_number id is = some_id id is (plain_normal id (number_plain id is))
