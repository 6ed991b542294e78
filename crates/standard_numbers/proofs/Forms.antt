-- Digits by their count, and the bytes of numbers.
use Rattle.std.proofs.Common.{◌≡◌, ℕ, zero, suc, ◌-◌, ◌<◌, ◌≤◌, [], ◌∷◌, Bool, true, false, not, ◌&&◌, ◌||◌, eqb, length, take, map, refl, ap, subst, arith}
use Rattle.std.proofs.Common.{inl, inr}
use Rattle.std.specs.Char.{is_ascii_digit, to_ascii_uppercase}
use Rattle.std.specs.List.{All, list_all}
use Rattle.std.proofs.lemmas.Bool.{and_parts, and_from, eqb-true, leb-true, or_cases, or_left, false≢true}
use Rattle.std.proofs.lemmas.Bool.Decides.{nat_tests}
use Rattle.std.proofs.lemmas.List.Elements.{All-nil, All-cons, All-head, All-tail}
use Rattle.std.proofs.lemmas.List.Sums.{AllPass-from_list_all}
use Rattle.text_model.specs.Texts.{Text}
use Rattle.standard_numbers.specs.Spellings.{ten, is_joint, are_digits}
use Rattle.standard_numbers.specs.Isbn.{compact}

-- a digit or `X`
abbrev pub is_symbol : ℕ → Bool
is_symbol b = is_ascii_digit b || eqb b ten

abbrev pub AreSymbols : Text → Type 0
AreSymbols t = All (λ b. is_symbol b ≡ true) t

pub length_of_digits : (t : Text) (count : ℕ) → are_digits count t ≡ true → length t ≡ count
length_of_digits [] count h = let e : count ≡ 0 = eqb-true _ _ h in omega arith
length_of_digits (b ∷ t) count h =
    let a = and_parts _ _ h in
    let some : 1 ≤ count = leb-true _ _ (and_parts _ _ a.0).0 in
    let rest = length_of_digits t (count - 1) a.1 in
    omega arith

-- tests of truth values
or_weaker : (x y z : Bool) → (x || (y && z)) ≡ true → (x || z) ≡ true
or_weaker true y z h = refl
or_weaker false true z h = h
or_weaker false false z h = absurd (false≢true h)

pub digits_are_symbols : (t : Text) (count : ℕ) → are_digits count t ≡ true → AreSymbols t
digits_are_symbols [] count h = All-nil (λ b. is_symbol b ≡ true)
digits_are_symbols (b ∷ t) count h =
    let a = and_parts _ _ h in
    let one : is_symbol b ≡ true = or_weaker (is_ascii_digit b) (eqb count 1) (eqb b ten) (and_parts _ _ a.0).1 in
    All-cons (λ b. is_symbol b ≡ true) b t one (digits_are_symbols t (count - 1) a.1)

pub all_digits_are_symbols : (t : Text) → list_all is_ascii_digit t ≡ true → AreSymbols t
all_digits_are_symbols t h k d g = or_left _ _ (AllPass-from_list_all is_ascii_digit t h k d g)

-- all but the last are digits
pub front_digits : (t : Text) (n : ℕ) → are_digits (suc n) t ≡ true → list_all is_ascii_digit (take n t) ≡ true
front_digits [] n h = let e : suc n ≡ 0 = eqb-true _ _ h in absurd (omega arith)
front_digits (b ∷ t) zero h = refl
front_digits (b ∷ t) (suc n) h =
    let a = and_parts _ _ h in
    let one : is_ascii_digit b ≡ true = elim (or_cases _ _ (and_parts _ _ a.0).1) [
      | inl digit ↦ digit
      | inr last ↦ let e : suc (suc n) ≡ 1 = eqb-true _ _ (and_parts _ _ last).0 in absurd (omega arith)
    ] in
    let less : suc (suc n) - 1 ≡ suc n = omega arith in
    and_from _ _ one (front_digits t n (subst (λ k. are_digits k t ≡ true) less a.1))

-- ---- bytes

pub symbol_below : (b : ℕ) → is_symbol b ≡ true → b < 128
symbol_below b h = grind (arith, nat_tests)

pub symbol_no_joint : (b : ℕ) → is_symbol b ≡ true → not (is_joint b) ≡ true
symbol_no_joint b h = grind (arith, nat_tests)

pub symbol_capital : (b : ℕ) → is_symbol b ≡ true → to_ascii_uppercase b ≡ b
symbol_capital b h = grind (arith, nat_tests)

pub capitals_stay : (t : Text) → AreSymbols t → map to_ascii_uppercase t ≡ t
capitals_stay [] all = refl
capitals_stay (b ∷ t) all =
    let one = symbol_capital b (All-head (λ b. is_symbol b ≡ true) b t all) in
    let rest = capitals_stay t (All-tail (λ b. is_symbol b ≡ true) b t all) in
    rw one (ap (λ r. b ∷ r) rest)

pub compact_stays : (t : Text) → AreSymbols t → compact t ≡ t
compact_stays [] all = refl
compact_stays (b ∷ t) all =
    let one = symbol_no_joint b (All-head (λ b. is_symbol b ≡ true) b t all) in
    let rest = compact_stays t (All-tail (λ b. is_symbol b ≡ true) b t all) in
    rw one (ap (λ r. b ∷ r) rest)
