-- Ranges of characters.
use Rattle.std.proofs.Common.{◌≡◌, ℕ, Bool, true, false, List, [], ◌∷◌, refl, ap, ◌∙◌, arith}
use Rattle.std.specs.Prelude.{◌&&◌, ◌||◌, nat_lt, nat_le}
use Rattle.std.specs.List.{list_all}
use Rattle.std.specs.Char.{IsScalar}
use Rattle.std.proofs.lemmas.Bool.{and_parts}
use Rattle.std.proofs.lemmas.Bool.Decides.{nat_tests}
use Rattle.written_numbers.specs.Characters.{Range, is_between, is_in}

-- ---- ranges that have no character in common

abbrev pub is_outside : Range → List Range → Bool
is_outside r ranges = list_all (λ (s : Range). nat_lt r.1 s.0 || nat_lt s.1 r.0) ranges

abbrev pub are_disjoint : List Range → List Range → Bool
are_disjoint ranges others = list_all (λ (r : Range). is_outside r others) ranges

apart : (a b x y c : ℕ) → (nat_lt b x || nat_lt y a) ≡ true → (nat_le a c && nat_le c b) ≡ true → (nat_le x c && nat_le c y) ≡ false
apart a b x y c h is = grind (arith, nat_tests)

pub apart_from : (r s : Range) (c : ℕ) → (nat_lt r.1 s.0 || nat_lt s.1 r.0) ≡ true → is_between r c ≡ true → is_between s c ≡ false
apart_from r s c h is = apart r.0 r.1 s.0 s.1 c h is

pub not_in : (r : Range) (ranges : List Range) (c : ℕ) → is_outside r ranges ≡ true → is_between r c ≡ true → is_in ranges c ≡ false
not_in r [] c h is = refl
not_in r (s ∷ ranges) c h is =
    let parts = and_parts (nat_lt r.1 s.0 || nat_lt s.1 r.0) (is_outside r ranges) h in
    ap (λ b. b || is_in ranges c) (apart r.0 r.1 s.0 s.1 c parts.0 is) ∙ not_in r ranges c parts.1 is

pub not_in_both : (ranges others : List Range) (c : ℕ) → are_disjoint ranges others ≡ true → is_in ranges c ≡ true → is_in others c ≡ false
not_in_both [] others c h is = cc
not_in_both (r ∷ ranges) others c h is =
    let parts = and_parts (is_outside r others) (are_disjoint ranges others) h in
    by_first (is_between r c) refl (not_in r others c parts.0) (not_in_both ranges others c parts.1) is
  where
    by_first : (b : Bool) → is_between r c ≡ b → (is_between r c ≡ true → is_in others c ≡ false)
        → (is_in ranges c ≡ true → is_in others c ≡ false) → (b || is_in ranges c) ≡ true → is_in others c ≡ false
    by_first true e first rest g = first e
    by_first false e first rest g = rest g

-- ---- characters

abbrev pub are_scalar : List Range → Bool
are_scalar ranges = list_all (λ (r : Range). nat_lt r.1 0xd800 || nat_lt 0xdfff r.0 && nat_lt r.1 0x110000) ranges

between_scalar : (a b c : ℕ) → (nat_lt b 0xd800 || nat_lt 0xdfff a && nat_lt b 0x110000) ≡ true → (nat_le a c && nat_le c b) ≡ true → IsScalar c
between_scalar a b c h is = grind (arith, nat_tests)

pub in_scalar : (ranges : List Range) (c : ℕ) → are_scalar ranges ≡ true → is_in ranges c ≡ true → IsScalar c
in_scalar [] c h is = cc
in_scalar (r ∷ ranges) c h is =
    let parts = and_parts (nat_lt r.1 0xd800 || nat_lt 0xdfff r.0 && nat_lt r.1 0x110000) (are_scalar ranges) h in
    by_first (is_between r c) refl (between_scalar r.0 r.1 c parts.0) (in_scalar ranges c parts.1) is
  where
    by_first : (b : Bool) → is_between r c ≡ b → (is_between r c ≡ true → IsScalar c) → (is_in ranges c ≡ true → IsScalar c)
        → (b || is_in ranges c) ≡ true → IsScalar c
    by_first true e first rest g = first e
    by_first false e first rest g = rest g
