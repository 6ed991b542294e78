-- The number that a text begins with, byte by byte.
use Rattle.std.proofs.Common.{◌≡◌, ℕ, ◌+◌, ◌*◌, ◌-◌, ◌^◌, ◌<◌, ◌≤◌, [], ◌∷◌, length, get_or, drop, true, false, None, ap, ◌∙◌, arith, lit<}
use Rattle.std.specs.Prelude.{nat_lt, not, ◌==◌}
use Rattle.std.specs.Bool.{then_some}
use Rattle.std.specs.Char.{is_ascii_digit}
use Rattle.std.proofs.lemmas.List.{drop_more}
use Rattle.std.proofs.lemmas.List.Sums.{take_while-cons}
use Rattle.std.proofs.lemmas.Bool.{cond-false, ne_eqb}
use Rattle.std.proofs.Math.ListN.{drop_of_length-le}
use Rattle.std.proofs.Math.Nat.{pow-le-pow_right}
use Rattle.std.proofs.lemmas.Grind.{common_steps}
use Rattle.text_model.specs.Texts.{Text}
use Rattle.text_model.specs.Number.{leading_digits, value_from, leading_number}

-- that many bytes at the beginning are digits, and this is their value
pub record HasRead (t : Text) (count value : ℕ) : Type 0 where
  pub digits : length (leading_digits t) ≡ count + length (leading_digits (drop count t))
  pub value_is : value_from 0 (leading_digits t) ≡ value_from value (leading_digits (drop count t))
  pub few : count ≤ 9
  pub small : value < 10 ^ count

digits-other : (b : ℕ) (t : Text) → is_ascii_digit b ≡ false → leading_digits (b ∷ t) ≡ []
digits-other b t e = take_while-cons is_ascii_digit b t ∙ cond-false (is_ascii_digit b) _ _ e

pub digit_low : (b : ℕ) → is_ascii_digit b ≡ true → b - 48 < 10
digit_low b e = let h : b ≤ 57 = grind arith in omega arith

next_small : (value count b : ℕ) → value < 10 ^ count → b - 48 < 10 → 10 * value + (b - 48) < 10 ^ (count + 1)
next_small value count b h d = grind (arith, common_steps)

-- one more digit
pub next_read : (t : Text) (count value : ℕ) → HasRead t count value → count < length t → is_ascii_digit (get_or t count 0) ≡ true → get_or t count 0 - 48 < 10
    → count < 9
    → HasRead t (count + 1) (10 * value + (get_or t count 0 - 48))
unfolding value_from
next_read t count value h inside digit low room =
    let b = get_or t count 0 in
    let rest : leading_digits (drop count t) ≡ b ∷ leading_digits (drop (count + 1) t) = grind (arith, drop_more) in
    record {
      digits = omega (arith, h.digits, ap length rest);
      value_is = h.value_is ∙ ap (value_from value) rest;
      few = omega arith;
      small = next_small value count b h.small low;
    }

-- no more digits follow
number_ends : (t : Text) (count value : ℕ) → HasRead t count value → leading_digits (drop count t) ≡ [] → leading_number t ≡ then_some (nat_lt 0 count) value
unfolding leading_number value_from
number_ends t count value h none = grind (arith, common_steps)

pub number_before : (t : Text) (count value : ℕ) → HasRead t count value → count < length t → is_ascii_digit (get_or t count 0) ≡ false
    → leading_number t ≡ then_some (nat_lt 0 count) value
number_before t count value h inside other =
    number_ends t count value h (ap leading_digits (drop_more t count 0 inside) ∙ digits-other (get_or t count 0) (drop (count + 1) t) other)

pub number_last : (t : Text) (count value : ℕ) → HasRead t count value → length t ≡ count → leading_number t ≡ then_some (not (length t == 0)) value
number_last t count value h end = grind (arith, number_ends, drop_of_length-le, ne_eqb)

-- another digit can come
pub room_for_digit : (t : Text) (count value : ℕ) → HasRead t count value → count < 9 → value < 10 ^ 8
room_for_digit t count value h few =
    let le : count ≤ 8 = omega arith in
    let e : 10 ^ count ≤ 10 ^ 8 = pow-le-pow_right (lit< tt) le in omega (arith, h.small)

-- ten digits are too many
pub number_too_long : (t : Text) (value : ℕ) → HasRead t 9 value → 9 < length t → is_ascii_digit (get_or t 9 0) ≡ true → leading_number t ≡ None
unfolding leading_number
number_too_long t value h inside digit = grind (arith, common_steps)
