-- The numbers of prefixes, digit by digit, and their range.
use Rattle.std.proofs.Common.{◌≡◌, ℕ, ◌+◌, ◌-◌, ◌*◌, ◌<◌, ◌≤◌, Bool, true, false, Some, None, List, [], ◌∷◌, length, get_or, drop, refl, ap, ◌∙◌, sym, arith}
use Rattle.std.proofs.lemmas.Grind.{common_steps}
use Rattle.std.proofs.Common.{◌&&◌, not, ◌==◌}
use Rattle.std.specs.Prelude.{nat_le}
use Rattle.std.specs.List.{list_all}
use Rattle.std.specs.Char.{is_ascii_digit}
use Rattle.std.proofs.lemmas.Bool.{and_parts, leb-true, lt-leb, eqb-false, not-true}
use Rattle.std.proofs.lemmas.List.{drop_more}
use Rattle.std.proofs.Math.Bool.{and-false}
use Rattle.text_model.specs.Number.{value_from}
use Rattle.uri_grammar.specs.declared.variables.TheConstants.{MAX_PREFIX}
use Rattle.uri_grammar.specs.Specs.{is_max_length}
use Rattle.uri_grammar.specs.Private.Reading.{begins_above_zero, number_of}

-- more digits do not make a number smaller
value_from-least : (ds : List ℕ) (n : ℕ) → n ≤ value_from n ds
unfolding value_from
value_from-least [] n = omega arith
value_from-least (d ∷ ds) n = omega (arith, value_from-least ds (10 * n + (d - 48)))

-- a max-length denotes a number from 1 to the largest prefix
pub max_length_range : (ds : List ℕ) → is_max_length ds ≡ true → (0 < value_from 0 ds) × (value_from 0 ds ≤ MAX_PREFIX)
unfolding value_from
max_length_range [] t = cc
max_length_range (d ∷ ds) t =
    let tests = and_parts (not (d == 48)) _ t in
    let bounds = and_parts (list_all is_ascii_digit (d ∷ ds)) (nat_le (value_from 0 (d ∷ ds)) MAX_PREFIX) tests.1 in
    let digit = and_parts (is_ascii_digit d) (list_all is_ascii_digit ds) bounds.0 in
    let low : 48 ≤ d = leb-true 48 d (and_parts (nat_le 48 d) (nat_le d 57) digit.0).0 in
    (omega (arith, low, eqb-false d 48 (not-true (d == 48) tests.0), value_from-least ds (10 * 0 + (d - 48))), leb-true _ _ bounds.1)

-- ---- the invariant of the reader's loop

-- the first digits have this value, and the result depends only on the digits after them
pub record HasRead (ds : List ℕ) (count value : ℕ) : Type 0 where
  pub digits : list_all is_ascii_digit ds ≡ list_all is_ascii_digit (drop count ds)
  pub value_is : value_from 0 ds ≡ value_from value (drop count ds)
  pub small : value ≤ MAX_PREFIX

-- the digits from a place on, if there is one
from_place : (ds : List ℕ) (i d : ℕ) → i < length ds → d ≡ get_or ds i d → drop i ds ≡ d ∷ drop (i + 1) ds
from_place ds i d inside is = drop_more ds i d inside ∙ ap (λ (x : ℕ). x ∷ drop (i + 1) ds) (sym is)

value_of_next : (ds : List ℕ) (i n d : ℕ) → HasRead ds i n → i < length ds → d ≡ get_or ds i d
    → value_from 0 ds ≡ value_from (10 * n + (d - 48)) (drop (i + 1) ds)
unfolding value_from
value_of_next ds i n d h inside is = h.value_is ∙ ap (value_from n) (from_place ds i d inside is)

digits_of_next : (ds : List ℕ) (i n d : ℕ) (t : Bool) → HasRead ds i n → i < length ds → d ≡ get_or ds i d → is_ascii_digit d ≡ t
    → list_all is_ascii_digit ds ≡ (t && list_all is_ascii_digit (drop (i + 1) ds))
digits_of_next ds i n d t h inside is e =
    h.digits ∙ (ap (list_all is_ascii_digit) (from_place ds i d inside is) ∙ ap (λ (x : Bool). x && list_all is_ascii_digit (drop (i + 1) ds)) e)

pub next_read : (ds : List ℕ) (i n d : ℕ) → HasRead ds i n → i < length ds → d ≡ get_or ds i d → is_ascii_digit d ≡ true → 10 * n + (d - 48) ≤ MAX_PREFIX
    → HasRead ds (i + 1) (10 * n + (d - 48))
next_read ds i n d h inside is digit l =
    record { digits = digits_of_next ds i n d true h inside is digit; value_is = value_of_next ds i n d h inside is; small = l }

-- ---- the result of the reader

-- the three tests of a max-length
tests : List ℕ → Bool → Bool → Bool
tests ds digits small = begins_above_zero ds && (digits && small)

max_length-tests : (ds : List ℕ) → is_max_length ds ≡ tests ds (list_all is_ascii_digit ds) (nat_le (value_from 0 ds) MAX_PREFIX)
unfolding tests
max_length-tests [] = refl
max_length-tests (d ∷ ds) = refl

none_by : (ds : List ℕ) (digits small : Bool) → list_all is_ascii_digit ds ≡ digits → nat_le (value_from 0 ds) MAX_PREFIX ≡ small
    → tests ds digits small ≡ false → number_of ds ≡ None
none_by ds digits small d s e = grind (arith, max_length-tests, tests, digits)

never : (x y z : Bool) → (y && z) ≡ false → (x && (y && z)) ≡ false
never x y z e = grind (arith, common_steps)

pub too_large : (ds : List ℕ) (i n d : ℕ) → HasRead ds i n → i < length ds → d ≡ get_or ds i d → MAX_PREFIX < 10 * n + (d - 48) → number_of ds ≡ None
unfolding tests
too_large ds i n d h inside is l =
    let large : MAX_PREFIX < value_from 0 ds = omega (arith, value_of_next ds i n d h inside is, value_from-least (drop (i + 1) ds) (10 * n + (d - 48)), l) in
    none_by ds _ false refl (lt-leb (value_from 0 ds) MAX_PREFIX large)
    (never (begins_above_zero ds) (list_all is_ascii_digit ds) false (and-false (list_all is_ascii_digit ds)))

pub all_read : (ds : List ℕ) (i n : ℕ) → HasRead ds i n → length ds ≤ i → begins_above_zero ds ≡ true → number_of ds ≡ Some n
unfolding tests value_from
all_read ds i n h ended started = grind (arith, common_steps)
