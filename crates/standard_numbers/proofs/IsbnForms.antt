-- The digits of ISBNs in a text.
use Rattle.std.proofs.Common.{◌≡◌, ℕ, suc, ◌+◌, ◌-◌, ◌<◌, ◌≤◌, [], ◌∷◌, Bool, true, false, not, ◌&&◌, ◌||◌, cond, Some, None, eqb, length, take, refl, ap}
use Rattle.std.proofs.Common.{◌∙◌, sym, arith, inl, inr}
use Rattle.std.specs.Char.{is_ascii_digit}
use Rattle.std.specs.List.{list_all}
use Rattle.std.proofs.lemmas.Bool.{and_parts, and_from, eqb-true, eqb-false, eq-eqb, le-leb, or_cases, false≢true}
use Rattle.std.proofs.lemmas.Bool.Decides.{nat_tests}
use Rattle.text_model.specs.Texts.{Text}
use Rattle.standard_numbers.specs.Spellings.{ten, is_joint, are_digits}
use Rattle.standard_numbers.specs.Isbn.{digits_end, compact}

-- the digits end after `more` bytes
pub record Ends (tens : Bool) (read left : ℕ) (t : Text) (n : ℕ) : Type 0 where
  pub more : ℕ
  pub place : n ≡ read + more
  pub enough : left ≤ more
  pub within : more ≤ length t
  pub digits : are_digits left (compact (take more t)) ≡ true
  pub tenless : tens ≡ false → list_all is_ascii_digit (compact (take more t)) ≡ true

digit_no_joint : (b : ℕ) → is_ascii_digit b ≡ true → not (is_joint b) ≡ true
digit_no_joint b h = grind (arith, nat_tests)

ten_no_joint : (b : ℕ) → eqb b ten ≡ true → not (is_joint b) ≡ true
ten_no_joint b h = grind (arith, nat_tests)

symbol_here : (tens : Bool) (left b : ℕ) → (is_ascii_digit b || (tens && eqb left 1 && eqb b ten)) ≡ true → not (is_joint b) ≡ true
symbol_here tens left b h = elim (or_cases _ _ h) [
  | inl digit ↦ digit_no_joint b digit
  | inr last ↦ ten_no_joint b (and_parts _ _ last).1
]

-- a condition less
or_without : (x y z w : Bool) → (x || (y && z && w)) ≡ true → (x || (z && w)) ≡ true
or_without true y z w h = refl
or_without false true z w h = h
or_without false false z w h = absurd (false≢true h)

counts_here : (tens : Bool) (left b : ℕ) → (is_ascii_digit b || (tens && eqb left 1 && eqb b ten)) ≡ true
    → (is_ascii_digit b || (eqb left 1 && eqb b ten)) ≡ true
counts_here tens left b h = or_without (is_ascii_digit b) tens (eqb left 1) (eqb b ten) h

digit_here : (tens : Bool) (left b : ℕ) → tens ≡ false → (is_ascii_digit b || (tens && eqb left 1 && eqb b ten)) ≡ true → is_ascii_digit b ≡ true
digit_here tens left b e h = elim (or_cases _ _ h) [
  | inl digit ↦ digit
  | inr last ↦ absurd (false≢true (sym e ∙ (and_parts _ _ (and_parts _ _ last).0).0))
]

compact_symbol : (b : ℕ) (t : Text) → not (is_joint b) ≡ true → compact (b ∷ t) ≡ b ∷ compact t
compact_symbol b t h = rw h refl

compact_joint : (b : ℕ) (t : Text) → is_joint b ≡ true → compact (b ∷ t) ≡ compact t
compact_joint b t h = rw h refl

-- the last digit
last_ends : (tens : Bool) (read left b : ℕ) (t : Text) (n : ℕ) → (is_ascii_digit b || (tens && eqb left 1 && eqb b ten)) ≡ true → left ≡ 1
    → Some (read + 1) ≡ Some n → Ends tens read left (b ∷ t) n
last_ends tens read left b t n here one h =
    let no_joint = symbol_here tens left b here in
    let e : compact (b ∷ []) ≡ b ∷ [] = compact_symbol b [] no_joint in
    record {
      more = 1;
      place = let same : read + 1 ≡ n = cc in omega arith;
      enough = omega arith;
      within = omega arith;
      digits =
          ap (are_digits left) e
          ∙ and_from _ _ (and_from _ _ (le-leb 1 left (omega arith)) (counts_here tens left b here)) (eq-eqb (left - 1) 0 (omega arith));
      tenless = λ tenless. ap (list_all is_ascii_digit) e ∙ and_from _ _ (digit_here tens left b tenless here) refl;
    }

-- a digit before the last
digit_more : (tens : Bool) (read left b : ℕ) (t : Text) (n : ℕ) → (is_ascii_digit b || (tens && eqb left 1 && eqb b ten)) ≡ true → 0 < left
    → Ends tens (read + 1) (left - 1) t n → Ends tens read left (b ∷ t) n
digit_more tens read left b t n here some is =
    let no_joint = symbol_here tens left b here in
    let e : compact (b ∷ take is.more t) ≡ b ∷ compact (take is.more t) = compact_symbol b (take is.more t) no_joint in
    record {
      more = suc is.more;
      place = omega (arith, is.place);
      enough = omega (arith, is.enough);
      within = omega (arith, is.within);
      digits =
          ap (are_digits left) e ∙ and_from _ _ (and_from _ _ (le-leb 1 left (omega arith)) (counts_here tens left b here)) is.digits;
      tenless = λ tenless. ap (list_all is_ascii_digit) e ∙ and_from _ _ (digit_here tens left b tenless here) (is.tenless tenless);
    }

-- a hyphen or space
joint_more : (tens : Bool) (read left b : ℕ) (t : Text) (n : ℕ) → is_joint b ≡ true → Ends tens (read + 1) left t n → Ends tens read left (b ∷ t) n
joint_more tens read left b t n joint is =
    let e : compact (b ∷ take is.more t) ≡ compact (take is.more t) = compact_joint b (take is.more t) joint in
    record {
      more = suc is.more;
      place = omega (arith, is.place);
      enough = omega (arith, is.enough);
      within = omega (arith, is.within);
      digits = ap (are_digits left) e ∙ is.digits;
      tenless = λ tenless. ap (list_all is_ascii_digit) e ∙ is.tenless tenless;
    }

ends_in : (tens : Bool) (read left b : ℕ) (t : Text) (n : ℕ) (may_join here one joint : Bool) → 0 < left
    → (is_ascii_digit b || (tens && eqb left 1 && eqb b ten)) ≡ here → eqb left 1 ≡ one → (may_join && is_joint b) ≡ joint
    → (digits_end tens (read + 1) (left - 1) true t ≡ Some n → 0 < left - 1 → Ends tens (read + 1) (left - 1) t n)
    → (digits_end tens (read + 1) left false t ≡ Some n → Ends tens (read + 1) left t n)
    → cond here (cond one (Some (read + 1)) (digits_end tens (read + 1) (left - 1) true t)) (cond joint (digits_end tens (read + 1) left false t) None) ≡ Some n
    → Ends tens read left (b ∷ t) n
ends_in tens read left b t n may_join true true joint some is last _ digit joined h = last_ends tens read left b t n is (eqb-true left 1 last) h
ends_in tens read left b t n may_join true false joint some is last _ digit joined h =
    let more : left ≡ 1 → ⊥ = eqb-false left 1 last in
    digit_more tens read left b t n is some (digit h (omega arith))
ends_in tens read left b t n may_join false one true some is last j digit joined h = joint_more tens read left b t n (and_parts _ _ j).1 (joined h)
ends_in tens read left b t n may_join false one false some is last j digit joined h = cc

pub digits_end_there : (tens : Bool) (t : Text) (read left : ℕ) (may_join : Bool) (n : ℕ) → 0 < left → digits_end tens read left may_join t ≡ Some n
    → Ends tens read left t n
digits_end_there tens [] read left may_join n some h = cc
digits_end_there tens (b ∷ t) read left may_join n some h =
    ends_in tens read left b t n may_join _ _ _ some refl refl refl
    (λ e more. digits_end_there tens t (read + 1) (left - 1) true n more e)
    (λ e. digits_end_there tens t (read + 1) left false n some e) h
