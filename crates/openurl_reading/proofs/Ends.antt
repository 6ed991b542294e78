-- Where the name of a journal ends in a source.
use Rattle.std.proofs.Common.{◌≡◌, ℕ, suc, zero, ◌+◌, ◌-◌, ◌<◌, ◌≤◌, [], ◌∷◌, Bool, true, false, cond, ◌&&◌, ◌||◌, ◌⊎◌, inl, inr}
use Rattle.std.proofs.Common.{length, get_or, drop, refl, sym, ap, ◌∙◌, arith}
use Rattle.std.specs.Str.{IsUtf8, IsCharBoundary}
use Rattle.std.proofs.lemmas.Bool.Decides.{nat_tests}
use Rattle.std.proofs.lemmas.List.{get_or-drop}
use Rattle.std.proofs.lemmas.Str.{IsUtf8-take}
use Rattle.text_model.specs.Texts.{Text}
use Rattle.openurl_reading.specs.Sources.{is_sign, is_gap, ends_name, first_end, before_place}

-- ---- one place more

left_more : (t : Text) (n : ℕ) → n < length t → length t - n ≡ suc (length t - (n + 1))
left_more t n h = omega arith

pub end_here : (t : Text) (n all : ℕ) → n < length t → ends_name (drop n t) ≡ true → first_end t n (length t - n) ≡ all → n ≡ all
end_here t n all h ends so_far =
    sym (ap (first_end t n) (left_more t n h) ∙ ap (λ b. cond b n (first_end t (n + 1) (length t - (n + 1)))) ends) ∙ so_far

pub end_later : (t : Text) (n all : ℕ) → n < length t → ends_name (drop n t) ≡ false → first_end t n (length t - n) ≡ all
    → first_end t (n + 1) (length t - (n + 1)) ≡ all
end_later t n all h ends so_far =
    sym (ap (first_end t n) (left_more t n h) ∙ ap (λ b. cond b n (first_end t (n + 1) (length t - (n + 1)))) ends) ∙ so_far

pub end_last : (t : Text) (n all : ℕ) → length t ≤ n → n ≤ length t → first_end t n (length t - n) ≡ all → length t ≡ all
end_last t n all h within so_far =
    let none : length t - n ≡ 0 = omega arith in
    let same : length t ≡ n = omega arith in
    same ∙ sym (ap (first_end t n) none) ∙ so_far

-- ---- it is between characters

-- it is the end, or what is after it ends a name
abbrev IsEnd : Text → ℕ → Type 0
IsEnd t n = (n ≤ length t) × ((n ≡ length t) ⊎ (ends_name (drop n t) ≡ true))

found_end : (t : Text) (n left : ℕ) → n + left ≡ length t → IsEnd t (first_end t n left)
found_end t n zero h = (omega (arith, h), inl (omega (arith, h)))
found_end t n (suc left) h = by_test (ends_name (drop n t)) refl (found_end t (n + 1) left (omega (arith, h)))
  where
    by_test : (b : Bool) → ends_name (drop n t) ≡ b → IsEnd t (first_end t (n + 1) left) → IsEnd t (cond b n (first_end t (n + 1) left))
    by_test true e rest = (omega (arith, h), inr e)
    by_test false e rest = rest

low_of : (b : ℕ) → is_sign b || is_gap b ≡ true → b < 128
low_of b h = grind (arith, nat_tests)

low_first : (t : Text) → ends_name t ≡ true → get_or t 0 0 < 128
low_first [] h = cc
low_first (b ∷ t) h = low_of b (either (is_sign b) (is_gap b) _ h)
  where
    either : (a c d : Bool) → a || (c && d) ≡ true → a || c ≡ true
    either true c d h = refl
    either false true d h = refl
    either false false d h = h

plus_zero : (n : ℕ) → n + 0 ≡ n
plus_zero n = omega arith

pub before_utf8 : (t : Text) → IsUtf8 t → IsUtf8 (before_place t)
before_utf8 t utf8 = IsUtf8-take t end utf8 (boundary (found_end t 0 (length t) (omega arith)))
  where
    end : ℕ
    end = first_end t 0 (length t)

    low : (end ≡ length t) ⊎ (ends_name (drop end t) ≡ true) → end < length t → 128 ≤ get_or t end 0 → 192 ≤ get_or t end 0
    low (inl whole) short high = absurd (omega (arith, whole, short))
    low (inr ends) short high =
        let same : get_or (drop end t) 0 0 ≡ get_or t end 0 = get_or-drop end t 0 0 ∙ ap (λ k. get_or t k 0) (plus_zero end) in
        absurd (omega (arith, low_first (drop end t) ends, same, high))

    boundary : IsEnd t end → IsCharBoundary t end
    boundary is = (is.0, low is.1)
