-- No word of a text is joined.
use Rattle.std.proofs.Common.{◌≡◌, ℕ, ◌+◌, ◌<◌, ◌≤◌, [], ◌∷◌, Bool, true, false, cond, ◌&&◌, ◌||◌, length, get_or, take, drop, ltb, refl, sym, ap, ◌∙◌}
use Rattle.std.proofs.Common.{arith}
use Rattle.std.specs.Prelude.{nat_le}
use Rattle.std.specs.Char.{is_ascii_alphabetic, is_ascii_digit}
use Rattle.std.specs.List.{All, list_all, prefix_len, slice_split}
use Rattle.std.proofs.lemmas.Bool.{cond_both, and_parts, ltb-true, ltb-false, false≢true}
use Rattle.std.proofs.lemmas.Bool.Decides.{nat_tests}
use Rattle.std.proofs.lemmas.List.{get_or-take, get_or-drop, get_or_past}
use Rattle.std.proofs.lemmas.List.Elements.{All-nil, All-cons, All-append}
use Rattle.std.proofs.lemmas.List.Folds.{length-prefix_len}
use Rattle.std.proofs.lemmas.List.Sums.{prefix_len_is, prefix_len_passes, prefix_len_stops}
use Rattle.text_model.specs.Texts.{Text}
use Rattle.article_places.specs.Labels.{is_label, is_supplement_word}
use Rattle.article_places.specs.Words as spec
use Rattle.article_places.proofs.PartLaws.{flat_are}

-- ---- the letters and the rest of a word

front_letters : (w : Text) → spec.letters (take (spec.letters w) w) ≡ length (take (spec.letters w) w)
front_letters w =
    let n = spec.letters w in
    let front : Text = take n w in
    let long : length front ≡ n = length-prefix_len is_ascii_alphabetic w in
    prefix_len_is is_ascii_alphabetic front (length front) 0 (omega arith)
    (λ k g. let small : k < n = omega (arith, long, g) in
    ap is_ascii_alphabetic (get_or-take n w k 0 small) ∙ prefix_len_passes is_ascii_alphabetic w k 0 small)
    (λ g. absurd (omega arith))

rest_letters : (w : Text) → spec.letters w < length w → spec.letters (drop (spec.letters w) w) ≡ 0
rest_letters w more =
    let n = spec.letters w in
    prefix_len_is is_ascii_alphabetic (drop n w) 0 0 (omega arith) (λ k g. absurd (omega arith))
    (λ g. ap is_ascii_alphabetic (get_or-drop n w 0 0 ∙ ap (λ i. get_or w i 0) (omega arith)) ∙ prefix_len_stops is_ascii_alphabetic w 0 more)

-- ---- words that are not joined

abbrev pub IsOne : Text → Type 0
IsOne w = spec.is_joined w ≡ false

few_letters : (w : Text) → spec.letters w < 2 → IsOne w
few_letters w few = let no : nat_le 2 (spec.letters w) ≡ false = grind (arith, nat_tests) in rw no refl

no_digit_past : (w : Text) (n : ℕ) → length w ≤ n → is_ascii_digit (get_or w n 0) ≡ false
no_digit_past w n h = ap is_ascii_digit (get_or_past w n 0 h)

all_letters : (w : Text) → spec.letters w ≡ length w → IsOne w
all_letters w e = by_test (nat_le 2 (spec.letters w))
  where
    no : is_ascii_digit (get_or w (spec.letters w) 0) ≡ false
    no = no_digit_past w (spec.letters w) (omega (arith, e))

    by_test : (b : Bool)
        → (b && is_ascii_digit (get_or w (spec.letters w) 0) && (is_label (take (spec.letters w) w) || is_supplement_word (take (spec.letters w) w)))
        ≡ false
    by_test true = rw no refl
    by_test false = refl

joined_long : (w : Text) → spec.is_joined w ≡ true → spec.letters w < length w
joined_long w h = by_test (ltb (spec.letters w) (length w)) refl
  where
    front : (nat_le 2 (spec.letters w) && is_ascii_digit (get_or w (spec.letters w) 0)) ≡ true
    front =
        (and_parts (nat_le 2 (spec.letters w) && is_ascii_digit (get_or w (spec.letters w) 0))
        (is_label (take (spec.letters w) w) || is_supplement_word (take (spec.letters w) w)) h).0

    digit : is_ascii_digit (get_or w (spec.letters w) 0) ≡ true
    digit = (and_parts (nat_le 2 (spec.letters w)) (is_ascii_digit (get_or w (spec.letters w) 0)) front).1

    by_test : (b : Bool) → ltb (spec.letters w) (length w) ≡ b → spec.letters w < length w
    by_test true e = ltb-true (spec.letters w) (length w) e
    by_test false e =
        absurd (false≢true (sym (no_digit_past w (spec.letters w) (ltb-false (spec.letters w) (length w) e)) ∙ digit))

apart_one : (w : Text) → All IsOne (spec.apart w)
apart_one [] = All-nil IsOne
apart_one (b ∷ rest) =
    let w : Text = b ∷ rest in
    let n = spec.letters w in
    cond_both (spec.is_joined w) (take n w ∷ drop n w ∷ []) (w ∷ []) (All IsOne)
    (λ h. All-cons IsOne (take n w) (drop n w ∷ []) (all_letters (take n w) (front_letters w))
    (All-cons IsOne (drop n w) [] (few_letters (drop n w) (omega (arith, rest_letters w (joined_long w h)))) (All-nil IsOne)))
    (λ h. All-cons IsOne w [] h (All-nil IsOne))

abbrev IsAny : Text → Type 0
IsAny t = Unit {0}

words_in_one : (text : Text) → All IsOne (spec.words_in text)
words_in_one text = flat_are IsAny IsOne spec.apart (λ t _. apart_one t) (slice_split spec.is_gap text) (λ k d h. tt)

one_byte : (b : ℕ) → IsOne (b ∷ [])
one_byte b = few_letters (b ∷ []) (by_test (is_ascii_alphabetic b))
  where
    by_test : (c : Bool) → cond c (1 + 0) 0 < 2
    by_test true = omega arith
    by_test false = omega arith

bracketed_one : (text : Text) → All IsOne (spec.bracketed text)
bracketed_one [] = All-nil IsOne
bracketed_one (b ∷ text) = All-cons IsOne (b ∷ []) (spec.words_in text) (one_byte b) (words_in_one text)

pub words_are_one : (text : Text) → All IsOne (spec.words text)
words_are_one text =
    let n = prefix_len spec.is_not_open text in
    All-append IsOne (spec.words_in (take n text)) (spec.bracketed (drop n text)) (words_in_one (take n text)) (bracketed_one (drop n text))

-- ---- digits

digit_no_letter : (b : ℕ) → is_ascii_digit b ≡ true → is_ascii_alphabetic b ≡ false
digit_no_letter b h = grind (arith, nat_tests)

pub digits_one : (n : Text) → list_all is_ascii_digit n ≡ true → IsOne n
digits_one [] h = refl
digits_one (b ∷ n) h = few_letters (b ∷ n) (omega (arith, none))
  where
    no : is_ascii_alphabetic b ≡ false
    no = let digit = (and_parts _ _ h).0 in digit_no_letter b digit

    none : spec.letters (b ∷ n) ≡ 0
    none = rw no refl
