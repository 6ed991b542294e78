-- The page with which a word begins, alone in a text.
use Rattle.std.proofs.Common.{◌≡◌, ℕ, zero, suc, ◌+◌, ◌<◌, [], ◌∷◌, Bool, true, false, cond, not, ◌&&◌, ◌||◌, eqb, Some, None}
use Rattle.std.proofs.Common.{length, get_or, map, take, drop, refl, sym, ap, ◌∙◌, arith}
use Rattle.std.specs.Prelude.{◌==◌, nat_le, nat_lt}
use Rattle.std.specs.Char.{is_ascii_alphabetic, is_ascii_digit, to_ascii_lowercase}
use Rattle.std.specs.List.{list_all, prefix_len}
use Rattle.std.proofs.lemmas.Bool.{and_parts, and_from, and_left, and_right, or_from, or_left, not-true}
use Rattle.std.proofs.lemmas.Bool.{cond_both, cond-false, ltb-true, lt-ltb, eq-eqb}
use Rattle.std.proofs.lemmas.Bool.Decides.{nat_tests}
use Rattle.std.proofs.lemmas.List.{take_all, drop_all, drop-take, take-take, get_or-drop, get_or_past, length-take, length-drop}
use Rattle.std.proofs.lemmas.List.Elements.{All-take}
use Rattle.std.proofs.lemmas.List.Folds.{length-prefix_len}
use Rattle.std.proofs.lemmas.List.Sums.{prefix_len_passes, prefix_len-le-length}
use Rattle.text_model.specs.Texts.{Text}
use Rattle.article_places.specs.Labels.{page_labels, is_one_of}
use Rattle.article_places.specs.Words.{letters}
use Rattle.article_places.specs.PageForms as forms
use Rattle.article_places.specs.Pages as spec
use Rattle.article_places.proofs.OtherWords.{none_of}
use Rattle.article_places.proofs.PageAlone.{prefix_take, IsClean, IsAlone}

-- ---- a page with digits

digit_no_stop : (b : ℕ) → is_ascii_digit b ≡ true → forms.is_stop b ≡ false
digit_no_stop b h = grind (arith, nat_tests)

letter_no_stop : (b : ℕ) → is_ascii_alphabetic b ≡ true → forms.is_stop b ≡ false
letter_no_stop b h = grind (arith, nat_tests)

some_digits : (w : Text) → forms.is_numbered w ≡ true → 0 < forms.digits w
some_digits w h = ltb-true 0 (forms.digits w) (and_parts _ _ (and_parts _ _ h).0).0

at_digits : (w : Text) → 0 < forms.digits w → is_ascii_digit (get_or w (letters w) 0) ≡ true
at_digits w some =
    let n = letters w in
    let here : n + 0 ≡ n = omega arith in
    sym (ap is_ascii_digit (get_or-drop n w 0 0 ∙ ap (λ i. get_or w i 0) here)) ∙ prefix_len_passes is_ascii_digit (drop n w) 0 0 some

letter_starts : (w : Text) → 0 < letters w → forms.is_stop (get_or w 0 0) ≡ false
letter_starts w some = letter_no_stop (get_or w 0 0) (prefix_len_passes is_ascii_alphabetic w 0 0 some)

digits_start : (w : Text) → 0 < forms.digits w → forms.is_stop (get_or w 0 0) ≡ false
digits_start w some = by_letters (letters w) refl
  where
    by_letters : (n : ℕ) → letters w ≡ n → forms.is_stop (get_or w 0 0) ≡ false
    by_letters zero e = digit_no_stop (get_or w 0 0) (sym (ap (λ i. is_ascii_digit (get_or w i 0)) e) ∙ at_digits w some)
    by_letters (suc n) e = letter_starts w (omega (arith, e))

pub numbered_alone : (p : Text) → IsClean p → forms.is_numbered p ≡ true → forms.numbered p ≡ p → IsAlone p
numbered_alone p clean is e = record {
  clean = clean;
  some = omega (arith, some_digits p is, prefix_len-le-length is_ascii_digit (drop (letters p) p), length-drop (letters p) p);
  whole = ap (λ b. cond b (Some (forms.numbered p)) (cond (forms.is_roman_page p) (Some (forms.roman p)) None)) is ∙ ap Some e;
  label = cond-false _ _ _
      (or_from _ _ (not-true _ (and_parts _ _ is).1) (and_right _ _ (digit_no_stop (get_or p (letters p) 0) (at_digits p (some_digits p is)))));
  start = digits_start p (some_digits p is);
}

front_numbered : (w : Text) → IsClean w → forms.is_numbered w ≡ true → IsAlone (take (letters w + forms.digits w) w)
front_numbered w clean is =
    let l = letters w in
    let d = forms.digits w in
    let n : ℕ = l + d in
    let p : Text = take n w in
    let lets : letters p ≡ l = prefix_take is_ascii_alphabetic w n (omega arith) in
    let digs : forms.digits p ≡ d =
    ap (λ k. prefix_len is_ascii_digit (drop k p)) lets ∙ ap (prefix_len is_ascii_digit) (drop-take l d w)
    ∙ prefix_take is_ascii_digit (drop l w) d (omega arith) in
    let label : forms.has_label p ≡ forms.has_label w =
    ap (λ k. is_one_of page_labels (take k p)) lets ∙ ap (is_one_of page_labels) (take-take l n w (omega arith)) in
    let same : forms.is_numbered p ≡ forms.is_numbered w =
    ap (λ k. nat_lt 0 k && nat_le (letters p) 4 && not (forms.has_label p)) digs
    ∙ ap (λ k. nat_lt 0 d && nat_le k 4 && not (forms.has_label p)) lets ∙ ap (λ b. nat_lt 0 d && nat_le l 4 && not b) label in
    let count : letters p + forms.digits p ≡ n = omega (arith, lets, digs) in
    let none : drop n p ≡ [] = drop_all n p (omega (arith, length-take n w)) in
    numbered_alone p (All-take (λ b. spec.is_between b ≡ false) n w clean) (same ∙ is)
    (ap (λ k. cond (forms.is_suffix (drop k p)) p (take k p)) count ∙ ap (λ t. cond (forms.is_suffix t) p (take n p)) none)

pub numbered_is : (w : Text) → IsClean w → forms.is_numbered w ≡ true → IsAlone (forms.numbered w)
numbered_is w clean is =
    let n = letters w + forms.digits w in
    cond_both (forms.is_suffix (drop n w)) w (take n w) IsAlone
    (λ h. numbered_alone w clean is (ap (λ b. cond b w (take n w)) h)) (λ _. front_numbered w clean is)

-- ---- a Roman numeral

lower_twice : (b : ℕ) → to_ascii_lowercase (to_ascii_lowercase b) ≡ to_ascii_lowercase b
lower_twice b = grind (arith, nat_tests)

abbrev numeral_test : ℕ → Bool
numeral_test c = c == 0x69 || c == 0x76 || c == 0x78 || c == 0x6c || c == 0x63 || c == 0x64 || c == 0x6d

numerals_kept : (w : Text) → list_all forms.is_numeral w ≡ true → list_all forms.is_numeral (map to_ascii_lowercase w) ≡ true
numerals_kept [] h = h
numerals_kept (b ∷ w) h =
    let parts = and_parts _ _ h in and_from _ _ (ap numeral_test (lower_twice b) ∙ parts.0) (numerals_kept w parts.1)

roman_alone : (p : Text) → IsClean p → 0 < letters p → list_all forms.is_numeral (forms.roman p) ≡ true → letters p ≡ length p → IsAlone p
roman_alone p clean some numerals all =
    let none : drop (letters p) p ≡ [] = drop_all (letters p) p (omega (arith, all)) in
    let digs : forms.digits p ≡ 0 = ap (prefix_len is_ascii_digit) none in
    let other : forms.is_numbered p ≡ false = and_left _ _ (and_left _ _ (ap (nat_lt 0) digs)) in
    let label : forms.has_label p ≡ false = none_of (list_all forms.is_numeral) page_labels (forms.roman p) refl (numerals_kept (forms.roman p) numerals) in
    let past : forms.is_stop (get_or p (letters p) 0) ≡ false = ap forms.is_stop (get_or_past p (letters p) 0 (omega (arith, all))) in
    let some_test : nat_lt 0 (letters p) ≡ true = lt-ltb 0 (letters p) some in
    let long : (eqb (length p) (letters p)) ≡ true = eq-eqb _ _ (sym all) in
    let is : forms.is_roman_page p ≡ true = and_from _ _ (and_from _ _ some_test numerals) (or_left _ _ long) in
    let same : forms.roman p ≡ p = take_all (letters p) p (omega (arith, all)) in
    record {
      clean = clean;
      some = omega (arith, all, some);
      whole = cond-false _ _ _ other ∙ ap (λ b. cond b (Some (forms.roman p)) None) is ∙ ap Some same;
      label = cond-false _ _ _ (or_from _ _ label (and_right _ _ past));
      start = letter_starts p some;
    }

pub roman_is : (w : Text) → IsClean w → forms.is_roman_page w ≡ true → IsAlone (forms.roman w)
roman_is w clean is =
    let l = letters w in
    let p : Text = forms.roman w in
    let first = and_parts _ _ (and_parts _ _ is).0 in
    let some : 0 < l = ltb-true 0 l first.0 in
    let lets : letters p ≡ l = prefix_take is_ascii_alphabetic w l (omega arith) in
    let same : forms.roman p ≡ p = ap (λ k. take k p) lets ∙ take-take l l w (omega arith) in
    roman_alone p (All-take (λ b. spec.is_between b ≡ false) l w clean) (omega (arith, lets, some))
    (ap (list_all forms.is_numeral) same ∙ first.1) (lets ∙ sym (length-prefix_len is_ascii_alphabetic w))
