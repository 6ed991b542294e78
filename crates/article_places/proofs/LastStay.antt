-- A last page in full is found as it is.
use Rattle.std.proofs.Common.{◌≡◌, ℕ, ◌+◌, ◌<◌, ◌≤◌, List, [], ◌++◌, Bool, true, false, cond, not, ◌&&◌, eqb, Option, Some, None}
use Rattle.std.proofs.Common.{length, get_or, take, drop, refl, sym, ap, ◌∙◌, subst, arith}
use Rattle.std.specs.Prelude.{nat_le, nat_lt}
use Rattle.std.specs.Char.{is_ascii_alphabetic, is_ascii_digit}
use Rattle.std.specs.List.{All, prefix_len}
use Rattle.std.specs.Option.{option_and_then}
use Rattle.std.proofs.lemmas.Bool.{and_from, and_parts, or_parts, cond_both, lt-ltb, eq-eqb}
use Rattle.std.proofs.lemmas.Bool.Decides.{nat_tests}
use Rattle.std.proofs.lemmas.List.{drop_all, drop-drop, drop-take, take-take, drop_at, take-append-le, drop-append-le}
use Rattle.std.proofs.lemmas.List.{get_or-take, get_or-drop, get_or_append_left, length-append, length-take, length-drop}
use Rattle.std.proofs.lemmas.List.Elements.{All-append, All-take, All-drop}
use Rattle.std.proofs.lemmas.List.Folds.{length-prefix_len, prefix_len-append}
use Rattle.std.proofs.lemmas.List.Sums.{prefix_len_is, prefix_len_passes, prefix_len-le-length}
use Rattle.text_model.specs.Texts.{Text}
use Rattle.article_places.specs.Labels.{page_labels, is_one_of}
use Rattle.article_places.specs.Words.{letters}
use Rattle.article_places.specs.PageForms as forms
use Rattle.article_places.specs.LastPages as last_pages
use Rattle.article_places.specs.Pages as spec
use Rattle.article_places.proofs.Found.{Holds, holds}
use Rattle.article_places.proofs.PageParts.{last_is}
use Rattle.article_places.proofs.PageAlone.{IsClean, IsAlone, alone_stays}
use Rattle.article_places.proofs.PageShapes.{numbered_alone}
use Rattle.article_places.proofs.PageStay.{page_alone, first_page_alone, words_clean, digit_no_letter}

-- ---- a page that has digits

-- a page that is numbered, and nothing else
record IsNumber (p : Text) : Type 0 where
  clean : IsClean p
  numbered : forms.is_numbered p ≡ true
  whole : forms.is_suffix (drop (letters p + forms.digits p) p) ≡ true

no_numeral : (p : Text) → forms.roman p ≡ p → forms.digits p ≡ 0
no_numeral p e =
    let long : length (forms.roman p) ≡ letters p = length-prefix_len is_ascii_alphabetic p in
    let same : length (forms.roman p) ≡ length p = ap length e in
    let none : drop (letters p) p ≡ [] = drop_all (letters p) p (omega arith) in
    ap (prefix_len is_ascii_digit) none

suffix_of : (p : Text) → forms.numbered p ≡ p → forms.is_suffix (drop (letters p + forms.digits p) p) ≡ true
suffix_of p e = by_test (forms.is_suffix (drop n p)) refl e
  where
    n : ℕ
    n = letters p + forms.digits p

    by_test : (b : Bool) → forms.is_suffix (drop n p) ≡ b → cond b p (take n p) ≡ p → forms.is_suffix (drop n p) ≡ true
    by_test true s g = s
    by_test false s g =
        let short : length (take n p) ≡ length p = ap length g in
        let none : drop n p ≡ [] = drop_all n p (omega (arith, length-take n p)) in
        ap forms.is_suffix none

number_of : (p : Text) → IsAlone p → 0 < forms.digits p → IsNumber p
number_of p is some = by_test (forms.is_numbered p) refl is.whole
  where
    roman_none : (b : Bool) → cond b (Some (forms.roman p)) None ≡ Some p → ⊥
    roman_none true g = let same : forms.roman p ≡ p = cc in absurd (omega (arith, no_numeral p same, some))
    roman_none false g = cc

    by_test : (b : Bool) → forms.is_numbered p ≡ b
        → cond b (Some (forms.numbered p)) (cond (forms.is_roman_page p) (Some (forms.roman p)) None) ≡ Some p → IsNumber p
    by_test true h g =
        let same : forms.numbered p ≡ p = cc in record { clean = is.clean; numbered = h; whole = suffix_of p same }
    by_test false h g = absurd (roman_none (forms.is_roman_page p) g)

-- ---- the beginning of one page and the rest of another

joined_alone : (p q : Text) (m : ℕ) → IsNumber p → IsNumber q → m ≤ forms.digits p → 0 < forms.digits p → 0 < forms.digits q
    → IsAlone (take (letters p + m) p ++ drop (letters q) q)
joined_alone p q m isp isq few somep someq =
    let l = letters p in
    let d = forms.digits q in
    let A : Text = take (l + m) p in
    let B : Text = drop (letters q) q in
    let L : Text = A ++ B in
    let all : l + forms.digits p ≤ length p =
    omega (arith, prefix_len-le-length is_ascii_alphabetic p, prefix_len-le-length is_ascii_digit (drop l p), length-drop l p) in
    let long : length A ≡ l + m = omega (arith, length-take (l + m) p) in
    let longB : d ≤ length B = prefix_len-le-length is_ascii_digit B in
    let M : Text = take m (drop l p) in
    let middle : drop l A ≡ M = drop-take l m p in
    let longM : length M ≡ m = omega (arith, length-take m (drop l p), length-drop l p) in
    let tail : drop l L ≡ M ++ B = drop-append-le l A B (omega (arith, long)) ∙ ap (λ t. t ++ B) middle in
    let digM : prefix_len is_ascii_digit M ≡ m = digits_front (drop l p) m few in
    let full : eqb (prefix_len is_ascii_digit M) (length M) ≡ true = eq-eqb _ _ (digM ∙ sym longM) in
    let digs : prefix_len is_ascii_digit (M ++ B) ≡ m + d =
    prefix_len-append is_ascii_digit M B
    ∙ ap (λ b. cond b (length M + prefix_len is_ascii_digit B) (prefix_len is_ascii_digit M)) full ∙ ap (λ k. k + d) longM in
    let first : is_ascii_digit (get_or (M ++ B) 0 0) ≡ true = prefix_len_passes is_ascii_digit (M ++ B) 0 0 (omega (arith, digs)) in
    let here : l + 0 ≡ l = omega arith in
    let at : get_or L l 0 ≡ get_or (M ++ B) 0 0 =
    sym (ap (λ t. get_or t 0 0) (sym tail) ∙ get_or-drop l L 0 0 ∙ ap (λ i. get_or L i 0) here) in
    let lets : letters L ≡ l =
    prefix_len_is is_ascii_alphabetic L l 0 (omega (arith, long, length-append A B))
    (λ k g. ap is_ascii_alphabetic (get_or_append_left A B 0 k (omega (arith, long)) ∙ get_or-take (l + m) p k 0 (omega arith))
    ∙ prefix_len_passes is_ascii_alphabetic p k 0 g)
    (λ g. ap is_ascii_alphabetic at ∙ digit_no_letter (get_or (M ++ B) 0 0) first) in
    let digits : forms.digits L ≡ m + d = ap (λ k. prefix_len is_ascii_digit (drop k L)) lets ∙ ap (prefix_len is_ascii_digit) tail ∙ digs in
    let rest : drop (m + d) (M ++ B) ≡ drop (letters q + d) q =
    sym (drop-drop d m (M ++ B)) ∙ ap (drop d) (drop_at M B m longM) ∙ drop-drop d (letters q) q in
    let count : letters L + forms.digits L ≡ l + (m + d) = omega (arith, lets, digits) in
    let suffix : forms.is_suffix (drop (letters L + forms.digits L) L) ≡ true =
    ap (λ k. forms.is_suffix (drop k L)) count
    ∙ ap forms.is_suffix (sym (drop-drop (m + d) l L) ∙ ap (drop (m + d)) tail ∙ rest) ∙ isq.whole in
    let label : forms.has_label L ≡ forms.has_label p =
    ap (λ k. is_one_of page_labels (take k L)) lets
    ∙ ap (is_one_of page_labels) (take-append-le l A B (omega (arith, long)) ∙ take-take l (l + m) p (omega arith)) in
    let parts : ((nat_lt 0 (forms.digits p) && nat_le l 4) ≡ true) × (not (forms.has_label p) ≡ true) = and_parts _ _ isp.numbered in
    let some : nat_lt 0 (forms.digits L) ≡ true = lt-ltb 0 (forms.digits L) (omega (arith, digits)) in
    let short : nat_le (letters L) 4 ≡ true = ap (λ k. nat_le k 4) lets ∙ (and_parts _ _ parts.0).1 in
    let K : ℕ → Type 0 = λ b. spec.is_between b ≡ false in
    numbered_alone L (All-append K A B (All-take K (l + m) p isp.clean) (All-drop K (letters q) q isq.clean))
    (and_from _ _ (and_from _ _ some short) (ap not label ∙ parts.1))
    (ap (λ b. cond b L (take (letters L + forms.digits L) L)) suffix)
  where
    digits_front : (t : Text) (m : ℕ) → m ≤ prefix_len is_ascii_digit t → prefix_len is_ascii_digit (take m t) ≡ m
    digits_front t m h =
        let long : length (take m t) ≡ m = omega (arith, length-take m t, prefix_len-le-length is_ascii_digit t) in
        prefix_len_is is_ascii_digit (take m t) m 0 (omega (arith, long))
        (λ k g. ap is_ascii_digit (get_or-take m t k 0 g) ∙ prefix_len_passes is_ascii_digit t k 0 (omega arith))
        (λ g. absurd (omega (arith, long)))

-- ---- the last page

last_alone : (first last : Text) → IsAlone first → IsAlone last → Holds IsAlone (last_pages.last_page first last)
unfolding Holds
last_alone first last f is = by_test (last_pages.is_apart first last) refl
  where
    m : ℕ
    m = last_pages.missing first last

    full : Text
    full = take (letters first + m) first ++ drop (letters last) last

    some : (n : ℕ) → eqb n 0 ≡ false → 0 < n
    some n h = grind (arith, nat_tests)

    by_test : (b : Bool) → last_pages.is_apart first last ≡ b
        → Holds IsAlone (cond b (Some last) (cond (last_pages.is_later first last) (Some full) None))
    by_test true h = is
    by_test false h =
        let parts = or_parts _ _ (or_parts _ _ h).0 in
        let somef : 0 < forms.digits first = some (forms.digits first) parts.0 in
        let somel : 0 < forms.digits last = some (forms.digits last) parts.1 in
        cond_both (last_pages.is_later first last) (Some full) None (Holds IsAlone)
        (λ _. joined_alone first last m (number_of first f somef) (number_of last is somel) (omega arith) somef somel) (λ _. tt)

after_page : (first : Text) (o : Option Text) → IsAlone first → Holds IsAlone o → Holds IsAlone (option_and_then (last_pages.last_page first) o)
unfolding Holds
after_page first None f h = tt
after_page first (Some last) f h = last_alone first last f h

last_in_alone : (first : Text) (firsts lasts : List Text) → IsAlone first → All IsClean firsts → All IsClean lasts
    → Holds IsAlone (spec.last_in first firsts lasts)
last_in_alone first firsts lasts f all others =
    after_page first (option_and_then forms.page (spec.last_word firsts lasts)) f (last_is IsClean IsAlone page_alone firsts lasts all others)

from_page_last : (o : Option Text) (firsts lasts : List Text) → Holds IsAlone o → All IsClean firsts → All IsClean lasts → (r : spec.Range)
    → spec.from_page o firsts lasts ≡ Some r → Holds IsAlone r.last
unfolding Holds
from_page_last None firsts lasts h all others r e = cc
from_page_last (Some first) firsts lasts h all others r e = by_test (spec.is_sectioned first lasts) e
  where
    found : spec.Range
    found = record { first = first; last = spec.last_in first firsts lasts }

    by_test : (b : Bool) → cond b None (Some found) ≡ Some r → Holds IsAlone r.last
    by_test true g = cc
    by_test false g =
        let same : found ≡ r = cc in subst (λ (s : spec.Range). Holds IsAlone s.last) same (last_in_alone first firsts lasts h all others)

pub last_stays : (text last : Text) (r : spec.Range) → spec.pages_in text ≡ Some r → r.last ≡ Some last → spec.pages_in last ≡ Some (spec.only last)
last_stays text last r e l =
    let n = prefix_len spec.is_no_hyphen text in
    let firsts = spec.page_words (take n text) in
    let lasts = spec.page_words (drop n text) in
    alone_stays last
    (holds IsAlone r.last last
    (from_page_last (spec.first_page firsts) firsts lasts (first_page_alone firsts (words_clean (take n text))) (words_clean (take n text))
    (words_clean (drop n text)) r e) l)
