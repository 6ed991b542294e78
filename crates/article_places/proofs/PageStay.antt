-- A page that was found is found as it is.
use Rattle.std.proofs.Common.{◌≡◌, ◌≢◌, ℕ, ◌+◌, List, [], ◌∷◌, Bool, true, false, cond, eqb, Option, Some, None}
use Rattle.std.proofs.Common.{length, take, drop, refl, ap, ◌∙◌, subst, arith}
use Rattle.std.specs.Prelude.{nat_le, nat_lt}
use Rattle.std.specs.Char.{is_ascii_alphabetic, is_ascii_digit}
use Rattle.std.specs.List.{All, list_all, prefix_len, slice_split}
use Rattle.std.proofs.lemmas.Bool.{and_parts, and_from, not_from_false}
use Rattle.std.proofs.lemmas.Bool.{cond_both, lt-ltb}
use Rattle.std.proofs.lemmas.Bool.Decides.{nat_tests}
use Rattle.std.proofs.lemmas.List.{drop_all}
use Rattle.std.proofs.lemmas.List.Elements.{All-nil, All-cons, All-head, All-tail, All-weaker, All-get_or, All-drop}
use Rattle.std.proofs.lemmas.List.Sums.{AllPass-from_list_all, prefix_len_is}
use Rattle.text_model.specs.Texts.{Text}
use Rattle.article_places.specs.Labels.{page_labels, is_one_of}
use Rattle.article_places.specs.Words.{letters}
use Rattle.article_places.specs.PageForms as forms
use Rattle.article_places.specs.Pages as spec
use Rattle.article_places.proofs.Found.{Holds}
use Rattle.article_places.proofs.PartLaws.{flat_are}
use Rattle.article_places.proofs.PageParts.{either}
use Rattle.article_places.proofs.PageAlone.{IsClean, clean_parts, IsAlone, alone_stays}
use Rattle.article_places.proofs.PageShapes.{numbered_alone, numbered_is, roman_is}

-- ---- the first page

pub page_alone : (w : Text) → IsClean w → Holds IsAlone (forms.page w)
unfolding Holds
page_alone w clean =
    cond_both (forms.is_numbered w) (Some (forms.numbered w)) (cond (forms.is_roman_page w) (Some (forms.roman w)) None) (Holds IsAlone)
    (λ h. numbered_is w clean h)
    (λ _. cond_both (forms.is_roman_page w) (Some (forms.roman w)) None (Holds IsAlone) (λ h. roman_is w clean h) (λ _. tt))

first_number_alone : (ws : List Text) → All IsClean ws → Holds IsAlone (spec.first_number ws)
unfolding Holds
first_number_alone [] all = tt
first_number_alone (w ∷ ws) all =
    cond_both (forms.is_numbered w) (Some (forms.numbered w)) (spec.first_number ws) (Holds IsAlone)
    (λ h. numbered_is w (All-head IsClean w ws all) h) (λ _. first_number_alone ws (All-tail IsClean w ws all))

pub first_page_alone : (ws : List Text) → All IsClean ws → Holds IsAlone (spec.first_page ws)
unfolding Holds
first_page_alone [] all = tt
first_page_alone (w ∷ ws) all =
    either IsAlone (forms.page w) (spec.first_number ws) (page_alone w (All-head IsClean w ws all)) (first_number_alone ws (All-tail IsClean w ws all))

bare_clean : (w : Text) → IsClean w → All IsClean (spec.bare_word w)
bare_clean w clean =
    let rest = drop (spec.label_length w) w in
    let B : ℕ → Type 0 = λ b. spec.is_between b ≡ false in
    cond_both (eqb (length (spec.bare w)) 0) [] (spec.bare w ∷ []) (All IsClean) (λ _. All-nil IsClean)
    (λ _. All-cons IsClean (spec.bare w) [] (All-drop B (prefix_len forms.is_stop rest) rest (All-drop B (spec.label_length w) w clean)) (All-nil IsClean))

pub words_clean : (t : Text) → All IsClean (spec.page_words t)
words_clean t = flat_are IsClean IsClean spec.bare_word bare_clean (slice_split spec.is_between t) (clean_parts t)

from_page_first : (o : Option Text) (firsts lasts : List Text) → Holds IsAlone o → (r : spec.Range)
    → spec.from_page o firsts lasts ≡ Some r → IsAlone r.first
unfolding Holds
from_page_first None firsts lasts h r e = cc
from_page_first (Some first) firsts lasts h r e = by_test (spec.is_sectioned first lasts) e
  where
    found : spec.Range
    found = record { first = first; last = spec.last_in first firsts lasts }

    by_test : (b : Bool) → cond b None (Some found) ≡ Some r → IsAlone r.first
    by_test true g = cc
    by_test false g = let same : found ≡ r = cc in subst (λ (s : spec.Range). IsAlone s.first) same h

pub first_stays : (text : Text) (r : spec.Range) → spec.pages_in text ≡ Some r → spec.pages_in r.first ≡ Some (spec.only r.first)
first_stays text r e =
    let n = prefix_len spec.is_no_hyphen text in
    let firsts = spec.page_words (take n text) in
    alone_stays r.first
    (from_page_first (spec.first_page firsts) firsts (spec.page_words (drop n text)) (first_page_alone firsts (words_clean (take n text))) r e)

-- ---- digits

digit_clean : (b : ℕ) → is_ascii_digit b ≡ true → spec.is_between b ≡ false
digit_clean b h = grind (arith, nat_tests)

pub digit_no_letter : (b : ℕ) → is_ascii_digit b ≡ true → is_ascii_alphabetic b ≡ false
digit_no_letter b h = grind (arith, nat_tests)

digits_alone : (p : Text) → p ≢ [] → list_all is_ascii_digit p ≡ true → IsAlone p
digits_alone [] some h = absurd (some refl)
digits_alone (b ∷ t) some h =
    let p : Text = b ∷ t in
    let D : ℕ → Type 0 = λ b. is_ascii_digit b ≡ true in
    let all : All D p = AllPass-from_list_all is_ascii_digit p h in
    let lets : letters p ≡ 0 = ap (λ c. cond c (1 + letters t) 0) (digit_no_letter b (and_parts _ _ h).0) in
    let long : prefix_len is_ascii_digit p ≡ length p =
    prefix_len_is is_ascii_digit p (length p) 0 (omega arith) (λ k g. All-get_or D p k 0 g all) (λ g. absurd (omega arith)) in
    let digs : forms.digits p ≡ length p = ap (λ k. prefix_len is_ascii_digit (drop k p)) lets ∙ long in
    let some_digit : nat_lt 0 (forms.digits p) ≡ true = lt-ltb 0 (forms.digits p) (omega (arith, digs)) in
    let few : nat_le (letters p) 4 ≡ true = ap (λ k. nat_le k 4) lets in
    let label : forms.has_label p ≡ false = ap (λ k. is_one_of page_labels (take k p)) lets in
    let count : letters p + forms.digits p ≡ length p = omega (arith, lets, digs) in
    numbered_alone p (All-weaker D (λ b. spec.is_between b ≡ false) digit_clean p all)
    (and_from _ _ (and_from _ _ some_digit few) (not_from_false _ label))
    (ap (λ k. cond (forms.is_suffix (drop k p)) p (take k p)) count
    ∙ ap (λ t. cond (forms.is_suffix t) p (take (length p) p)) (drop_all (length p) p (omega arith)))

pub plain_stays : (p : Text) → p ≢ [] → list_all is_ascii_digit p ≡ true → spec.pages_in p ≡ Some (spec.only p)
plain_stays p some h = alone_stays p (digits_alone p some h)
