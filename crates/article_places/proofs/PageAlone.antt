-- A word that is a page and no more, alone in a text.
use Rattle.std.proofs.Common.{◌≡◌, ℕ, ◌<◌, ◌≤◌, List, [], ◌∷◌, Bool, true, false, cond, eqb, Option, Some, None}
use Rattle.std.proofs.Common.{length, get_or, take, drop, refl, ap, ◌∙◌, arith, append-nil}
use Rattle.std.specs.List.{All, flat_map, onto_first, prefix_len, slice_split}
use Rattle.std.proofs.lemmas.Bool.{and_right}
use Rattle.std.proofs.lemmas.Bool.{cond-false}
use Rattle.std.proofs.lemmas.Bool.Decides.{nat_tests}
use Rattle.std.proofs.lemmas.List.{take_all, drop_all, get_or-take, length-take}
use Rattle.std.proofs.lemmas.List.Elements.{All-nil, All-cons, All-head, All-tail, All-weaker, All-get_or}
use Rattle.std.proofs.lemmas.List.Sums.{prefix_len_is, prefix_len_passes, prefix_len_stops, prefix_len-le-length}
use Rattle.std.proofs.lemmas.List.Splits.{slice_split_none}
use Rattle.text_model.specs.Texts.{Text}
use Rattle.article_places.specs.PageForms as forms
use Rattle.article_places.specs.Pages as spec

-- ---- the beginning of a beginning

pub prefix_take : (q : ℕ → Bool) (w : Text) (n : ℕ) → prefix_len q w ≤ n → prefix_len q (take n w) ≡ prefix_len q w
prefix_take q w n h =
    let k = prefix_len q w in
    let within : k ≤ length w = prefix_len-le-length q w in
    let long : k ≤ length (take n w) = omega (arith, length-take n w) in
    prefix_len_is q (take n w) k 0 long
    (λ i g. let small : i < n = omega arith in ap q (get_or-take n w i 0 small) ∙ prefix_len_passes q w i 0 g)
    (λ g. let small : k < n = omega (arith, length-take n w) in
    let more : k < length w = omega (arith, length-take n w) in ap q (get_or-take n w k 0 small) ∙ prefix_len_stops q w 0 more)

-- ---- bytes

abbrev pub IsClean : Text → Type 0
IsClean t = All (λ b. spec.is_between b ≡ false) t

clean-cons : (b : ℕ) (parts : List Text) (cut : Bool) → spec.is_between b ≡ cut → All IsClean parts
    → All IsClean (cond cut ([] ∷ parts) (onto_first b parts))
clean-cons b parts true h all = All-cons IsClean [] parts (All-nil (λ b. spec.is_between b ≡ false)) all
clean-cons b [] false h all =
    All-cons IsClean (b ∷ []) [] (All-cons (λ b. spec.is_between b ≡ false) b [] h (All-nil (λ b. spec.is_between b ≡ false))) all
clean-cons b (part ∷ parts) false h all =
    All-cons IsClean (b ∷ part) parts (All-cons (λ b. spec.is_between b ≡ false) b part h (All-head IsClean part parts all))
    (All-tail IsClean part parts all)

pub clean_parts : (t : Text) → All IsClean (slice_split spec.is_between t)
clean_parts [] = All-cons IsClean [] [] (All-nil (λ b. spec.is_between b ≡ false)) (All-nil IsClean)
clean_parts (b ∷ t) = clean-cons b (slice_split spec.is_between t) (spec.is_between b) refl (clean_parts t)

hyphen_between : (b : ℕ) → spec.is_between b ≡ false → spec.is_no_hyphen b ≡ true
hyphen_between b h = grind (arith, nat_tests)

-- ---- one word alone

-- a word that is a page, and no more
pub record IsAlone (p : Text) : Type 0 where
  pub clean : IsClean p
  pub some : 0 < length p
  pub whole : forms.page p ≡ Some p
  pub label : spec.label_length p ≡ 0
  pub start : forms.is_stop (get_or p 0 0) ≡ false

bare_alone : (p : Text) → IsAlone p → spec.bare p ≡ p
bare_alone p is =
    let front : prefix_len forms.is_stop p ≡ 0 =
    prefix_len_is forms.is_stop p 0 0 (omega arith) (λ k g. absurd (omega arith)) (λ g. is.start) in
    ap (λ n. let rest = drop n p in drop (prefix_len forms.is_stop rest) rest) is.label ∙ ap (λ n. drop n p) front

bare_word_alone : (p : Text) → IsAlone p → spec.bare_word p ≡ p ∷ []
bare_word_alone p is =
    let no : eqb (length p) 0 ≡ false = grind (arith, nat_tests, is.some) in
    ap (λ w. cond (eqb (length w) 0) [] (w ∷ [])) (bare_alone p is) ∙ cond-false _ _ _ no

words_alone : (p : Text) → IsAlone p → spec.page_words p ≡ p ∷ []
words_alone p is =
    ap (flat_map spec.bare_word) (slice_split_none spec.is_between p is.clean) ∙ append-nil (spec.bare_word p) ∙ bare_word_alone p is

before_all : (p : Text) → IsAlone p → prefix_len spec.is_no_hyphen p ≡ length p
before_all p is =
    let all : All (λ b. spec.is_no_hyphen b ≡ true) p =
    All-weaker (λ b. spec.is_between b ≡ false) (λ b. spec.is_no_hyphen b ≡ true) hyphen_between p is.clean in
    prefix_len_is spec.is_no_hyphen p (length p) 0 (omega arith) (λ k g. All-get_or (λ b. spec.is_no_hyphen b ≡ true) p k 0 g all)
    (λ g. absurd (omega arith))

no_section : (p : Text) → spec.is_sectioned p [] ≡ false
no_section p = and_right _ _ refl

pub alone_stays : (p : Text) → IsAlone p → spec.pages_in p ≡ Some (spec.only p)
alone_stays p is =
    let read : Text → Text → Option spec.Range =
    λ before after. spec.from_page (spec.first_page (spec.page_words before)) (spec.page_words before) (spec.page_words after) in
    ap (λ n. read (take n p) (drop n p)) (before_all p is)
    ∙ ap (λ t. read t (drop (length p) p)) (take_all (length p) p (omega arith))
    ∙ ap (λ t. read p t) (drop_all (length p) p (omega arith))
    ∙ ap (λ ws. spec.from_page (spec.first_page ws) ws []) (words_alone p is)
    ∙ ap (λ o. spec.from_page (spec.or_else o None) (p ∷ []) []) is.whole
    ∙ cond-false _ _ _ (no_section p)
