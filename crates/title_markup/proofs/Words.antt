-- The words of a text, with single spaces.
use Rattle.std.proofs.Common.{◌≡◌, ℕ, ◌+◌, ◌<◌, ◌≤◌, [], ◌∷◌, ◌++◌, Bool, true, false, cond, not, length, get_or, take, drop}
use Rattle.std.proofs.Common.{refl, sym, ap, ◌∙◌, subst, append-nil, append_assoc, arith}
use Rattle.std.specs.Prelude.{◌==◌, ◌&&◌, ◌||◌}
use Rattle.std.specs.Str.{IsUtf8}
use Rattle.std.proofs.lemmas.Bool.{and_parts, eqb-true, cond_both, cond-true, cond-false}
use Rattle.std.proofs.lemmas.Bool.Decides.{nat_tests}
use Rattle.std.proofs.lemmas.List.{drop_more, length-append, take_at}
use Rattle.std.proofs.lemmas.Str.{IsUtf8-append, IsUtf8-encode, encode_ascii}
use Rattle.text_model.specs.Texts.{Text}
use Rattle.title_markup.specs.Endings.{opening, ampersand, has}
use Rattle.title_markup.specs.Titles.{is_blank, without_markup}
use Rattle.title_markup.specs.Spaces.{is_space, space_if, written, words_after, words, with_single_spaces, plain_title, is_single_after, has_single_spaces}
use Rattle.title_markup.proofs.Reading.{unmarked_stays, short, is_utf8, is_filled}
use Rattle.title_markup.proofs.TextEnds.{last_of, cut_utf8, AreCut}

-- ---- one byte more

pub words_more : (text front : Text) (i : ℕ) (begun gap : Bool) → i < length text
    → (front ++ written (is_space (get_or text i 0)) (begun && gap) (get_or text i 0))
    ++ words_after (begun || not (is_space (get_or text i 0))) (is_space (get_or text i 0)) (drop (i + 1) text)
    ≡ front ++ words_after begun gap (drop i text)
words_more text front i begun gap h =
    let b = get_or text i 0 in
    append_assoc front (written (is_space b) (begun && gap) b) (words_after (begun || not (is_space b)) (is_space b) (drop (i + 1) text))
    ∙ ap (λ t. front ++ words_after begun gap t) (sym (drop_more text i 0 h))

pub words_after_byte : (text before after all : Text) (i : ℕ) (begun gap passed next is next_gap : Bool) → i < length text
    → is ≡ is_space (get_or text i 0) → passed ≡ (begun && gap) → next ≡ (begun || not is) → next_gap ≡ is
    → after ≡ before ++ written is passed (get_or text i 0) → before ++ words_after begun gap (drop i text) ≡ all
    → after ++ words_after next next_gap (drop (i + 1) text) ≡ all
words_after_byte text before after all i begun gap passed next is next_gap h space pass then gap_is more so_far =
    let b = get_or text i 0 in
    let rest = drop (i + 1) text in
    let seen : next ≡ (begun || not (is_space b)) = then ∙ ap (λ s. begun || not s) space in
    let appended : after ≡ before ++ written (is_space b) (begun && gap) b =
    more ∙ ap (λ s. before ++ written s passed b) space ∙ ap (λ p. before ++ written (is_space b) p b) pass in
    ap (λ a. a ++ words_after next next_gap rest) appended
    ∙ ap (λ n. (before ++ written (is_space b) (begun && gap) b) ++ words_after n next_gap rest) seen
    ∙ ap (λ g. (before ++ written (is_space b) (begun && gap) b) ++ words_after (begun || not (is_space b)) g rest) (gap_is ∙ space)
    ∙ words_more text before i begun gap h ∙ so_far

-- ---- texts that stay

space_is : (b : ℕ) → (b == 0x20) ≡ true → is_space b ≡ true
space_is b h = grind (arith, nat_tests)

no : (x : Bool) → not x ≡ true → x ≡ false
no true e = cc
no false e = refl

stays_after : (gap : Bool) (t : Text) → is_single_after gap t ≡ true → words_after true gap t ≡ space_if gap t
stays_after true [] h = cc
stays_after false [] h = refl
stays_after gap (b ∷ t) h = by_space (b == 0x20) refl gap (λ g. stays_after g t) h
  where
    by_space : (x : Bool) → (b == 0x20) ≡ x → (g : Bool) → ((d : Bool) → is_single_after d t ≡ true → words_after true d t ≡ space_if d t)
        → cond x (not g && is_single_after true t) (not (is_space b) && is_single_after false t) ≡ true
        → words_after true g (b ∷ t) ≡ space_if g (b ∷ t)
    by_space true e true after h = cc
    by_space true e false after h =
        ap (λ s. written s (true && false) b ++ words_after true s t) (space_is b e) ∙ after true h
        ∙ ap (λ c. c ∷ t) (sym (eqb-true b 0x20 e))
    by_space false e true after h =
        let parts = and_parts (not (is_space b)) (is_single_after false t) h in
        ap (λ s. written s (true && true) b ++ words_after true s t) (no (is_space b) parts.0) ∙ ap (λ s. 0x20 ∷ b ∷ s) (after false parts.1)
    by_space false e false after h =
        let parts = and_parts (not (is_space b)) (is_single_after false t) h in
        ap (λ s. written s (true && false) b ++ words_after true s t) (no (is_space b) parts.0) ∙ ap (λ s. b ∷ s) (after false parts.1)

single_word : (b : ℕ) (t : Text) → is_single_after true (b ∷ t) ≡ true → (is_space b ≡ false) × (is_single_after false t ≡ true)
single_word b t h = by_space (b == 0x20) h
  where
    by_space : (x : Bool) → cond x (not true && is_single_after true t) (not (is_space b) && is_single_after false t) ≡ true
        → (is_space b ≡ false) × (is_single_after false t ≡ true)
    by_space true g = cc
    by_space false g = let parts = and_parts (not (is_space b)) (is_single_after false t) g in (no (is_space b) parts.0, parts.1)

pub single_same : (t : Text) → has_single_spaces t ≡ true → words t ≡ t
unfolding words
single_same [] h = refl
single_same (b ∷ t) h =
    let word = single_word b t h in
    ap (λ s. written s (false && false) b ++ words_after (false || not s) s t) word.0 ∙ ap (λ s. b ∷ s) (stays_after false t word.1)

-- ---- what is left

word_single : (b : ℕ) (t : Text) (gap : Bool) → is_space b ≡ false → is_single_after false t ≡ true → is_single_after gap (b ∷ t) ≡ true
word_single b t gap word rest = by_space (b == 0x20) refl
  where
    by_space : (x : Bool) → (b == 0x20) ≡ x → cond x (not gap && is_single_after true t) (not (is_space b) && is_single_after false t) ≡ true
    by_space true e = let is = space_is b e in cc
    by_space false e = ap (λ s. not s && is_single_after false t) word ∙ rest

words_single : (gap : Bool) (t : Text) → is_single_after false (words_after true gap t) ≡ true
words_single gap [] = refl
words_single gap (b ∷ t) = by_space (is_space b) refl (words_single true t) (words_single false t)
  where
    by_gap : (g : Bool) → is_space b ≡ false → is_single_after false (words_after true false t) ≡ true
        → is_single_after false (written false (true && g) b ++ words_after true false t) ≡ true
    by_gap true e rest = word_single b (words_after true false t) true e rest
    by_gap false e rest = word_single b (words_after true false t) false e rest

    by_space : (x : Bool) → is_space b ≡ x → is_single_after false (words_after true true t) ≡ true
        → is_single_after false (words_after true false t) ≡ true
        → is_single_after false (written x (true && gap) b ++ words_after true x t) ≡ true
    by_space true e spaced worded = spaced
    by_space false e spaced worded = by_gap gap e worded

first_single : (gap : Bool) (t : Text) → has_single_spaces (words_after false gap t) ≡ true
first_single gap [] = refl
first_single gap (b ∷ t) = by_space (is_space b) refl (first_single true t) (words_single false t)
  where
    by_space : (x : Bool) → is_space b ≡ x → has_single_spaces (words_after false true t) ≡ true
        → is_single_after false (words_after true false t) ≡ true
        → has_single_spaces (written x (false && gap) b ++ words_after (false || not x) x t) ≡ true
    by_space true e spaced worded = spaced
    by_space false e spaced worded = word_single b (words_after true false t) true e worded

pub all_single : (t : Text) → has_single_spaces (words t) ≡ true
unfolding words
all_single t = first_single false t

words_short : (begun gap : Bool) (t : Text) → length (words_after begun gap t) ≤ length (space_if (begun && gap) t)
words_short true true [] = omega arith
words_short true false [] = omega arith
words_short false gap [] = omega arith
words_short begun gap (b ∷ t) =
    by_space (is_space b) begun gap (λ c. words_short c true t) (words_short true false t)
  where
    by_space : (x c g : Bool) → ((d : Bool) → length (words_after d true t) ≤ length (space_if (d && true) t))
        → length (words_after true false t) ≤ length t
        → length (written x (c && g) b ++ words_after (c || not x) x t) ≤ length (space_if (c && g) (b ∷ t))
    by_space true true true spaced worded = let less = spaced true in omega (arith, less)
    by_space true true false spaced worded = let less = spaced true in omega (arith, less)
    by_space true false g spaced worded = let less = spaced false in omega (arith, less)
    by_space false true true spaced worded = omega (arith, worded)
    by_space false true false spaced worded = omega (arith, worded)
    by_space false false g spaced worded = omega (arith, worded)

-- ---- UTF-8

space_ascii : (b : ℕ) → is_space b ≡ true → b < 128
space_ascii b h = grind (arith, nat_tests)

apart : (front t : Text) (b : ℕ) → b < 128 → IsUtf8 (front ++ b ∷ t) → AreCut front t
apart front t b ascii utf8 =
    let whole = front ++ b ∷ [] in
    let size : length whole ≡ length front + 1 = omega (arith, length-append front (b ∷ [])) in
    let cut : AreCut (take (length front) whole) t =
    cut_utf8 whole t (length front) (omega (arith, size)) (subst (λ c. c < 128) (sym (at_end front)) ascii)
    (subst (λ c. c < 128) (sym (last_of front b)) ascii) (subst IsUtf8 (sym (append_assoc front (b ∷ []) t)) utf8) in
    subst (λ u. AreCut u t) (take_at front (b ∷ []) (length front) refl) cut
  where
    at_end : (front : Text) → get_or (front ++ b ∷ []) (length front) 0 ≡ b
    at_end [] = refl
    at_end (a ∷ front) = at_end front

utf8_space : (front t : Text) → IsUtf8 front → IsUtf8 t → IsUtf8 (front ++ 0x20 ∷ t)
utf8_space front t before after =
    IsUtf8-append front (0x20 ∷ t) before (IsUtf8-append (0x20 ∷ []) t (subst IsUtf8 (encode_ascii 0x20 (omega arith)) (IsUtf8-encode 0x20 refl)) after)

words_utf8 : (begun gap : Bool) (front t : Text) → IsUtf8 (front ++ space_if (begun && gap) t) → IsUtf8 (front ++ words_after begun gap t)
words_utf8 true true front [] utf8 = subst IsUtf8 (sym (append-nil front)) (apart front [] 0x20 (omega arith) utf8).before
words_utf8 true false front [] utf8 = utf8
words_utf8 false gap front [] utf8 = utf8
words_utf8 begun gap front (b ∷ t) utf8 =
    by_space (is_space b) refl begun gap utf8 (λ c u. words_utf8 c true u t) (λ u. words_utf8 true false u t)
  where
    by_space : (x : Bool) → is_space b ≡ x → (c g : Bool) → IsUtf8 (front ++ space_if (c && g) (b ∷ t))
        → ((d : Bool) (u : Text) → IsUtf8 (u ++ space_if (d && true) t) → IsUtf8 (u ++ words_after d true t))
        → ((u : Text) → IsUtf8 (u ++ t) → IsUtf8 (u ++ words_after true false t))
        → IsUtf8 (front ++ (written x (c && g) b ++ words_after (c || not x) x t))
    by_space true e true true is spaced worded =
        let outer = apart front (b ∷ t) 0x20 (omega arith) is in
        let inner = apart [] t b (space_ascii b e) outer.after in
        spaced true front (utf8_space front t outer.before inner.after)
    by_space true e true false is spaced worded =
        let cut = apart front t b (space_ascii b e) is in spaced true front (utf8_space front t cut.before cut.after)
    by_space true e false g is spaced worded =
        let cut = apart front t b (space_ascii b e) is in spaced false front (IsUtf8-append front t cut.before cut.after)
    by_space false e true true is spaced worded =
        subst IsUtf8 (append_assoc front (0x20 ∷ b ∷ []) (words_after true false t))
        (worded (front ++ 0x20 ∷ b ∷ []) (subst IsUtf8 (sym (append_assoc front (0x20 ∷ b ∷ []) t)) is))
    by_space false e true false is spaced worded =
        subst IsUtf8 (append_assoc front (b ∷ []) (words_after true false t))
        (worded (front ++ b ∷ []) (subst IsUtf8 (sym (append_assoc front (b ∷ []) t)) is))
    by_space false e false g is spaced worded =
        subst IsUtf8 (append_assoc front (b ∷ []) (words_after true false t))
        (worded (front ++ b ∷ []) (subst IsUtf8 (sym (append_assoc front (b ∷ []) t)) is))

-- ---- titles

either : (P : Text → Type 0) (t : Text) → P t → P (words t) → P (with_single_spaces t)
either P t same other = cond_both (is_blank (words t)) t (words t) P (λ _. same) (λ _. other)

pub single_stays : (t : Text) → has_single_spaces t ≡ true → with_single_spaces t ≡ t
single_stays t h = either (λ u. u ≡ t) t refl (single_same t h)

pub spaces_once : (t : Text) → with_single_spaces (with_single_spaces t) ≡ with_single_spaces t
spaces_once t = by_blank (is_blank (words t)) refl
  where
    by_blank : (b : Bool) → is_blank (words t) ≡ b → with_single_spaces (with_single_spaces t) ≡ with_single_spaces t
    by_blank true e = ap (λ u. with_single_spaces u) (cond-true (is_blank (words t)) t (words t) e)
    by_blank false e =
        let other : with_single_spaces t ≡ words t = cond-false (is_blank (words t)) t (words t) e in
        ap (λ u. with_single_spaces u) other ∙ single_stays (words t) (all_single t) ∙ sym other

words_less : (t : Text) → length (words t) ≤ length t
unfolding words
words_less t = words_short false false t

pub spaces_short : (t : Text) → length (with_single_spaces t) ≤ length t
spaces_short t = either (λ u. length u ≤ length t) t (omega arith) (words_less t)

all_utf8 : (t : Text) → IsUtf8 t → IsUtf8 (words t)
unfolding words
all_utf8 t utf8 = words_utf8 false false [] t utf8

pub spaces_utf8 : (t : Text) → IsUtf8 t → IsUtf8 (with_single_spaces t)
spaces_utf8 t utf8 = either IsUtf8 t utf8 (all_utf8 t utf8)

pub spaces_filled : (t : Text) → is_blank t ≡ false → is_blank (with_single_spaces t) ≡ false
spaces_filled t filled = cond_both (is_blank (words t)) t (words t) (λ u. is_blank u ≡ false) (λ _. filled) (λ e. e)

-- ---- without markup too

pub plain_stays : (t : Text) → has opening t ≡ false → has ampersand t ≡ false → has_single_spaces t ≡ true → plain_title t ≡ t
plain_stays t h g single = ap (λ u. with_single_spaces u) (unmarked_stays t h g) ∙ single_stays t single

pub plain_short : (t : Text) → length (plain_title t) ≤ length t
plain_short t = omega (arith, short t, spaces_short (without_markup t))

pub plain_utf8 : (t : Text) → IsUtf8 t → IsUtf8 (plain_title t)
plain_utf8 t utf8 = spaces_utf8 (without_markup t) (is_utf8 t utf8)

pub plain_filled : (t : Text) → is_blank t ≡ false → is_blank (plain_title t) ≡ false
plain_filled t filled = spaces_filled (without_markup t) (is_filled t filled)
