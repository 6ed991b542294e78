-- Words and lines of numbers.
use Rattle.std.proofs.Common.{◌≡◌, ℕ, ◌<◌, ◌≤◌, ◌+◌, Bool, true, false, List, [], ◌∷◌, ◌++◌, length, map}
use Rattle.std.proofs.Common.{refl, sym, ap, ◌∙◌, subst, append_assoc, arith}
use Rattle.std.specs.Prelude.{◌==◌, ◌&&◌, not}
use Rattle.std.specs.Borrow.{Bor}
use Rattle.std.specs.List.{All, fold, join_with_byte, list_all, onto_first, slice_split}
use Rattle.std.specs.Str.{IsUtf8}
use Rattle.std.proofs.lemmas.Bool.{and_parts, cond_both, cond-false, cond-true, eqb-true, not-true}
use Rattle.std.proofs.lemmas.Bool.Decides.{nat_tests}
use Rattle.std.proofs.lemmas.List.{length-append}
use Rattle.std.proofs.lemmas.List.Sums.{fold_push}
use Rattle.std.proofs.lemmas.List.Splits.{slice_split-cons_yes, slice_split-cons_no, slice_split_none, join_with_byte-slice_split}
use Rattle.std.proofs.lemmas.Str.{IsUtf8-nil, IsUtf8-append, IsUtf8-from_ascii}
use Rattle.std.proofs.lemmas.Str.Ascii.{IsAscii-nil, IsAscii-cons}
use Rattle.text_model.specs.Texts.{Text, texts_of}
use Rattle.written_numbers.specs.Characters.{space, line_feed}
use Rattle.written_numbers.specs.Numbers.{visible, is_begun, ends_with_hyphen, with_part, with_word, with_line, words, joined_lines}
use Rattle.written_numbers.specs.Numbers.{may_follow, is_plain_after, is_plain}
use Rattle.written_numbers.proofs.Parts.{parts_utf8, map_utf8, fold_utf8, spread_parts, spread_map, fold_short, some_part, not_empty}

-- ---- one part more

texts_more : (ys : List (Bor Text)) (y : Bor Text) → texts_of (ys ++ y ∷ []) ≡ texts_of ys ++ y.now ∷ []
texts_more [] y = refl
texts_more (x ∷ ys) y = ap (λ u. x.now ∷ u) (texts_more ys y)

pub word_more : (ys : List (Bor Text)) (y : Bor Text) → fold with_word [] (texts_of (ys ++ y ∷ [])) ≡ with_word (fold with_word [] (texts_of ys)) y.now
word_more ys y = ap (λ u. fold with_word [] u) (texts_more ys y) ∙ fold_push with_word [] (texts_of ys) y.now

pub line_more : (ys : List (Bor Text)) (y : Bor Text)
    → fold with_line [] (map words (texts_of (ys ++ y ∷ []))) ≡ with_line (fold with_line [] (map words (texts_of ys))) (words y.now)
line_more ys y =
    ap (λ u. fold with_line [] u) (ap (λ u. map words u) (texts_more ys y) ∙ words_more (texts_of ys))
    ∙ fold_push with_line [] (map words (texts_of ys)) (words y.now)
  where
    words_more : (ts : List Text) → map words (ts ++ y.now ∷ []) ≡ map words ts ++ words y.now ∷ []
    words_more [] = refl
    words_more (t ∷ ts) = ap (λ u. words t ∷ u) (words_more ts)

part_short : (gap : Bool) (before part : Text) → length (with_part gap before part) ≤ length before + 1 + length part
part_short gap before part =
    let P : Text → Type 0 = λ u. length u ≤ length before + 1 + length part in
    cond_both (length part == 0) before _ P (λ e. omega arith)
    (λ e. cond_both gap (before ++ space ∷ part) (before ++ part) P (λ g. omega (arith, length-append before (space ∷ part)))
    (λ g. omega (arith, length-append before part)))

part_utf8 : (gap : Bool) (before part : Text) → IsUtf8 before → IsUtf8 part → IsUtf8 (with_part gap before part)
part_utf8 gap before part a b =
    let spaced : IsUtf8 (space ∷ part) =
    IsUtf8-append (space ∷ []) part (IsUtf8-from_ascii (space ∷ []) (IsAscii-cons space [] (omega arith) IsAscii-nil)) b in
    cond_both (length part == 0) before _ IsUtf8 (λ e. a)
    (λ e. cond_both gap (before ++ space ∷ part) (before ++ part) IsUtf8 (λ g. IsUtf8-append before (space ∷ part) a spaced)
    (λ g. IsUtf8-append before part a b))

-- a first part has no gap before it
first_part : (part : Text) → with_part false [] part ≡ part
first_part [] = refl
first_part (b ∷ t) = cond-false (length (b ∷ t) == 0) [] (b ∷ t) (not_empty b t)

-- ---- how long they are

fold_parts : (step : Text → Text → Text) → ((a b : Text) → length (step a b) ≤ length a + 1 + length b) → ((b : Text) → step [] b ≡ b)
    → (f : Text → Text) → ((t : Text) → length (f t) ≤ length t) → (c : ℕ) (t : Text)
    → length (fold step [] (map f (slice_split (λ b. b == c) t))) ≤ length t
fold_parts step h first f less c t =
    some_part (λ parts. length (fold step [] (map f parts)) ≤ length t) (λ b. b == c) t
    (λ part parts is.
    let all = fold_short c step h (step [] (f part)) (map f parts) in
    omega (arith, all, ap length (first (f part)), less part, spread_map c f less parts, spread_parts c t part parts is))

words_short : (line : Text) → length (words line) ≤ length line
unfolding words
words_short line =
    some_part (λ parts. length (fold with_word [] parts) ≤ length line) (λ b. b == space) line
    (λ part parts is.
    let all = fold_short space with_word (λ a b. part_short (is_begun a) a b) (with_word [] part) parts in
    omega (arith, all, ap length (first_part part), spread_parts space line part parts is))

pub lines_short : (t : Text) → length (joined_lines t) ≤ length t
unfolding joined_lines
lines_short t =
    fold_parts with_line (λ a b. part_short (is_begun a && not (ends_with_hyphen a)) a b) first_part words words_short line_feed t

-- ---- UTF-8

words_utf8 : (line : Text) → IsUtf8 line → IsUtf8 (words line)
unfolding words
words_utf8 line utf8 =
    fold_utf8 with_word (λ a b. part_utf8 (is_begun a) a b) [] (slice_split (λ b. b == space) line) IsUtf8-nil (parts_utf8 space (omega arith) line utf8)

pub lines_utf8 : (t : Text) → IsUtf8 t → IsUtf8 (joined_lines t)
unfolding joined_lines
lines_utf8 t utf8 =
    fold_utf8 with_line (λ a b. part_utf8 (is_begun a && not (ends_with_hyphen a)) a b) [] (map words (slice_split (λ b. b == line_feed) t))
    IsUtf8-nil (map_utf8 words words_utf8 (slice_split (λ b. b == line_feed) t) (parts_utf8 line_feed (omega arith) t utf8))

-- ---- words with single spaces

begun_long : (t : Text) → is_begun t ≡ true → 0 < length t
begun_long t h = grind (arith, nat_tests)

long_begun : (t : Text) → 0 < length t → is_begun t ≡ true
long_begun t h = grind (arith, nat_tests)

next_word : (before word : Text) → is_begun before ≡ true → is_begun word ≡ true → with_word before word ≡ before ++ space ∷ word
next_word before word a b =
    cond-false (length word == 0) before _ (not-true (length word == 0) b)
    ∙ cond-true (is_begun before) (before ++ space ∷ word) (before ++ word) a

join_front : (before word : Text) (parts : List Text)
    → join_with_byte space ((before ++ space ∷ word) ∷ parts) ≡ join_with_byte space (before ∷ word ∷ parts)
join_front before word [] = refl
join_front before word (t ∷ ts) = append_assoc before (space ∷ word) (space ∷ join_with_byte space (t ∷ ts))

fold_joins : (before : Text) (parts : List Text) → is_begun before ≡ true → list_all is_begun parts ≡ true
    → fold with_word before parts ≡ join_with_byte space (before ∷ parts)
fold_joins before [] a are = refl
fold_joins before (t ∷ ts) a are =
    let tests = and_parts (is_begun t) (list_all is_begun ts) are in
    ap (λ u. fold with_word u ts) (next_word before t a tests.0)
    ∙ fold_joins (before ++ space ∷ t) ts (long_begun (before ++ space ∷ t) (omega (arith, length-append before (space ∷ t)))) tests.1
    ∙ join_front before t ts

words_join : (line : Text) → list_all is_begun (slice_split (λ b. b == space) line) ≡ true → words line ≡ line
unfolding words
words_join line are =
    by_parts (slice_split (λ b. b == space) line) are (join_with_byte-slice_split space line)
  where
    by_parts : (parts : List Text) → list_all is_begun parts ≡ true → join_with_byte space parts ≡ line → fold with_word [] parts ≡ line
    by_parts [] a e = e
    by_parts (t ∷ ts) a e =
        let tests = and_parts (is_begun t) (list_all is_begun ts) a in
        ap (λ u. fold with_word u ts) (first_part t) ∙ fold_joins t ts tests.0 tests.1 ∙ e

-- ---- texts that stay

-- each part but the first
abbrev are_next : List Text → Bool
are_next [] = true
are_next (t ∷ ts) = list_all is_begun ts

abbrev are_filled : Bool → List Text → Bool
are_filled true parts = list_all is_begun parts
are_filled false parts = are_next parts

onto : (b : ℕ) (parts : List Text) → are_next parts ≡ true → (gap : Bool) → are_filled gap (onto_first b parts) ≡ true
onto b [] are true = refl
onto b [] are false = refl
onto b (t ∷ ts) are true = ap (λ x. not x && list_all is_begun ts) (not_empty b t) ∙ are
onto b (t ∷ ts) are false = are

filled_after : (gap : Bool) (t : Text) → is_plain_after gap t ≡ true → are_filled gap (slice_split (λ b. b == space) t) ≡ true
unfolding visible
filled_after true [] h = cc
filled_after false [] h = refl
filled_after gap (b ∷ t) h =
    let tests = and_parts (may_follow gap b) (is_plain_after (b == space) t) h in
    by_space (b == space) refl gap tests.0 (filled_after (b == space) t tests.1)
  where
    no_space : may_follow true space ≡ true → ⊥
    no_space g = cc

    no_gap : (g : Bool) → b ≡ space → may_follow g b ≡ true → list_all is_begun (slice_split (λ d. d == space) t) ≡ true
        → are_filled g ([] ∷ slice_split (λ d. d == space) t) ≡ true
    no_gap true e follows rest = absurd (no_space (subst (λ d. may_follow true d ≡ true) e follows))
    no_gap false e follows rest = rest

    by_space : (x : Bool) → (b == space) ≡ x → (g : Bool) → may_follow g b ≡ true → are_filled x (slice_split (λ d. d == space) t) ≡ true
        → are_filled g (slice_split (λ d. d == space) (b ∷ t)) ≡ true
    by_space true e g follows rest =
        subst (λ u. are_filled g u ≡ true) (sym (slice_split-cons_yes (λ d. d == space) b t e)) (no_gap g (eqb-true b space e) follows rest)
    by_space false e g follows rest =
        subst (λ u. are_filled g u ≡ true) (sym (slice_split-cons_no (λ d. d == space) b t e))
        (onto b (slice_split (λ d. d == space) t) rest g)

pub words_same : (line : Text) → is_plain line ≡ true → words line ≡ line
words_same line h = words_join line (filled_after true line h)

-- one line
one_line : (t : Text) → All (λ b. (b == line_feed) ≡ false) t → words t ≡ t → joined_lines t ≡ t
unfolding joined_lines
one_line t none same =
    ap (λ u. fold with_line [] (map words u)) (slice_split_none (λ b. b == line_feed) t none)
    ∙ first_part (words t) ∙ same

pub lines_same : (t : Text) → All (λ b. (b == line_feed) ≡ false) t → is_plain t ≡ true → joined_lines t ≡ t
lines_same t none h = one_line t none (words_same t h)
