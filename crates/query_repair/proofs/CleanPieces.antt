-- Each piece of a query is clean, has no base and no `&`; so cleaning and opening it again changes nothing.
use Rattle.std.proofs.Common.{◌≡◌, ℕ, zero, suc, ◌+◌, ◌<◌, ◌≤◌, Bool, true, false, cond, not, ◌&&◌, ◌||◌, List, [], ◌∷◌, length}
use Rattle.std.proofs.Common.{take, drop, refl, sym, ap, ◌∙◌, arith, length-drop}
use Rattle.std.specs.Prelude.{◌==◌}
use Rattle.std.specs.List.{All, list_all, prefix_len, onto_first}
use Rattle.std.proofs.lemmas.Bool.{and_parts, cond_both, eqb-true, false≢true}
use Rattle.std.proofs.lemmas.List.{take-take, get_or-take, drop_all, length-take-le}
use Rattle.std.proofs.lemmas.List.Elements.{All-nil, All-cons, All-head, All-tail, All-append, All-take, All-drop}
use Rattle.std.proofs.lemmas.List.Folds.{length-prefix_len}
use Rattle.std.proofs.lemmas.List.Sums.{prefix_len-le-length, prefix_len_is, prefix_len_passes, prefix_len_stops}
use Rattle.text_model.specs.Texts.{Text}
use Rattle.query_repair.specs.Keys.{is_key_byte, key_length, key_of, begins_pair, is_known}
use Rattle.query_repair.specs.Pieces.{ampersand, parts, mark_length, after_marks, unmarked, cleaned, base_length, base_of, after_base}
use Rattle.query_repair.specs.Pieces.{is_base_byte, is_base, begins_known, has_base, opened, pieces_of}
use Rattle.query_repair.proofs.Appended.{no_and}
use Rattle.query_repair.proofs.Marks.{no_mark, some_from_test}
use Rattle.query_repair.proofs.Unmarked.{nothing_known}

abbrev pub IsWhole : Text → Type 0
IsWhole t = All (λ b. (b == ampersand) ≡ false) t

pub record IsFit (piece : Text) : Type 0 where
  pub clean : cleaned piece ≡ piece
  pub closed : has_base piece ≡ false
  pub whole : IsWhole piece

-- ---- no marks are left

no_more : (n : ℕ) (t : Text) → length t ≤ n → mark_length (after_marks n t) ≡ 0
no_more zero [] small = refl
no_more zero (b ∷ t) small = absurd (omega arith)
no_more (suc n) t small =
    let k : ℕ = mark_length t in
    let left = length-drop k t in
    cond_both (k == 0) t (after_marks n (drop k t)) (λ x. mark_length x ≡ 0) (λ e. eqb-true k 0 e)
    (λ e. let some : 0 < k = some_from_test k e in no_more n (drop k t) (omega (arith, left)))

unmarked_twice : (t : Text) → unmarked (unmarked t) ≡ unmarked t
unfolding unmarked
unmarked_twice t =
    let none : mark_length (after_marks (length t) t) ≡ 0 = no_more (length t) t (omega arith) in
    sym (no_mark (after_marks (length t) t) (omega (arith, none)))

-- ---- clean pieces

pub clean_pair : (t : Text) → begins_pair t ≡ true → cleaned t ≡ t
unfolding cleaned
clean_pair t h = ap (λ b. cond b t (cond (begins_pair (unmarked t) || is_known (unmarked t)) (unmarked t) t)) h

same_all : (b c : Bool) (u v : Text) → v ≡ u → cond b u (cond c v u) ≡ u
same_all true c u v e = refl
same_all false true u v e = e
same_all false false u v e = refl

clean_unmarked : (u : Text) → unmarked u ≡ u → cleaned u ≡ u
unfolding cleaned
clean_unmarked u h = same_all (begins_pair u) (begins_pair (unmarked u) || is_known (unmarked u)) u (unmarked u) h

clean_neither : (t : Text) → begins_pair t ≡ false → (begins_pair (unmarked t) || is_known (unmarked t)) ≡ false → cleaned t ≡ t
unfolding cleaned
clean_neither t h k =
    ap (λ b. cond b t (cond (begins_pair (unmarked t) || is_known (unmarked t)) (unmarked t) t)) h ∙ ap (λ b. cond b (unmarked t) t) k

pub clean_twice : (t : Text) → cleaned (cleaned t) ≡ cleaned t
unfolding cleaned
clean_twice t =
    let C : Text → Type 0 = λ x. cleaned x ≡ x in
    cond_both (begins_pair t) t _ C (λ e. clean_pair t e)
    (λ e. cond_both (begins_pair (unmarked t) || is_known (unmarked t)) (unmarked t) t C (λ k. clean_unmarked (unmarked t) (unmarked_twice t))
    (λ k. clean_neither t e k))

-- ---- whole pieces

marks_whole : (n : ℕ) (t : Text) → IsWhole t → IsWhole (after_marks n t)
marks_whole zero t h = h
marks_whole (suc n) t h =
    cond_both (mark_length t == 0) t (after_marks n (drop (mark_length t) t)) IsWhole (λ e. h)
    (λ e. marks_whole n (drop (mark_length t) t) (All-drop (λ b. (b == ampersand) ≡ false) (mark_length t) t h))

unmarked_whole : (t : Text) → IsWhole t → IsWhole (unmarked t)
unfolding unmarked
unmarked_whole t h = marks_whole (length t) t h

cleaned_whole : (t : Text) → IsWhole t → IsWhole (cleaned t)
unfolding cleaned
cleaned_whole t h =
    cond_both (begins_pair t) t _ IsWhole (λ e. h)
    (λ e. cond_both (begins_pair (unmarked t) || is_known (unmarked t)) (unmarked t) t IsWhole (λ k. unmarked_whole t h) (λ k. h))

onto_whole : (b : ℕ) (ps : List Text) → (b == ampersand) ≡ false → All IsWhole ps → All IsWhole (onto_first b ps)
onto_whole b [] h all =
    let P : ℕ → Type 0 = λ x. (x == ampersand) ≡ false in
    All-cons IsWhole (b ∷ []) [] (All-cons P b [] h (All-nil P)) (All-nil IsWhole)
onto_whole b (p ∷ ps) h all =
    let P : ℕ → Type 0 = λ x. (x == ampersand) ≡ false in
    All-cons IsWhole (b ∷ p) ps (All-cons P b p h (All-head IsWhole p ps all)) (All-tail IsWhole p ps all)

whole_more : (b : ℕ) (cut : Bool) (ps : List Text) → (b == ampersand) ≡ cut → All IsWhole ps → All IsWhole (cond cut ([] ∷ ps) (onto_first b ps))
whole_more b true ps h all = All-cons IsWhole [] ps (All-nil (λ x. (x == ampersand) ≡ false)) all
whole_more b false ps h all = onto_whole b ps h all

pub parts_whole : (t : Text) → All IsWhole (parts t)
parts_whole [] = All-cons IsWhole [] [] (All-nil (λ x. (x == ampersand) ≡ false)) (All-nil IsWhole)
parts_whole (b ∷ t) = whole_more b (b == ampersand) (parts t) refl (parts_whole t)

-- ---- the pair of a base URL

base_is_whole_base : (t : Text) → base_length (base_of t) ≡ length (base_of t)
base_is_whole_base t =
    let p : ℕ → Bool = λ b. not (b == 0x3f) in
    let m : ℕ = prefix_len p t in
    let is : length (take m t) ≡ m = length-prefix_len p t in
    prefix_len_is p (take m t) (length (take m t)) 0 (omega arith)
    (λ k below. let k-below : k < m = omega (arith, is) in ap p (get_or-take m t k 0 k-below) ∙ prefix_len_passes p t k 0 k-below)
    (λ more. absurd (omega arith))

base_closed : (t : Text) → has_base (base_of t) ≡ false
unfolding has_base
base_closed t =
    let b : Text = base_of t in
    no_and (is_base (base_of b)) (begins_known (after_base b))
    (ap (λ n. begins_known (unmarked (drop n b))) (base_is_whole_base t)
    ∙ ap (λ s. begins_known (unmarked s)) (drop_all (length b) b (omega arith))
    ∙ nothing_known)

-- ---- the pair after it

prefix_le_choice : (b c : Bool) (m n : ℕ) → (b ≡ true → c ≡ true) → m ≤ n → cond b (1 + m) 0 ≤ cond c (1 + n) 0
prefix_le_choice true true m n h k = omega arith
prefix_le_choice true false m n h k = absurd (false≢true (h refl))
prefix_le_choice false c m n h k = omega arith

prefix_le : (p q : ℕ → Bool) (t : Text) → ((b : ℕ) → p b ≡ true → q b ≡ true) → prefix_len p t ≤ prefix_len q t
prefix_le p q [] h = omega arith
prefix_le p q (b ∷ t) h = prefix_le_choice (p b) (q b) (prefix_len p t) (prefix_len q t) (h b) (prefix_le p q t h)

question_choice : (b : ℕ) (is : Bool) → (b == 0x3f) ≡ is → is_key_byte b ≡ true → not is ≡ true
question_choice b true e h = let same : is_key_byte b ≡ false = ap is_key_byte (eqb-true b 0x3f e) in cc
question_choice b false e h = refl

no_question_in_key : (b : ℕ) → is_key_byte b ≡ true → not (b == 0x3f) ≡ true
no_question_in_key b h = question_choice b (b == 0x3f) refl h

key_of_base : (t : Text) → key_of (base_of t) ≡ key_of t
key_of_base t =
    let n : ℕ = base_length t in
    let k : ℕ = key_length t in
    let before : k ≤ n = prefix_le is_key_byte (λ b. not (b == 0x3f)) t no_question_in_key in
    let within : n ≤ length t = prefix_len-le-length (λ b. not (b == 0x3f)) t in
    let is : length (take n t) ≡ n = length-take-le n t within in
    let same : key_length (take n t) ≡ k =
    prefix_len_is is_key_byte (take n t) k 0 (omega (arith, is, before))
    (λ j below. ap is_key_byte (get_or-take n t j 0 (omega (arith, before))) ∙ prefix_len_passes is_key_byte t j 0 below)
    (λ more. let in_base : k < n = omega (arith, is, more) in
    ap is_key_byte (get_or-take n t k 0 in_base) ∙ prefix_len_stops is_key_byte t 0 (omega (arith, in_base, within))) in
    ap (λ m. take m (take n t)) same ∙ take-take k n t before

known_closed : (t : Text) → is_known (key_of t) ≡ true → has_base t ≡ false
unfolding has_base
known_closed t known =
    let b : Text = base_of t in
    let not_new : not (is_known (key_of b)) ≡ false = ap (λ key. not (is_known key)) (key_of_base t) ∙ ap not known in
    let none : is_base b ≡ false = ap (λ x. x && list_all is_base_byte b) (no_and (begins_pair b) (not (is_known (key_of b))) not_new) in
    ap (λ x. x && begins_known (after_base t)) none

-- ---- all pieces

pub base_parts : (t : Text) → has_base t ≡ true
    → (begins_pair (base_of t) ≡ true) × (begins_pair (after_base t) ≡ true) × (is_known (key_of (after_base t)) ≡ true)
unfolding has_base
base_parts t h =
    let both = and_parts (is_base (base_of t)) (begins_known (after_base t)) h in
    let base = and_parts _ _ (and_parts _ _ both.0).0 in
    let after = and_parts (begins_pair (after_base t)) (is_known (key_of (after_base t))) both.1 in
    (base.0, after.0, after.1)

fit_pieces : (t : Text) (b : Bool) → has_base t ≡ b → cleaned t ≡ t → IsWhole t → All IsFit (cond b (base_of t ∷ after_base t ∷ []) (t ∷ []))
fit_pieces t true has clean whole =
    let P : ℕ → Type 0 = λ x. (x == ampersand) ≡ false in
    let both = base_parts t has in
    All-cons IsFit (base_of t) (after_base t ∷ [])
    (record { clean = clean_pair (base_of t) both.0; closed = base_closed t; whole = All-take P (base_length t) t whole })
    (All-cons IsFit (after_base t) []
    (record {
      clean = clean_pair (after_base t) both.1;
      closed = known_closed (after_base t) both.2;
      whole = unmarked_whole (drop (base_length t) t) (All-drop P (base_length t) t whole);
    })
    (All-nil IsFit))
fit_pieces t false has clean whole = All-cons IsFit t [] (record { clean = clean; closed = has; whole = whole }) (All-nil IsFit)

pub pieces_fit : (ps : List Text) → All IsWhole ps → All IsFit (pieces_of ps)
pieces_fit [] h = All-nil IsFit
pieces_fit (p ∷ ps) h =
    let c : Text = cleaned p in
    All-append IsFit (opened c) (pieces_of ps)
    (fit_pieces c (has_base c) refl (clean_twice p) (cleaned_whole p (All-head IsWhole p ps h)))
    (pieces_fit ps (All-tail IsWhole p ps h))
