-- In a repaired query, either an `&` is before a pair, or no `;` is.
use Rattle.std.proofs.Common.{◌≡◌, ℕ, zero, suc, ◌<◌, Bool, true, false, cond, ◌&&◌, ◌||◌, List, [], ◌∷◌, ◌++◌, map, length, drop, refl}
use Rattle.std.proofs.Common.{sym, ap, subst, ◌∙◌}
use Rattle.std.proofs.Common.{arith}
use Rattle.std.specs.Prelude.{◌==◌}
use Rattle.std.specs.List.{All, onto_first, slice_split, join_with_byte}
use Rattle.std.proofs.lemmas.Bool.{cond_both, false≢true}
use Rattle.std.proofs.lemmas.List.{append-nil}
use Rattle.std.proofs.lemmas.List.Elements.{All-nil, All-cons, All-head, All-tail}
use Rattle.std.proofs.lemmas.List.Splits.{join_with_byte-slice_split}
use Rattle.text_model.specs.Texts.{Text}
use Rattle.query_repair.specs.Keys.{is_key_byte, begins_pair}
use Rattle.query_repair.specs.Pieces.{ampersand, parts, mark_length, after_marks, unmarked, cleaned}
use Rattle.query_repair.specs.Joining.{belongs, separator, pair_after, joined_after}
use Rattle.query_repair.specs.Repair.{semicolon, after_first, separated_parts, separated}
use Rattle.query_repair.proofs.Appended.{pair_before}
use Rattle.query_repair.proofs.Bounds.{some_parts}

abbrev pub IsNoPair : Text → Type 0
IsNoPair t = begins_pair t ≡ false

unfoldable pub first_of : List Text → Text
first_of [] = []
first_of (p ∷ ps) = p

unfoldable pub rest_of : List Text → List Text
rest_of [] = []
rest_of (p ∷ ps) = ps

pub both_fail : (x y : Bool) → (x || y) ≡ false → (x ≡ false) × (y ≡ false)
both_fail true y h = absurd (false≢true (sym h))
both_fail false y h = (refl, h)

-- ---- the first part of a text, and the others

pair_of_first : (c : ℕ) (ps : List Text) → is_key_byte c ≡ false → (c == 0x3d) ≡ false → begins_pair (join_with_byte c ps) ≡ begins_pair (first_of ps)
unfolding first_of
pair_of_first c [] h e = refl
pair_of_first c (p ∷ []) h e = refl
pair_of_first c (p ∷ q ∷ ps) h e = pair_before c p (join_with_byte c (q ∷ ps)) h e

pub pair_of_part_first : (c : ℕ) (t : Text) → is_key_byte c ≡ false → (c == 0x3d) ≡ false
    → begins_pair t ≡ begins_pair (first_of (slice_split (λ b. b == c) t))
pair_of_part_first c t h e =
    ap begins_pair (sym (join_with_byte-slice_split c t)) ∙ pair_of_first c (slice_split (λ b. b == c) t) h e

pub rest_of_onto : (b : ℕ) (ps : List Text) → rest_of (onto_first b ps) ≡ rest_of ps
unfolding rest_of
rest_of_onto b [] = refl
rest_of_onto b (p ∷ ps) = refl

pub all_rest : (P : Text → Type 0) (ps : List Text) → All P ps → All P (rest_of ps)
unfolding rest_of
all_rest P [] h = All-nil P
all_rest P (p ∷ ps) h = All-tail P p ps h

pub all_first : (P : Text → Type 0) (ps : List Text) → 0 < length ps → All P ps → P (first_of ps)
unfolding first_of
all_first P [] some h = absurd (omega arith)
all_first P (p ∷ ps) some h = All-head P p ps h

all_of_both : (P : Text → Type 0) (ps : List Text) → P (first_of ps) → All P (rest_of ps) → All P ps
unfolding first_of rest_of
all_of_both P [] h k = All-nil P
all_of_both P (p ∷ ps) h k = All-cons P p ps h k

-- ---- a `;` before a pair

unfoldable pub semi : Text → Bool
semi [] = false
semi (b ∷ t) = (b == semicolon && begins_pair t) || semi t

abbrev pub by_semicolons : Text → List Text
by_semicolons t = slice_split (λ b. b == semicolon) t

parts_of_none : (t : Text) → semi t ≡ false → All IsNoPair (rest_of (by_semicolons t))
unfolding semi rest_of
parts_of_none [] h = All-nil IsNoPair
parts_of_none (b ∷ t) h =
    let none = both_fail (b == semicolon && begins_pair t) (semi t) h in
    let rest : All IsNoPair (rest_of (by_semicolons t)) = parts_of_none t none.1 in
    cond_both (b == semicolon) ([] ∷ by_semicolons t) (onto_first b (by_semicolons t)) (λ ps. All IsNoPair (rest_of ps))
    (λ e. let no_pair : begins_pair t ≡ false = sym (ap (λ x. x && begins_pair t) e) ∙ none.0 in
    all_of_both IsNoPair (by_semicolons t) (sym (pair_of_part_first semicolon t refl refl) ∙ no_pair) rest)
    (λ e. subst (All IsNoPair) (sym (rest_of_onto b (by_semicolons t))) rest)

semi_choice : (is : Bool) (b : ℕ) (t : Text) → (b == semicolon) ≡ is → (All IsNoPair (rest_of (by_semicolons t)) → semi t ≡ false)
    → All IsNoPair (rest_of (cond is ([] ∷ by_semicolons t) (onto_first b (by_semicolons t)))) → ((is && begins_pair t) || semi t) ≡ false
unfolding rest_of
semi_choice true b t e none h =
    let first : begins_pair t ≡ false =
    pair_of_part_first semicolon t refl refl ∙ all_first IsNoPair (by_semicolons t) (some_parts (λ x. x == semicolon) t) h in
    ap (λ x. x || semi t) first ∙ none (all_rest IsNoPair (by_semicolons t) h)
semi_choice false b t e none h = none (subst (All IsNoPair) (rest_of_onto b (by_semicolons t)) h)

pub none_of_parts : (t : Text) → All IsNoPair (rest_of (by_semicolons t)) → semi t ≡ false
unfolding semi rest_of
none_of_parts [] h = refl
none_of_parts (b ∷ t) h = semi_choice (b == semicolon) b t refl (none_of_parts t) h

-- ---- without one, nothing is separated

followed : (p : Text) (ps : List Text) → All IsNoPair ps → p ++ after_first ps ≡ join_with_byte semicolon (p ∷ ps)
followed p [] h = append-nil p
followed p (q ∷ ps) h =
    let next = followed q ps (All-tail IsNoPair q ps h) in
    ap (λ b. p ++ ((cond b ampersand semicolon ∷ q) ++ after_first ps)) (All-head IsNoPair q ps h) ∙ ap (λ t. p ++ semicolon ∷ t) next

pub separated_same : (ps : List Text) → All IsNoPair (rest_of ps) → separated_parts ps ≡ join_with_byte semicolon ps
unfolding rest_of
separated_same [] h = refl
separated_same (p ∷ ps) h = followed p ps h

pub not_separated_again : (t : Text) → semi t ≡ false → separated t ≡ t
unfolding separated
not_separated_again t h = separated_same (by_semicolons t) (parts_of_none t h) ∙ join_with_byte-slice_split semicolon t

-- ---- what is cut off and joined has none either

semi_dropped : (k : ℕ) (t : Text) → semi t ≡ false → semi (drop k t) ≡ false
unfolding semi
semi_dropped zero t h = h
semi_dropped (suc k) [] h = refl
semi_dropped (suc k) (b ∷ t) h = semi_dropped k t (both_fail (b == semicolon && begins_pair t) (semi t) h).1

semi_marks : (n : ℕ) (t : Text) → semi t ≡ false → semi (after_marks n t) ≡ false
semi_marks zero t h = h
semi_marks (suc n) t h =
    cond_both (mark_length t == 0) t (after_marks n (drop (mark_length t) t)) (λ x. semi x ≡ false) (λ e. h)
    (λ e. semi_marks n (drop (mark_length t) t) (semi_dropped (mark_length t) t h))

semi_cleaned : (t : Text) → semi t ≡ false → semi (cleaned t) ≡ false
unfolding cleaned unmarked
semi_cleaned t h =
    cond_both (begins_pair t) t _ (λ x. semi x ≡ false) (λ e. h)
    (λ e. cond_both _ (after_marks (length t) t) t (λ x. semi x ≡ false) (λ k. semi_marks (length t) t h) (λ k. h))

semi_before : (c : ℕ) (z s : Text) → is_key_byte c ≡ false → (c == 0x3d) ≡ false → (c == semicolon) ≡ false → semi z ≡ false → semi s ≡ false
    → semi (z ++ c ∷ s) ≡ false
unfolding semi
semi_before c [] s key sign e h k = ap (λ b. (b && begins_pair s) || semi s) e ∙ k
semi_before c (b ∷ z) s key sign e h k =
    let none = both_fail (b == semicolon && begins_pair z) (semi z) h in
    ap (λ x. (b == semicolon && x) || semi (z ++ c ∷ s)) (pair_before c z s key sign)
    ∙ ap (λ x. x || semi (z ++ c ∷ s)) none.0
    ∙ semi_before c z s key sign e none.1 k

-- the other way round: if a text has none, neither have its parts
semi_front : (c : ℕ) (z s : Text) → is_key_byte c ≡ false → (c == 0x3d) ≡ false → semi (z ++ c ∷ s) ≡ false → semi z ≡ false
unfolding semi
semi_front c [] s key sign h = refl
semi_front c (b ∷ z) s key sign h =
    let none = both_fail (b == semicolon && begins_pair (z ++ c ∷ s)) (semi (z ++ c ∷ s)) h in
    ap (λ x. (b == semicolon && x) || semi z) (sym (pair_before c z s key sign))
    ∙ ap (λ x. x || semi z) none.0
    ∙ semi_front c z s key sign none.1

semi_back : (c : ℕ) (z s : Text) → semi (z ++ c ∷ s) ≡ false → semi s ≡ false
unfolding semi
semi_back c [] s h = (both_fail _ _ h).1
semi_back c (b ∷ z) s h = semi_back c z s (both_fail _ _ h).1

joined_parts : (ps : List Text) → semi (join_with_byte ampersand ps) ≡ false → All (λ t. semi t ≡ false) ps
joined_parts [] h = All-nil (λ t. semi t ≡ false)
joined_parts (p ∷ []) h = All-cons (λ t. semi t ≡ false) p [] h (All-nil (λ t. semi t ≡ false))
joined_parts (p ∷ q ∷ ps) h =
    All-cons (λ t. semi t ≡ false) p (q ∷ ps) (semi_front ampersand p (join_with_byte ampersand (q ∷ ps)) refl refl h)
    (joined_parts (q ∷ ps) (semi_back ampersand p (join_with_byte ampersand (q ∷ ps)) h))

pub semi_parts : (t : Text) → semi t ≡ false → All (λ x. semi x ≡ false) (parts t)
semi_parts t h = joined_parts (parts t) (ap semi (join_with_byte-slice_split ampersand t) ∙ h)

pub all_cleaned : (ps : List Text) → All (λ x. semi x ≡ false) ps → All (λ x. semi x ≡ false) (map cleaned ps)
all_cleaned [] h = All-nil (λ x. semi x ≡ false)
all_cleaned (p ∷ ps) h =
    let N : Text → Type 0 = λ x. semi x ≡ false in
    All-cons N (cleaned p) (map cleaned ps) (semi_cleaned p (All-head N p ps h)) (all_cleaned ps (All-tail N p ps h))

one_joined : (b : Bool) (text pair piece : Text) (ps : List Text) → semi text ≡ false
    → ((next : Text) → semi (piece ++ joined_after next ps) ≡ false)
    → semi (text ++ (separator b ++ piece ++ joined_after (pair_after b pair piece) ps)) ≡ false
unfolding semi
one_joined true text pair piece ps h k = semi_before 0x25 text (0x32 ∷ 0x36 ∷ (piece ++ joined_after pair ps)) refl refl refl h (k pair)
one_joined false text pair piece ps h k = semi_before ampersand text (piece ++ joined_after piece ps) refl refl refl h (k piece)

pub semi_joined : (ps : List Text) (text pair : Text) → semi text ≡ false → All (λ x. semi x ≡ false) ps → semi (text ++ joined_after pair ps) ≡ false
semi_joined [] text pair h all = ap semi (append-nil text) ∙ h
semi_joined (piece ∷ ps) text pair h all =
    let N : Text → Type 0 = λ x. semi x ≡ false in
    one_joined (belongs pair piece) text pair piece ps h
    (λ next. semi_joined ps piece next (All-head N piece ps all) (All-tail N piece ps all))
