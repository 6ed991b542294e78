-- A repaired query has at most twice the bytes.
use Rattle.std.proofs.Common.{◌≡◌, ℕ, suc, ◌+◌, ◌*◌, ◌<◌, ◌≤◌, inl, inr, Bool, true, false, cond, not, List, [], ◌∷◌, ◌++◌, length, get_or}
use Rattle.std.proofs.Common.{drop, refl, sym, subst, arith, length-append, length-drop}
use Rattle.std.specs.Prelude.{◌==◌}
use Rattle.std.specs.List.{slice_split, onto_first}
use Rattle.std.proofs.Math.Nat.{eq-or-lt_of_le}
use Rattle.std.proofs.Math.Seq.{drop-cons}
use Rattle.std.proofs.lemmas.Bool.{and_parts, not-false, eqb-true}
use Rattle.std.proofs.lemmas.Grind.{common_steps}
use Rattle.std.proofs.lemmas.List.{drop_all}
use Rattle.std.proofs.lemmas.List.Folds.{length-prefix_len}
use Rattle.std.proofs.lemmas.List.Sums.{prefix_len_stops, prefix_len-le-length}
use Rattle.text_model.specs.Texts.{Text}
use Rattle.query_repair.specs.Keys.{begins_pair}
use Rattle.query_repair.specs.Pieces.{ampersand, parts, after_marks, unmarked, cleaned, base_length, base_of, after_base, has_base, opened}
use Rattle.query_repair.specs.Pieces.{pieces_of}
use Rattle.query_repair.specs.Pieces.{pieces}
use Rattle.query_repair.specs.Joining.{is_loose, begins_entity, belongs, separator, pair_after, joined_after, joined}
use Rattle.query_repair.specs.Repair.{semicolon, after_first, separated_parts, separated, has_no_second_pair, with_ampersands, repaired}
use Rattle.query_repair.proofs.Marks.{shorter}

-- the bytes of the parts, and one for what separates each
abbrev weight : List Text → ℕ
weight [] = 0
weight (part ∷ ps) = 1 + length part + weight ps

-- ---- parts

weight_split : (b : Bool) (x : ℕ) (ps : List Text) → 0 < length ps → weight (cond b ([] ∷ ps) (onto_first x ps)) ≡ 1 + weight ps
weight_split true x ps some = omega arith
weight_split false x [] some = absurd (omega arith)
weight_split false x (part ∷ ps) some = omega arith

some_part : (b : Bool) (x : ℕ) (ps : List Text) → 0 < length ps → 0 < length (cond b ([] ∷ ps) (onto_first x ps))
some_part true x ps some = omega arith
some_part false x [] some = absurd (omega arith)
some_part false x (part ∷ ps) some = omega arith

pub some_parts : (p : ℕ → Bool) (t : Text) → 0 < length (slice_split p t)
some_parts p [] = omega arith
some_parts p (b ∷ t) = some_part (p b) b (slice_split p t) (some_parts p t)

weight_of_split : (p : ℕ → Bool) (t : Text) → weight (slice_split p t) ≡ 1 + length t
weight_of_split p [] = refl
weight_of_split p (b ∷ t) = omega (arith, weight_split (p b) b (slice_split p t) (some_parts p t), weight_of_split p t)

-- ---- pieces

unmarked_shorter : (t : Text) → length (unmarked t) ≤ length t
unfolding unmarked
unmarked_shorter t = shorter (length t) t

at_most : (b : Bool) (x y : Text) (n : ℕ) → length x ≤ n → length y ≤ n → length (cond b x y) ≤ n
at_most true x y n h k = h
at_most false x y n h k = k

cleaned_shorter : (t : Text) → length (cleaned t) ≤ length t
unfolding cleaned
cleaned_shorter t =
    at_most (begins_pair t) t _ (length t) (omega arith) (at_most _ (unmarked t) t (length t) (unmarked_shorter t) (omega arith))

no_pair_in_nothing : begins_pair (unmarked []) ≡ false
unfolding begins_pair unmarked
no_pair_in_nothing = refl

-- after a question mark there is one byte less
question_goes : (b : ℕ) (t : Text) → not (b == 0x3f) ≡ false → length (unmarked (b ∷ t)) ≤ length t
unfolding unmarked
question_goes b t is =
    subst (λ x. length (after_marks (length (x ∷ t)) (x ∷ t)) ≤ length t) (sym (eqb-true b 0x3f (not-false (b == 0x3f) is))) (shorter (length t) t)

base_ends : (t : Text) (n : ℕ) → base_length t ≡ n → n < length t → length (unmarked (drop n t)) + n + 1 ≤ length t
base_ends t n is within =
    let p : ℕ → Bool = λ b. not (b == 0x3f) in
    let ends : p (get_or t n 0) ≡ false = subst (λ k. k < length t → p (get_or t k 0) ≡ false) is (prefix_len_stops p t 0) within in
    let after : length (unmarked (get_or t n 0 ∷ drop (suc n) t)) ≤ length (drop (suc n) t) = question_goes (get_or t n 0) (drop (suc n) t) ends in
    let left = length-drop (suc n) t in
    rw (drop-cons t n 0 within) (omega (arith, after, left))

base_all : (t : Text) (n : ℕ) → length t ≤ n → begins_pair (unmarked (drop n t)) ≡ true → ⊥
base_all t n past pair = let e = drop_all n t past in cc (no_pair_in_nothing)

base_shorter : (t : Text) → begins_pair (after_base t) ≡ true → length (base_of t) + 1 + length (after_base t) ≤ length t
base_shorter t pair =
    let n = base_length t in
    let before : length (base_of t) ≡ n = length-prefix_len (λ b. not (b == 0x3f)) t in
    elim (eq-or-lt_of_le (prefix_len-le-length (λ b. not (b == 0x3f)) t)) [
      | inl past ↦ absurd (base_all t n (omega (arith, past)) pair)
      | inr within ↦ omega (arith, before, base_ends t n refl within)
    ]

-- ---- pieces of one part

weight_opened : (b : Bool) (t : Text) → (b ≡ true → length (base_of t) + 1 + length (after_base t) ≤ length t)
    → weight (cond b (base_of t ∷ after_base t ∷ []) (t ∷ [])) ≤ 1 + length t
weight_opened true t h = let less = h refl in omega (arith, less)
weight_opened false t h = omega arith

base_pair : (t : Text) → has_base t ≡ true → begins_pair (after_base t) ≡ true
unfolding has_base
base_pair t h = (and_parts _ _ (and_parts _ _ h).1).0

opened_weight : (t : Text) → weight (opened t) ≤ 1 + length t
opened_weight t = weight_opened (has_base t) t (λ h. base_shorter t (base_pair t h))

weight_append : (ps qs : List Text) → weight (ps ++ qs) ≡ weight ps + weight qs
weight_append [] qs = omega arith
weight_append (p ∷ ps) qs = omega (arith, weight_append ps qs)

weight_pieces : (ps : List Text) → weight (pieces_of ps) ≤ weight ps
weight_pieces [] = omega arith
weight_pieces (p ∷ ps) =
    let joined = weight_append (opened (cleaned p)) (pieces_of ps) in
    omega (arith, joined, opened_weight (cleaned p), cleaned_shorter p, weight_pieces ps)

-- ---- the text

no_part_of_nothing : (pair : Text) → belongs pair [] ≡ false
unfolding belongs is_loose begins_entity
no_part_of_nothing pair = grind (arith, common_steps)

one_short : (b : Bool) (pair p : Text) (ps : List Text) → (b ≡ true → 0 < length p)
    → ((next : Text) → length (joined_after next ps) ≤ 2 * weight ps)
    → length (separator b ++ p ++ joined_after (pair_after b pair p) ps) ≤ 2 * (1 + length p + weight ps)
one_short true pair p ps some rest =
    let is : 0 < length p = some refl in
    simp length-append (omega (arith, is, rest pair))
one_short false pair p ps some rest = simp length-append (omega (arith, rest p))

some_of_part : (pair p : Text) → belongs pair p ≡ true → 0 < length p
some_of_part pair [] h = cc (no_part_of_nothing pair)
some_of_part pair (b ∷ p) h = omega arith

-- each piece takes at most twice what it took
joined_short : (ps : List Text) (pair : Text) → length (joined_after pair ps) ≤ 2 * weight ps
joined_short [] pair = omega arith
joined_short (p ∷ ps) pair = one_short (belongs pair p) pair p ps (some_of_part pair p) (joined_short ps)

joined_all : (ps : List Text) (n : ℕ) → weight ps ≤ 1 + n → length (joined ps) ≤ 2 * n
joined_all [] n h = omega arith
joined_all (p ∷ ps) n h = simp length-append (omega (arith, joined_short ps p))

-- ---- semicolons

after_first_length : (ps : List Text) → length (after_first ps) ≡ weight ps
after_first_length [] = refl
after_first_length (p ∷ ps) = simp length-append (omega (arith, after_first_length ps))

separated_parts_length : (ps : List Text) → 0 < length ps → 1 + length (separated_parts ps) ≡ weight ps
separated_parts_length [] some = absurd (omega arith)
separated_parts_length (p ∷ ps) some = simp length-append (omega (arith, after_first_length ps))

separated_length : (t : Text) → length (separated t) ≡ length t
unfolding separated
separated_length t =
    let p : ℕ → Bool = λ b. b == semicolon in
    omega (arith, separated_parts_length (slice_split p t) (some_parts p t), weight_of_split p t)

same_length : (b : Bool) (x y : Text) → length x ≡ length y → length (cond b x y) ≡ length y
same_length true x y e = e
same_length false x y e = refl

-- ---- the query

pieces_weight : (t : Text) → weight (pieces t) ≤ 1 + length t
pieces_weight t = omega (arith, weight_pieces (parts t), weight_of_split (λ b. b == ampersand) t)

pub repaired_bound : (query : Text) → length (repaired query) ≤ 2 * length query
unfolding repaired
repaired_bound query =
    let t = with_ampersands query in
    let same : length t ≡ length query = same_length (has_no_second_pair (parts query)) (separated query) query (separated_length query) in
    joined_all (pieces t) (length query) (subst (λ n. weight (pieces t) ≤ 1 + n) same (pieces_weight t))
