-- A query without `?`, `;` and loose text needs no repair.
use Rattle.std.proofs.Common.{◌≡◌, ℕ, zero, suc, ◌≤◌, Bool, true, false, cond, not, ◌&&◌, ◌||◌, List, [], ◌∷◌, length, get_or, drop, refl}
use Rattle.std.proofs.Common.{sym}
use Rattle.std.proofs.Common.{ap, ◌∙◌, arith}
use Rattle.std.specs.Prelude.{◌==◌, nat_eq, codes}
use Rattle.std.specs.Char.{to_ascii_lowercase}
use Rattle.std.specs.List.{All, prefix_len, onto_first}
use Rattle.std.proofs.lemmas.Bool.Decides.{nat_tests}
use Rattle.std.proofs.lemmas.Grind.{common_steps}
use Rattle.std.proofs.lemmas.List.{append-nil, drop_all}
use Rattle.std.proofs.lemmas.List.Elements.{All-nil, All-cons, All-head, All-tail}
use Rattle.std.proofs.lemmas.List.Splits.{slice_split_none}
use Rattle.std.proofs.lemmas.List.Sums.{prefix_len_is}
use Rattle.text_model.specs.Texts.{Text}
use Rattle.uri_text.specs.AnyCase.{begins_in_any_case}
use Rattle.query_repair.specs.Keys.{begins_pair, is_known}
use Rattle.query_repair.specs.Pieces.{ampersand, parts, begins_with_question, mark_length, unmarked, cleaned, base_length, begins_known}
use Rattle.query_repair.specs.Pieces.{has_base}
use Rattle.query_repair.specs.Joining.{is_titled, is_loose, is_entity_byte, begins_entity, belongs}
use Rattle.query_repair.specs.Repair.{semicolon, separated_parts, separated}
use Rattle.query_repair.specs.Settled.{are_apart_from, are_apart, IsSettled, is_mark, HasNoMarks}
use Rattle.query_repair.proofs.Marks.{no_mark}

abbrev IsPlain : Text → Type 0
IsPlain t = All (λ b. is_mark b ≡ false) t

no_semicolon : (b : ℕ) → is_mark b ≡ false → (b == semicolon) ≡ false
no_semicolon b h = grind (arith, nat_tests)

-- ---- its parts have none either

abbrev ArePlain : List Text → Type 0
ArePlain ps = All IsPlain ps

onto : (b : ℕ) (ps : List Text) → is_mark b ≡ false → ArePlain ps → ArePlain (onto_first b ps)
onto b [] h all = All-cons IsPlain (b ∷ []) [] (All-cons (λ x. is_mark x ≡ false) b [] h (All-nil (λ x. is_mark x ≡ false))) (All-nil IsPlain)
onto b (p ∷ ps) h all =
    All-cons IsPlain (b ∷ p) ps (All-cons (λ x. is_mark x ≡ false) b p h (All-head IsPlain p ps all)) (All-tail IsPlain p ps all)

part_more : (b : ℕ) (cut : Bool) (ps : List Text) → is_mark b ≡ false → ArePlain ps → ArePlain (cond cut ([] ∷ ps) (onto_first b ps))
part_more b true ps h all = All-cons IsPlain [] ps (All-nil (λ x. is_mark x ≡ false)) all
part_more b false ps h all = onto b ps h all

plain_parts : (t : Text) → IsPlain t → ArePlain (parts t)
plain_parts [] h = All-cons IsPlain [] [] (All-nil (λ x. is_mark x ≡ false)) (All-nil IsPlain)
plain_parts (b ∷ t) h =
    let P : ℕ → Type 0 = λ x. is_mark x ≡ false in
    part_more b (b == ampersand) (parts t) (All-head P b t h) (plain_parts t (All-tail P b t h))

-- ---- no marks

lower_differs : (b : ℕ) → is_mark b ≡ false → nat_eq (to_ascii_lowercase b) semicolon ≡ false
lower_differs b h = grind (arith, nat_tests)

last_fails : (x y z w : Bool) → w ≡ false → (x && (y && (z && (w && true)))) ≡ false
last_fails true true true w h = ap (λ b. b && true) h
last_fails true true false w h = refl
last_fails true false z w h = refl
last_fails false y z w h = refl

no_escape : (t : Text) → IsPlain t → begins_in_any_case t (codes "amp;") ≡ false
no_escape [] h = refl
no_escape (a ∷ []) h = grind (arith, common_steps)
no_escape (a ∷ b ∷ []) h = grind (arith, common_steps)
no_escape (a ∷ b ∷ c ∷ []) h = grind (arith, common_steps)
no_escape (a ∷ b ∷ c ∷ d ∷ t) h =
    last_fails (nat_eq (to_ascii_lowercase a) 0x61) (nat_eq (to_ascii_lowercase b) 0x6d) (nat_eq (to_ascii_lowercase c) 0x70)
    (nat_eq (to_ascii_lowercase d) semicolon) (lower_differs d (h 3 0 (omega arith)))

no_question : (t : Text) → IsPlain t → begins_with_question t ≡ false
no_question [] h = refl
no_question (b ∷ t) h = let first : is_mark b ≡ false = h 0 0 (omega arith) in grind (arith, nat_tests)

no_marks : (t : Text) → IsPlain t → mark_length t ≤ 0
no_marks t h =
    let none : mark_length t ≡ 0 =
    ap (λ b. cond b 4 (cond (begins_with_question t) 1 0)) (no_escape t h) ∙ ap (λ b. cond b 1 0) (no_question t h) in
    omega (arith, none)

unmarked_same : (t : Text) → IsPlain t → unmarked t ≡ t
unfolding unmarked
unmarked_same t h = sym (no_mark t (no_marks t h))

same_choice : (b : Bool) (x y : Text) → x ≡ y → cond b x y ≡ y
same_choice true x y e = e
same_choice false x y e = refl

either_same : (b : Bool) (x y : Text) → y ≡ x → cond b x y ≡ x
either_same true x y e = refl
either_same false x y e = e

clean_same : (t : Text) → IsPlain t → cleaned t ≡ t
unfolding cleaned
clean_same t h =
    let rest : cond (begins_pair (unmarked t) || is_known (unmarked t)) (unmarked t) t ≡ t =
    same_choice (begins_pair (unmarked t) || is_known (unmarked t)) (unmarked t) t (unmarked_same t h) in
    either_same (begins_pair t) t (cond (begins_pair (unmarked t) || is_known (unmarked t)) (unmarked t) t) rest

-- ---- no base

base_whole : (t : Text) → IsPlain t → base_length t ≡ length t
base_whole t h =
    prefix_len_is (λ b. not (b == 0x3f)) t (length t) 0 (omega arith)
    (λ k within. let other : is_mark (get_or t k 0) ≡ false = h k 0 within in grind (arith, nat_tests)) (λ more. absurd (omega arith))

pub nothing_known : begins_known (unmarked []) ≡ false
unfolding begins_pair unmarked
nothing_known = refl

no_and : (x y : Bool) → y ≡ false → (x && y) ≡ false
no_and true y e = e
no_and false y e = refl

no_base : (t : Text) → IsPlain t → has_base t ≡ false
unfolding has_base
no_base t h =
    no_and _ _
    (ap (λ n. begins_known (unmarked (drop n t))) (base_whole t h)
    ∙ ap (λ s. begins_known (unmarked s)) (drop_all (length t) t (omega arith))
    ∙ nothing_known)

-- ---- no part of another piece

byte_differs : (t : Text) (n : ℕ) → IsPlain t → (get_or t n 0 == 0x3b) ≡ false
byte_differs [] n h = refl
byte_differs (b ∷ t) zero h = no_semicolon b (h 0 0 (omega arith))
byte_differs (b ∷ t) (suc n) h = byte_differs t n (All-tail (λ x. is_mark x ≡ false) b t h)

neither : (x y z w : Bool) → y ≡ false → w ≡ false → (x && y || z && w) ≡ false
neither x y z w h k = grind (arith, common_steps)

no_entity : (t : Text) → IsPlain t → begins_entity t ≡ false
unfolding begins_entity
no_entity t h = no_and _ _ (byte_differs t (prefix_len is_entity_byte t) h)

no_part : (pair piece : Text) → is_loose piece ≡ false → IsPlain piece → belongs pair piece ≡ false
unfolding belongs
no_part pair piece tight h = neither (is_titled pair) (is_loose piece) (begins_pair pair) (begins_entity piece) tight (no_entity piece h)

apart_from : (first : Text) (others : List Text) → All (λ part. is_loose part ≡ false) others → ArePlain others → are_apart_from first others ≡ true
apart_from first [] tight h = refl
apart_from first (second ∷ others) tight h =
    let L : Text → Type 0 = λ part. is_loose part ≡ false in
    ap (λ b. not b && are_apart_from second others) (no_part first second (All-head L second others tight) (All-head IsPlain second others h))
    ∙ apart_from second others (All-tail L second others tight) (All-tail IsPlain second others h)

all_apart : (ps : List Text) → All (λ part. is_loose part ≡ false) ps → ArePlain ps → are_apart ps ≡ true
all_apart [] tight h = refl
all_apart (first ∷ others) tight h =
    apart_from first others (All-tail (λ part. is_loose part ≡ false) first others tight) (All-tail IsPlain first others h)

-- ---- the query

not_separated : (t : Text) → IsPlain t → separated t ≡ t
unfolding separated
not_separated t h =
    let none : All (λ b. (b == semicolon) ≡ false) t = λ k d within. no_semicolon (get_or t k d) (h k d within) in
    ap separated_parts (slice_split_none (λ b. b == semicolon) t none) ∙ append-nil t

every : (P Q : Text → Type 0) (ps : List Text) → ((t : Text) → P t → Q t) → All P ps → All Q ps
every P Q ps then h = λ k d within. then (get_or ps k d) (h k d within)

pub unmarked_settled : (query : Text) → HasNoMarks query → IsSettled query
unmarked_settled query no_marks =
    let plain : ArePlain (parts query) = plain_parts query no_marks.bytes in
    record {
      separate = λ _. not_separated query no_marks.bytes;
      clean = every IsPlain (λ part. cleaned part ≡ part) (parts query) clean_same plain;
      closed = every IsPlain (λ part. has_base part ≡ false) (parts query) no_base plain;
      apart = all_apart (parts query) no_marks.pairs plain;
    }
