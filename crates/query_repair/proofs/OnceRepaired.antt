-- A repaired query needs no repair.
use Rattle.std.proofs.Common.{◌≡◌, Bool, true, false, not, ◌||◌, List, [], ◌∷◌, ◌++◌, map, refl, sym, ap, subst, ◌∙◌, append_assoc}
use Rattle.std.specs.Prelude.{◌==◌, codes}
use Rattle.std.specs.List.{All, onto_first}
use Rattle.std.proofs.lemmas.Bool.{cond_both, false≢true, not-true}
use Rattle.std.proofs.lemmas.List.{append-nil}
use Rattle.std.proofs.lemmas.List.Elements.{All-nil, All-cons, All-head, All-tail}
use Rattle.std.proofs.lemmas.List.Splits.{join_with_byte-slice_split}
use Rattle.text_model.specs.Texts.{Text}
use Rattle.query_repair.specs.Keys.{begins_pair}
use Rattle.query_repair.specs.Pieces.{ampersand, parts, cleaned, base_of, after_base, has_base, pieces_of, pieces}
use Rattle.query_repair.specs.Joining.{belongs, joined}
use Rattle.query_repair.specs.Repair.{semicolon, has_pair, has_no_second_pair, after_first, separated_parts, separated, with_ampersands}
use Rattle.query_repair.specs.Repair.{repaired}
use Rattle.query_repair.specs.Settled.{IsSettled}
use Rattle.query_repair.proofs.Appended.{pair_before}
use Rattle.query_repair.proofs.Bounds.{some_parts}
use Rattle.query_repair.proofs.CleanPieces.{IsWhole, IsFit, base_parts, clean_pair, parts_whole, pieces_fit}
use Rattle.query_repair.proofs.Groups.{grouped, Grown, same, grown_pair, grown_fit, grown_more, no_part_pair, pair_of_part, joined_whole}
use Rattle.query_repair.proofs.Groups.{parts_joined, settled_joined}
use Rattle.query_repair.proofs.Semicolons.{IsNoPair, first_of, rest_of, both_fail, pair_of_part_first, rest_of_onto, all_rest, all_first}
use Rattle.query_repair.proofs.Semicolons.{semi, by_semicolons}
use Rattle.query_repair.proofs.Semicolons.{none_of_parts, separated_same, not_separated_again, semi_parts, all_cleaned, semi_joined}

-- ---- if no `&` of the query is before a pair, none was before one of its pieces

no_pair_text : (pair text : Text) → Grown pair text → IsFit pair → IsWhole text → begins_pair (cleaned text) ≡ false → begins_pair pair ≡ false
no_pair_text pair text grown fit whole h =
    sym (grown_pair pair text grown) ∙ ap begins_pair (sym (grown_fit pair text grown fit whole).clean) ∙ h

no_pair_groups : (ps : List Text) (text pair : Text) → Grown pair text → IsFit pair → IsWhole text → All IsFit ps
    → has_pair (grouped text pair ps) ≡ false → (begins_pair pair ≡ false) × All IsNoPair ps
unfolding grouped
no_pair_groups [] text pair grown fit whole rest h =
    (no_pair_text pair text grown fit whole (both_fail (begins_pair (cleaned text)) false h).0, All-nil IsNoPair)
no_pair_groups (piece ∷ ps) text pair grown fit whole rest h =
    let next : IsFit piece = All-head IsFit piece ps rest in
    let later : All IsFit ps = All-tail IsFit piece ps rest in
    let R : Type 0 = (begins_pair pair ≡ false) × All IsNoPair (piece ∷ ps) in
    cond_both (belongs pair piece) (grouped (text ++ codes "%26" ++ piece) pair ps) (text ∷ grouped piece piece ps)
    (λ groups. has_pair groups ≡ false → R)
    (λ part k.
    let is : begins_pair pair ≡ true = pair_of_part pair piece part in
    let none = no_pair_groups ps (text ++ codes "%26" ++ piece) pair (grown_more pair text piece grown is) fit
    (joined_whole text piece whole next.whole) later k in
    absurd (false≢true (sym none.0 ∙ is)))
    (λ apart k.
    let both = both_fail (begins_pair (cleaned text)) (has_pair (grouped piece piece ps)) k in
    let none = no_pair_groups ps piece piece (same refl) next next.whole later both.1 in
    (no_pair_text pair text grown fit whole both.0, All-cons IsNoPair piece ps none.0 none.1))
    h

no_pair_part : (b : Bool) (pair piece : Text) → begins_pair piece ≡ b → belongs pair piece ≡ true → b ≡ false
no_pair_part true pair piece e h = absurd (false≢true (sym (no_part_pair pair piece e) ∙ h))
no_pair_part false pair piece e h = refl

no_later_pairs : (ps : List Text) (text pair : Text) → Grown pair text → IsFit pair → IsWhole text → All IsFit ps
    → has_no_second_pair (grouped text pair ps) ≡ true → All IsNoPair ps
unfolding grouped
no_later_pairs [] text pair grown fit whole rest h = All-nil IsNoPair
no_later_pairs (piece ∷ ps) text pair grown fit whole rest h =
    let next : IsFit piece = All-head IsFit piece ps rest in
    let later : All IsFit ps = All-tail IsFit piece ps rest in
    cond_both (belongs pair piece) (grouped (text ++ codes "%26" ++ piece) pair ps) (text ∷ grouped piece piece ps)
    (λ groups. has_no_second_pair groups ≡ true → All IsNoPair (piece ∷ ps))
    (λ part k.
    All-cons IsNoPair piece ps (no_pair_part (begins_pair piece) pair piece refl part)
    (no_later_pairs ps (text ++ codes "%26" ++ piece) pair (grown_more pair text piece grown (pair_of_part pair piece part)) fit
    (joined_whole text piece whole next.whole) later k))
    (λ apart k.
    let none = no_pair_groups ps piece piece (same refl) next next.whole later (not-true (has_pair (grouped piece piece ps)) k) in
    All-cons IsNoPair piece ps none.0 none.1)
    h

no_pieces_pair : (ps : List Text) → All IsFit ps → has_no_second_pair (parts (joined ps)) ≡ true → All IsNoPair (rest_of ps)
unfolding rest_of
no_pieces_pair [] fit h = All-nil IsNoPair
no_pieces_pair (p ∷ ps) fit h =
    let first : IsFit p = All-head IsFit p ps fit in
    let rest : All IsFit ps = All-tail IsFit p ps fit in
    no_later_pairs ps p p (same refl) first first.whole rest
    (subst (λ groups. has_no_second_pair groups ≡ true) (parts_joined ps p p first.whole rest) h)

-- ---- then each part is one piece, and none after the first is a pair

abbrev IsNoCleanPair : Text → Type 0
IsNoCleanPair t = begins_pair (cleaned t) ≡ false

all_single : (ps : List Text) → All IsNoPair (pieces_of ps) → (pieces_of ps ≡ map cleaned ps) × All IsNoCleanPair ps
all_single [] h = (refl, All-nil IsNoCleanPair)
all_single (p ∷ ps) h =
    let c : Text = cleaned p in
    let R : List Text → Type 0 = λ one. All IsNoPair (one ++ pieces_of ps) → (one ++ pieces_of ps ≡ c ∷ map cleaned ps) × All IsNoCleanPair (p ∷ ps) in
    cond_both (has_base c) (base_of c ∷ after_base c ∷ []) (c ∷ []) R
    (λ has k. absurd (false≢true (sym (All-head IsNoPair (base_of c) (after_base c ∷ pieces_of ps) k) ∙ (base_parts c has).0)))
    (λ none k.
    let rest = all_single ps (All-tail IsNoPair c (pieces_of ps) k) in
    (ap (λ x. c ∷ x) rest.0, All-cons IsNoCleanPair p ps (All-head IsNoPair c (pieces_of ps) k) rest.1))
    h

first_single : (p : Text) (ps : List Text) → All IsNoPair (rest_of (pieces_of (p ∷ ps)))
    → (pieces_of (p ∷ ps) ≡ map cleaned (p ∷ ps)) × All IsNoCleanPair ps
unfolding rest_of
first_single p ps h =
    let c : Text = cleaned p in
    let R : List Text → Type 0 = λ one. All IsNoPair (rest_of (one ++ pieces_of ps)) → (one ++ pieces_of ps ≡ c ∷ map cleaned ps) × All IsNoCleanPair ps in
    cond_both (has_base c) (base_of c ∷ after_base c ∷ []) (c ∷ []) R
    (λ has k. absurd (false≢true (sym (All-head IsNoPair (after_base c) (pieces_of ps) k) ∙ (base_parts c has).1)))
    (λ none k. let rest = all_single ps k in (ap (λ x. c ∷ x) rest.0, rest.1))
    h

-- ---- then no `;` of the query as it was sent is before a pair

no_clean_pair : (ps : List Text) → All IsNoCleanPair ps → has_pair ps ≡ false
no_clean_pair [] h = refl
no_clean_pair (p ∷ ps) h =
    ap (λ b. b || has_pair ps) (All-head IsNoCleanPair p ps h) ∙ no_clean_pair ps (All-tail IsNoCleanPair p ps h)

no_second : (ps : List Text) → All IsNoCleanPair (rest_of ps) → has_no_second_pair ps ≡ true
unfolding rest_of
no_second [] h = refl
no_second (p ∷ ps) h = ap not (no_clean_pair ps h)

in_rest : (P : Text → Type 0) (z w : Text) → All P (rest_of (parts (z ++ ampersand ∷ w))) → P (first_of (parts w))
unfolding rest_of
in_rest P [] w h = all_first P (parts w) (some_parts (λ b. b == ampersand) w) h
in_rest P (b ∷ z) w h =
    let ps : List Text = parts (z ++ ampersand ∷ w) in
    cond_both (b == ampersand) ([] ∷ ps) (onto_first b ps) (λ qs. All P (rest_of qs) → P (first_of (parts w)))
    (λ e k. in_rest P z w (all_rest P ps k)) (λ e k. in_rest P z w (subst (All P) (rest_of_onto b ps) k)) h

before_others : (p : Text) (ps : List Text) → begins_pair (p ++ after_first ps) ≡ begins_pair p
before_others p [] = ap begins_pair (append-nil p)
before_others p (q ∷ ps) =
    cond_both (begins_pair q) ampersand semicolon (λ c. begins_pair (p ++ c ∷ (q ++ after_first ps)) ≡ begins_pair p)
    (λ e. pair_before ampersand p (q ++ after_first ps) refl refl) (λ e. pair_before semicolon p (q ++ after_first ps) refl refl)

pair_is_seen : (p : Text) (ps : List Text) → begins_pair p ≡ true → begins_pair (cleaned (first_of (parts (p ++ after_first ps)))) ≡ true
pair_is_seen p ps h =
    let t : Text = p ++ after_first ps in
    let is : begins_pair (first_of (parts t)) ≡ true = sym (pair_of_part_first ampersand t refl refl) ∙ before_others p ps ∙ h in
    ap begins_pair (clean_pair (first_of (parts t)) is) ∙ is

no_others : (others : List Text) (z : Text) → All IsNoCleanPair (rest_of (parts (z ++ after_first others))) → All IsNoPair others
no_others [] z h = All-nil IsNoPair
no_others (p ∷ ps) z h =
    let w : Text = p ++ after_first ps in
    cond_both (begins_pair p) ampersand semicolon (λ c. All IsNoCleanPair (rest_of (parts (z ++ c ∷ w))) → All IsNoPair (p ∷ ps))
    (λ is k. absurd (false≢true (sym (in_rest IsNoCleanPair z w k) ∙ pair_is_seen p ps is)))
    (λ none k. All-cons IsNoPair p ps none
    (no_others ps (z ++ semicolon ∷ p)
    (subst (λ t. All IsNoCleanPair (rest_of (parts t))) (sym (append_assoc z (semicolon ∷ p) (after_first ps))) k)))
    h

no_semicolon_parts : (ps : List Text) → All IsNoCleanPair (rest_of (parts (separated_parts ps))) → All IsNoPair (rest_of ps)
unfolding rest_of
no_semicolon_parts [] h = All-nil IsNoPair
no_semicolon_parts (p ∷ others) h = no_others others p h

separated_semi : (query : Text) → All IsNoCleanPair (rest_of (parts (separated query))) → semi (separated query) ≡ false
unfolding separated
separated_semi query h =
    let none : All IsNoPair (rest_of (by_semicolons query)) = no_semicolon_parts (by_semicolons query) h in
    ap semi (separated_same (by_semicolons query) none ∙ join_with_byte-slice_split semicolon query) ∙ none_of_parts query none

no_semi : (query : Text) → All IsNoCleanPair (rest_of (parts (with_ampersands query))) → semi (with_ampersands query) ≡ false
no_semi query h =
    cond_both (has_no_second_pair (parts query)) (separated query) query (λ t. All IsNoCleanPair (rest_of (parts t)) → semi t ≡ false)
    (λ e k. separated_semi query k) (λ e k. absurd (false≢true (sym e ∙ no_second (parts query) k))) h

-- ---- so none of the repaired query is

no_semi_joined : (ps : List Text) → All IsWhole ps → (All IsNoCleanPair (rest_of ps) → All (λ t. semi t ≡ false) ps)
    → has_no_second_pair (parts (joined (pieces_of ps))) ≡ true → semi (joined (pieces_of ps)) ≡ false
unfolding rest_of semi
no_semi_joined [] whole semis h = refl
no_semi_joined (p ∷ ps) whole semis h =
    let single = first_single p ps (no_pieces_pair (pieces_of (p ∷ ps)) (pieces_fit (p ∷ ps) whole) h) in
    let all : All (λ t. semi t ≡ false) (map cleaned (p ∷ ps)) = all_cleaned (p ∷ ps) (semis single.1) in
    let N : Text → Type 0 = λ t. semi t ≡ false in
    ap (λ L. semi (joined L)) single.0
    ∙ semi_joined (map cleaned ps) (cleaned p) (cleaned p) (All-head N (cleaned p) (map cleaned ps) all) (All-tail N (cleaned p) (map cleaned ps) all)

pub repaired_settled : (query : Text) → IsSettled (repaired query)
unfolding repaired
repaired_settled query =
    let t : Text = with_ampersands query in
    settled_joined (pieces t) (pieces_fit (parts t) (parts_whole t))
    (λ h. not_separated_again (joined (pieces t)) (no_semi_joined (parts t) (parts_whole t) (λ k. semi_parts t (no_semi query k)) h))
