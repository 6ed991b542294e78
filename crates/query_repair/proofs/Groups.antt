-- A repaired query has the pairs that were joined as its parts, and none of them belongs to the one before it.
use Rattle.std.proofs.Common.{◌≡◌, ℕ, zero, suc, ◌<◌, ◌≤◌, inl, inr, Bool, true, false, cond, not, ◌&&◌, ◌||◌, List, [], ◌∷◌, ◌++◌, length}
use Rattle.std.proofs.Common.{get_or, refl, sym, ap, subst, ◌∙◌}
use Rattle.std.proofs.Common.{arith, append_assoc}
use Rattle.std.specs.Prelude.{◌==◌, nat_le, codes}
use Rattle.std.specs.List.{All, list_any, prefix_len}
use Rattle.std.proofs.Math.Nat.{eq-or-lt_of_le}
use Rattle.std.proofs.lemmas.Bool.{and_parts, cond_both, eqb-true, false≢true}
use Rattle.std.proofs.lemmas.Grind.{common_steps}
use Rattle.std.proofs.lemmas.List.{append-nil}
use Rattle.std.proofs.lemmas.List.Elements.{All-nil, All-cons, All-head, All-tail, All-append}
use Rattle.std.proofs.lemmas.List.Folds.{list_any_at}
use Rattle.std.proofs.lemmas.List.Splits.{slice_split_none, slice_split_at}
use Rattle.std.proofs.lemmas.List.Sums.{prefix_len_passes}
use Rattle.text_model.specs.Texts.{Text}
use Rattle.query_repair.specs.Keys.{is_key_byte, key_length, begins_pair, is_title, is_known}
use Rattle.query_repair.specs.Pieces.{ampersand, parts, unmarked, cleaned, has_base}
use Rattle.query_repair.specs.Joining.{is_titled, is_loose, is_entity_byte, begins_entity, belongs, separator, pair_after, joined_after}
use Rattle.query_repair.specs.Joining.{joined}
use Rattle.query_repair.specs.Repair.{has_no_second_pair, separated}
use Rattle.query_repair.specs.Settled.{are_apart_from, are_apart, IsSettled}
use Rattle.query_repair.proofs.Appended.{pair_same, titled_same, closed_appended, no_and}
use Rattle.query_repair.proofs.CleanPieces.{IsWhole, IsFit, clean_pair}

-- the pairs, each with the pieces that belong to it; the first so far, and how it began
unfoldable pub grouped : Text → Text → List Text → List Text
grouped so_far pair [] = so_far ∷ []
grouped so_far pair (piece ∷ ps) =
    cond (belongs pair piece) (grouped (so_far ++ codes "%26" ++ piece) pair ps) (so_far ∷ grouped piece piece ps)

-- ---- they are the parts

split_step : (b : Bool) (so_far pair piece : Text) (ps : List Text) (same other : List Text) → IsWhole so_far
    → parts ((so_far ++ codes "%26" ++ piece) ++ joined_after pair ps) ≡ same
    → parts (piece ++ joined_after piece ps) ≡ other
    → parts (so_far ++ (separator b ++ piece ++ joined_after (pair_after b pair piece) ps)) ≡ cond b same (so_far ∷ other)
split_step true so_far pair piece ps same other whole e k =
    let regroup : so_far ++ (codes "%26" ++ piece ++ joined_after pair ps) ≡ (so_far ++ codes "%26" ++ piece) ++ joined_after pair ps =
    simp append_assoc in
    ap parts regroup ∙ e
split_step false so_far pair piece ps same other whole e k =
    slice_split_at (λ b. b == ampersand) so_far ampersand (piece ++ joined_after piece ps) whole refl ∙ ap (λ rest. so_far ∷ rest) k

pub joined_whole : (so_far piece : Text) → IsWhole so_far → IsWhole piece → IsWhole (so_far ++ codes "%26" ++ piece)
joined_whole so_far piece h k =
    let P : ℕ → Type 0 = λ b. (b == ampersand) ≡ false in
    let escape : IsWhole (codes "%26") = All-cons P 0x25 (0x32 ∷ 0x36 ∷ []) refl (All-cons P 0x32 (0x36 ∷ []) refl (All-cons P 0x36 [] refl (All-nil P))) in
    All-append P (so_far ++ codes "%26") piece (All-append P so_far (codes "%26") h escape) k

pub parts_joined : (ps : List Text) (so_far pair : Text) → IsWhole so_far → All IsFit ps → parts (so_far ++ joined_after pair ps) ≡ grouped so_far pair ps
unfolding grouped
parts_joined [] so_far pair whole fit = ap parts (append-nil so_far) ∙ slice_split_none (λ b. b == ampersand) so_far whole
parts_joined (piece ∷ ps) so_far pair whole fit =
    let first : IsFit piece = All-head IsFit piece ps fit in
    let rest : All IsFit ps = All-tail IsFit piece ps fit in
    split_step (belongs pair piece) so_far pair piece ps _ _ whole
    (parts_joined ps (so_far ++ codes "%26" ++ piece) pair (joined_whole so_far piece whole first.whole) rest)
    (parts_joined ps piece piece first.whole rest)

-- ---- a pair and what has been joined to it

pub data Grown (pair text : Text) : Type 0 where
  same : text ≡ pair → Grown pair text
  more : (s : Text) → begins_pair pair ≡ true → text ≡ pair ++ 0x25 ∷ s → Grown pair text

pub grown_more : (pair text piece : Text) → Grown pair text → begins_pair pair ≡ true → Grown pair (text ++ codes "%26" ++ piece)
grown_more pair text piece (same e) h =
    more (0x32 ∷ 0x36 ∷ piece) h (ap (λ t. t ++ codes "%26" ++ piece) e ∙ append_assoc pair (codes "%26") piece)
grown_more pair text piece (more s k e) h =
    let regroup : ((pair ++ 0x25 ∷ s) ++ codes "%26") ++ piece ≡ pair ++ 0x25 ∷ (s ++ codes "%26" ++ piece) = simp append_assoc in
    more (s ++ codes "%26" ++ piece) h (ap (λ t. t ++ codes "%26" ++ piece) e ∙ regroup)

pub grown_pair : (pair text : Text) → Grown pair text → begins_pair text ≡ begins_pair pair
grown_pair pair text (same e) = ap begins_pair e
grown_pair pair text (more s h e) = ap begins_pair e ∙ pair_same pair s

grown_titled : (pair text : Text) → Grown pair text → is_titled text ≡ is_titled pair
grown_titled pair text (same e) = ap is_titled e
grown_titled pair text (more s h e) = ap is_titled e ∙ titled_same pair s

pub grown_fit : (pair text : Text) → Grown pair text → IsFit pair → IsWhole text → IsFit text
grown_fit pair text (same e) fit whole = subst IsFit (sym e) fit
grown_fit pair text (more s h e) fit whole =
    record {
      clean = clean_pair text (ap begins_pair e ∙ pair_same pair s ∙ h);
      closed = ap has_base e ∙ closed_appended pair s fit.closed;
      whole = whole;
    }

-- ---- what belongs to a pair

some_at : (t : Text) (k : ℕ) → get_or t k 0 ≡ 0x3d → k < length t
some_at [] k e = cc
some_at (b ∷ t) zero e = omega arith
some_at (b ∷ t) (suc k) e = omega (arith, some_at t k e)

loose_pair : (t : Text) → begins_pair t ≡ true → is_loose t ≡ false
unfolding begins_pair is_loose
loose_pair t h =
    let both = and_parts _ _ h in
    let k : ℕ = key_length t in
    let sign : get_or t k 0 ≡ 0x3d = eqb-true (get_or t k 0) 0x3d both.1 in
    ap (λ b. not b && list_any (λ b. b == 0x2b || b == 0x25) t) (list_any_at (λ b. b == 0x3d) t k 0 (some_at t k sign) both.1)

semicolon_choice : (b : ℕ) (is : Bool) → (b == 0x3b) ≡ is → is_key_byte b ≡ true → is ≡ false
semicolon_choice b true e h = let same : is_key_byte b ≡ false = ap is_key_byte (eqb-true b 0x3b e) in cc
semicolon_choice b false e h = refl

key_no_semicolon : (b : ℕ) → is_key_byte b ≡ true → (b == 0x3b) ≡ false
key_no_semicolon b h = semicolon_choice b (b == 0x3b) refl h

entity_at : (t : Text) (k n : ℕ) → n ≤ k → get_or t k 0 ≡ 0x3d → ((j : ℕ) → j < k → is_key_byte (get_or t j 0) ≡ true) → (get_or t n 0 == 0x3b) ≡ false
entity_at t k n small sign keys =
    elim (eq-or-lt_of_le small) [
      | inl here ↦ ap (λ j. get_or t j 0 == 0x3b) here ∙ ap (λ b. b == 0x3b) sign
      | inr before ↦ key_no_semicolon (get_or t n 0) (keys n before)
    ]

-- an entity has no `=`
ends_before : (t : Text) (k n : ℕ) → get_or t k 0 ≡ 0x3d → prefix_len is_entity_byte t ≡ n → (k < n → ⊥)
ends_before t k n sign is beyond =
    let passes : is_entity_byte (get_or t k 0) ≡ true = prefix_len_passes is_entity_byte t k 0 (omega (arith, is, beyond)) in
    let fails : is_entity_byte (get_or t k 0) ≡ false = ap is_entity_byte sign in
    false≢true (sym fails ∙ passes)

not_beyond : (t : Text) (k : ℕ) → get_or t k 0 ≡ 0x3d → prefix_len is_entity_byte t ≤ k
not_beyond t k sign = let no = ends_before t k (prefix_len is_entity_byte t) sign refl in omega (arith, no)

entity_pair : (t : Text) → begins_pair t ≡ true → begins_entity t ≡ false
unfolding begins_pair begins_entity
entity_pair t h =
    let both = and_parts _ _ h in
    let k : ℕ = key_length t in
    let n : ℕ = prefix_len is_entity_byte t in
    let sign : get_or t k 0 ≡ 0x3d = eqb-true (get_or t k 0) 0x3d both.1 in
    no_and (nat_le 2 n && nat_le n 10) (get_or t n 0 == 0x3b)
    (entity_at t k n (not_beyond t k sign) sign (λ j below. prefix_len_passes is_key_byte t j 0 below))

neither : (x y z w : Bool) → y ≡ false → w ≡ false → (x && y || z && w) ≡ false
neither x y z w h k = grind (arith, common_steps)

pub no_part_pair : (pair piece : Text) → begins_pair piece ≡ true → belongs pair piece ≡ false
unfolding belongs
no_part_pair pair piece h = neither (is_titled pair) (is_loose piece) (begins_pair pair) (begins_entity piece) (loose_pair piece h) (entity_pair piece h)

belongs_to_grown : (pair text piece : Text) → Grown pair text → belongs text piece ≡ belongs pair piece
unfolding belongs
belongs_to_grown pair text piece g =
    ap (λ b. b && is_loose piece || begins_pair text && begins_entity piece) (grown_titled pair text g)
    ∙ ap (λ b. is_titled pair && is_loose piece || b && begins_entity piece) (grown_pair pair text g)

grown_is_apart : (before pair text : Text) → Grown pair text → belongs before pair ≡ false → belongs before text ≡ false
grown_is_apart before pair text (same e) h = ap (belongs before) e ∙ h
grown_is_apart before pair text (more s k e) h = no_part_pair before text (ap begins_pair e ∙ pair_same pair s ∙ k)

first_holds : (x y z w : Bool) → (x && y && z || x && w) ≡ true → x ≡ true
first_holds true y z w h = refl
first_holds false y z w h = h

pub pair_of_part : (pair piece : Text) → belongs pair piece ≡ true → begins_pair pair ≡ true
unfolding belongs
pair_of_part pair piece h = first_holds (begins_pair pair) _ _ _ h

-- ---- the groups

groups_fit : (ps : List Text) (text pair : Text) → Grown pair text → IsFit pair → IsWhole text → All IsFit ps → All IsFit (grouped text pair ps)
unfolding grouped
groups_fit [] text pair grown fit whole rest = All-cons IsFit text [] (grown_fit pair text grown fit whole) (All-nil IsFit)
groups_fit (piece ∷ ps) text pair grown fit whole rest =
    let next : IsFit piece = All-head IsFit piece ps rest in
    let later : All IsFit ps = All-tail IsFit piece ps rest in
    cond_both (belongs pair piece) _ _ (All IsFit)
    (λ h. groups_fit ps (text ++ codes "%26" ++ piece) pair (grown_more pair text piece grown (pair_of_part pair piece h)) fit
    (joined_whole text piece whole next.whole) later)
    (λ h. All-cons IsFit text (grouped piece piece ps) (grown_fit pair text grown fit whole)
    (groups_fit ps piece piece (same refl) next next.whole later))

groups_apart : (ps : List Text) (before text pair : Text) → Grown pair text → belongs before pair ≡ false → are_apart_from before (grouped text pair ps) ≡ true
unfolding grouped
groups_apart [] before text pair grown h = ap (λ b. not b && true) (grown_is_apart before pair text grown h)
groups_apart (piece ∷ ps) before text pair grown h =
    cond_both (belongs pair piece) _ _ (λ groups. are_apart_from before groups ≡ true)
    (λ part. groups_apart ps before (text ++ codes "%26" ++ piece) pair (grown_more pair text piece grown (pair_of_part pair piece part)) h)
    (λ apart. ap (λ b. not b && are_apart_from text (grouped piece piece ps)) (grown_is_apart before pair text grown h)
    ∙ groups_apart ps text piece piece (same refl) (belongs_to_grown pair text piece grown ∙ apart))

apart_after : (before : Text) (ps : List Text) → are_apart_from before ps ≡ true → are_apart ps ≡ true
apart_after before [] h = refl
apart_after before (p ∷ ps) h = (and_parts _ _ h).1

-- ---- the query

none_to_nothing : (piece : Text) → belongs [] piece ≡ false
unfolding belongs begins_pair
none_to_nothing piece = refl

nothing_fits : IsFit []
unfolding cleaned has_base begins_pair unmarked is_known is_title
nothing_fits = record { clean = refl; closed = refl; whole = All-nil (λ b. (b == ampersand) ≡ false) }

settled_groups : (groups : List Text) (query : Text) → parts query ≡ groups → All IsFit groups → are_apart groups ≡ true
    → (has_no_second_pair (parts query) ≡ true → separated query ≡ query) → IsSettled query
settled_groups groups query e fit apart separate =
    let all : All IsFit (parts query) = subst (All IsFit) (sym e) fit in
    record {
      separate = separate;
      clean = λ k d within. (all k d within).clean;
      closed = λ k d within. (all k d within).closed;
      apart = ap are_apart e ∙ apart;
    }

pub settled_joined : (ps : List Text) → All IsFit ps
    → (has_no_second_pair (parts (joined ps)) ≡ true → separated (joined ps) ≡ joined ps) → IsSettled (joined ps)
settled_joined [] fit separate = settled_groups ([] ∷ []) [] refl (All-cons IsFit [] [] nothing_fits (All-nil IsFit)) refl separate
settled_joined (p ∷ ps) fit separate =
    let first : IsFit p = All-head IsFit p ps fit in
    let rest : All IsFit ps = All-tail IsFit p ps fit in
    settled_groups (grouped p p ps) (p ++ joined_after p ps) (parts_joined ps p p first.whole rest)
    (groups_fit ps p p (same refl) first first.whole rest)
    (apart_after [] (grouped p p ps) (groups_apart ps [] p p (same refl) (none_to_nothing p))) separate
