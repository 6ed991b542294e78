-- Pairs keep their places when bytes are appended to their text.
use Rattle.std.proofs.Common.{◌≡◌, ℕ, ◌-◌, ◌≤◌, List, [], ◌∷◌, ◌++◌, map, length, take, drop, slice_range, refl, sym, ap, ◌∙◌}
use Rattle.std.proofs.lemmas.Grind.{common_steps}
use Rattle.std.proofs.Common.{arith, length-drop, take-append-drop}
use Rattle.std.specs.Prelude.{All}
use Rattle.std.proofs.lemmas.List.{take-append-le, drop-append-le, map-append}
use Rattle.std.proofs.lemmas.List.Elements.{All-head, All-tail, All-push, All-weaker}
use Rattle.text_model.specs.Texts.{Text}
use Rattle.kev_read.specs.Private.Reading.{HoldsQuery}
use Rattle.kev_read.specs.Private.Layout.{part_in, pair_in, IsSpan, IsPlaced}
use Rattle.kev_read.specs.declared.pairs.Place.{Place}
use Rattle.kev_read.specs.declared.pairs.Span.{Span}

pub range_stays : (text more : Text) (i j : ℕ) → i ≤ j → j ≤ length text → slice_range (text ++ more) i j ≡ slice_range text i j
range_stays text more i j forwards inside =
    ap (take (j - i)) (drop-append-le i text more (omega arith)) ∙ take-append-le (j - i) (drop i text) more (omega (arith, length-drop i text))

pub part_stays : (text more : Text) (span : Span) → IsSpan text span → part_in (text ++ more) span ≡ part_in text span
part_stays text more span is = range_stays text more span.start span.end is.forwards is.within

pub place_stays : (text more : Text) (place : Place) → IsPlaced text place → IsPlaced (text ++ more) place
place_stays text more place is = grind (arith, common_steps)

pub places_stay : (text more : Text) (places : List Place) → All (IsPlaced text) places → All (IsPlaced (text ++ more)) places
places_stay text more places are = All-weaker (IsPlaced text) (IsPlaced (text ++ more)) (λ place is. place_stays text more place is) places are

pub pair_stays : (text more : Text) (place : Place) → IsPlaced text place → pair_in (text ++ more) place ≡ pair_in text place
pair_stays text more place is = grind (arith, common_steps)

pub pairs_stay : (text more : Text) (places : List Place) → All (IsPlaced text) places → map (pair_in (text ++ more)) places ≡ map (pair_in text) places
pairs_stay text more [] are = refl
pairs_stay text more (place ∷ places) are =
    let first = pair_stays text more place (All-head (IsPlaced text) place places are) in
    let others = pairs_stay text more places (All-tail (IsPlaced text) place places are) in
    cc

-- ---- the query, with which the text begins

pub range_of_query : (query text : List ℕ) (i j : ℕ) → HoldsQuery query text → i ≤ j → j ≤ length query → slice_range text i j ≡ slice_range query i j
range_of_query query text i j held forwards inside =
    let more = drop (length query) text in
    let whole : text ≡ query ++ more = sym (take-append-drop (length query) text) ∙ ap (λ front. front ++ more) held in
    ap (λ t. slice_range t i j) whole ∙ range_stays query more i j forwards inside

pub query_within : (query text : List ℕ) → HoldsQuery query text → length query ≤ length text
query_within query text held = grind (arith, common_steps)

pub query_stays : (query text more : List ℕ) → HoldsQuery query text → HoldsQuery query (text ++ more)
query_stays query text more held = take-append-le (length query) text more (query_within query text held) ∙ held

-- ---- one more place

pub pushed : (text more : Text) (places : List Place) (place : Place) → All (IsPlaced text) places → IsPlaced (text ++ more) place
    → All (IsPlaced (text ++ more)) (places ++ place ∷ [])
pushed text more places place are is = All-push (IsPlaced (text ++ more)) places place (places_stay text more places are) is

pub pushed_pairs : (text more : Text) (places : List Place) (place : Place) → All (IsPlaced text) places
    → map (pair_in (text ++ more)) (places ++ place ∷ []) ≡ map (pair_in text) places ++ pair_in (text ++ more) place ∷ []
pushed_pairs text more places place are =
    map-append (pair_in (text ++ more)) places (place ∷ []) ∙ ap (λ front. front ++ pair_in (text ++ more) place ∷ []) (pairs_stay text more places are)
