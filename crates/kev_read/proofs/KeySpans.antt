-- The values of a request in the order of their keys, and where they are in one text.
use Rattle.std.proofs.Common.{◌≡◌, ℕ, ◌+◌, ◌*◌, ◌≤◌, List, [], ◌∷◌, ◌++◌, All, Some, length, map, take, drop, refl, sym, ap, ◌∙◌, arith, length-append}
use Rattle.std.proofs.Common.{slice_get}
use Rattle.std.proofs.lemmas.List.{drop-map, length-map, map-append, take-map, take_more}
use Rattle.std.proofs.lemmas.List.Elements.{All-head, All-tail, All-push, All-weaker}
use Rattle.std.proofs.lemmas.List.Sums.{sum_by_more, sum_by_more_le}
use Rattle.std.proofs.lemmas.Option.{get_or_from_slice_get, slice_get_within}
use Rattle.std.proofs.lemmas.Grind.{common_steps}
use Rattle.text_model.specs.Texts.{Text}
use Rattle.environment_model.specs.Environment.{members_of}
use Rattle.target_vars.specs.EnvValue.{piece_at}
use Rattle.kev_read.specs.Pairs.{KeyValue, value_bytes}
use Rattle.kev_read.specs.Private.Gathered.{AreSpans, AreKeyValues, gathered}
use Rattle.kev_read.specs.Private.KeyOrder.{IsKeyOrder, IsKeyRun, pairs_at}
use Rattle.kev_read.proofs.GatheredValues.{members_of-gathered}
use Rattle.kev_read.specs.declared.read.TheConstants.{MAX_PAIRS, MAX_QUERY_BYTES}
use Rattle.kev_read.proofs.PairsByKey.{all_pairs, same_bytes, same_count, values_at}

abbrev IsIn : Text → ℕ × ℕ → Type 0
IsIn text at = at.0 + at.1 ≤ length text

piece_stays : (text more : Text) (at : ℕ × ℕ) → IsIn text at → piece_at (text ++ more) at ≡ piece_at text at
piece_stays text more at inside = grind (arith, common_steps)

pieces_stay : (text more : Text) (spans : List (ℕ × ℕ)) → All (IsIn text) spans → map (piece_at (text ++ more)) spans ≡ map (piece_at text) spans
pieces_stay text more [] inside = refl
pieces_stay text more (at ∷ spans) inside =
    rw (piece_stays text more at (All-head (IsIn text) at spans inside))
    (ap (λ ts. piece_at text at ∷ ts) (pieces_stay text more spans (All-tail (IsIn text) at spans inside)))

-- one more value, at the end of the text
pub value_added : (text value : Text) (spans : List (ℕ × ℕ)) (pairs : List KeyValue) (pair : KeyValue) → pair.value ≡ value → AreSpans text spans pairs
    → AreSpans (text ++ value) (spans ++ (length text, length value) ∷ []) (pairs ++ pair ∷ [])
value_added text value spans pairs pair is so_far =
    let whole = length-append text value in
    let last : piece_at (text ++ value) (length text, length value) ≡ value = grind (arith, common_steps) in
    record {
      inside = All-push (IsIn (text ++ value)) spans (length text, length value)
          (All-weaker (IsIn text) (IsIn (text ++ value)) (λ at within. omega (arith, within, whole)) spans so_far.inside) (omega (arith, whole));
      are = grind (arith, map-append, pieces_stay, last);
    }

-- there are as many spans as pairs
pub span_count : (text : Text) (spans : List (ℕ × ℕ)) (pairs : List KeyValue) → AreSpans text spans pairs → length spans ≡ length pairs
span_count text spans pairs spans_are =
    sym (length-map spans (piece_at text)) ∙ ap length spans_are.are ∙ length-map pairs (λ (p : KeyValue). p.value)

module _ (pairs : List KeyValue) (order : List ℕ) (text : Text) (spans : List (ℕ × ℕ)) (kept : AreKeyValues pairs order text spans) where
  pub spans_of_order : length spans ≡ length order
  spans_of_order = span_count text spans (pairs_at pairs order) kept.values ∙ length-map order _

  pub few_spans : length spans ≤ MAX_PAIRS
  few_spans = grind (arith, same_count, span_count)

  pub members_are : (key : Text) (first count : ℕ) → IsKeyRun pairs order key first count
      → members_of (gathered (pairs_at pairs order)) key ≡ map (piece_at text) (take count (drop first spans))
  members_are key first count run =
      let value : KeyValue → Text = λ pair. pair.value in
      let cut : List Text → List Text = λ ts. take count (drop first ts) in
      members_of-gathered (pairs_at pairs order) key
      ∙ values_at pairs key order kept.ordered.within
      ∙ ap (λ indices. map value (pairs_at pairs indices)) (sym run.are)
      ∙ ap (map value) (sym (take-map _ count (drop first order)) ∙ ap (take count) (sym (drop-map _ first order)))
      ∙ sym (take-map value count (drop first (pairs_at pairs order))) ∙ ap (take count) (sym (drop-map value first (pairs_at pairs order)))
      ∙ ap cut (sym kept.values.are)
      ∙ ap (take count) (drop-map (piece_at text) first spans) ∙ take-map (piece_at text) count (drop first spans)

-- ---- one more pair

pub more_pairs : (pairs : List KeyValue) (n : ℕ) (pair : KeyValue) → slice_get pairs n ≡ Some pair → take (n + 1) pairs ≡ take n pairs ++ pair ∷ []
more_pairs pairs n pair is =
    take_more pairs n pair (slice_get_within pairs n pair is) ∙ ap (λ p. take n pairs ++ p ∷ []) (get_or_from_slice_get pairs n pair pair is)

pub more_bytes : (pairs : List KeyValue) (n : ℕ) (pair : KeyValue) → slice_get pairs n ≡ Some pair
    → value_bytes (take (n + 1) pairs) ≡ value_bytes (take n pairs) + length pair.value
more_bytes pairs n pair is =
    sum_by_more (λ (p : KeyValue). length p.value) pairs n pair (slice_get_within pairs n pair is)
    ∙ ap (λ (p : KeyValue). value_bytes (take n pairs) + length p.value) (get_or_from_slice_get pairs n pair pair is)

pub room_for_value : (pairs : List KeyValue) (n : ℕ) (pair : KeyValue) → slice_get pairs n ≡ Some pair → value_bytes (take n pairs) + length pair.value
    ≤ value_bytes pairs
room_for_value pairs n pair is =
    let here = ap (λ (p : KeyValue). length p.value) (get_or_from_slice_get pairs n pair pair is) in
    let whole = sum_by_more_le (λ (p : KeyValue). length p.value) pairs n pair (slice_get_within pairs n pair is) in
    omega (arith, here, whole)

-- ---- all pairs

pub all_values : (pairs : List KeyValue) (order : List ℕ) (n : ℕ) (text : Text) (spans : List (ℕ × ℕ)) → IsKeyOrder pairs order → length pairs ≤ MAX_PAIRS
    → value_bytes pairs ≤ 3 * MAX_QUERY_BYTES → length order ≤ n → AreSpans text spans (take n (pairs_at pairs order))
    → length text ≡ value_bytes (take n (pairs_at pairs order)) → AreKeyValues pairs order text spans
all_values pairs order n text spans ordered few small past are bytes = grind (arith, all_pairs, same_bytes)
