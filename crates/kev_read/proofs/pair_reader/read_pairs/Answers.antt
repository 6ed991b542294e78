use Rattle.std.proofs.Common.{arith, ◌≡◌, [], ◌∷◌, ◌++◌, map, drop, sym, ap, ◌∙◌, subst}
use Rattle.std.proofs.lemmas.List.{append_assoc, append-nil, drop_all}
use Rattle.form_urlencoded.specs.Form.{raw_pairs}
use Rattle.form_urlencoded.proofs.FormLemmas.{raw_pairs-nil}
use Rattle.kev_read.specs.Pairs.{decoded_pair}
use Rattle.kev_read.specs.Private.Layout.{IsPlaced, pair_in}
use Rattle.kev_read.specs.Private.Reading.{HoldsQuery}
use Rattle.kev_read.proofs.FirstPairs.{skipped}
use Rattle.kev_read.proofs.PairsInText.{pushed, pushed_pairs, query_stays}
use Rattle.kev_read.proofs.pair_reader.read_pairs.Goals as goal

pub loop-done-preserved-then-query-done-eq38 : goal.loop-done-preserved-then-query-done-eq38
loop-done-preserved-then-query-done-eq38 c =
    record {
      held = c.loop-done.invariant.held;
      placed = c.loop-done.invariant.placed;
      pairs = grind (arith, skipped, c.if-query-done-eq38.true, c.loop-done.invariant.pairs);
    }

pub loop-done-preserved : goal.loop-done-preserved
loop-done-preserved c =
    let query = c.args.query.now in
    let text = c.loop-done.text.items in
    let places = c.loop-done.places.items in
    let place = c.in_ok-place.place in
    let grows = c.in_ok-place.ensures.grows in
    let grown = grows.1 in
    let more = grows.0 in
    let placed : IsPlaced (text ++ more) place = subst (λ t. IsPlaced t place) grown c.in_ok-place.ensures.placed in
    let held : HoldsQuery query (text ++ more) = query_stays query text more c.loop-done.invariant.held in
    let left = map decoded_pair (raw_pairs (drop c.in_ok-place.next query)) in
    let pairs : map (pair_in (text ++ more)) (places ++ place ∷ []) ++ left ≡ map (pair_in text) places ++ pair_in (text ++ more) place ∷ left =
    grind (arith, pushed_pairs, append_assoc) in
    let first = subst (λ t. map decoded_pair (raw_pairs (drop c.loop-done.done query)) ≡ pair_in t place ∷ left) grown c.in_ok-place.ensures.first in
    rw (c.in_ok-push.ensures.items, grown) record {
      held = held;
      placed = pushed text more places place c.loop-done.invariant.placed placed;
      pairs = pairs ∙ (ap (λ rest. map (pair_in text) places ++ rest) (sym first) ∙ c.loop-done.invariant.pairs);
    }

pub returns : goal.returns
returns c = grind (arith, drop_all, raw_pairs-nil, c.new.ensures, append-nil, c.loop-done.invariant.pairs)
