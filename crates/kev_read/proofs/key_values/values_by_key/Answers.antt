use Rattle.std.proofs.Common.{length, take, string_bytes, refl, ap, arith, length-append}
use Rattle.kev_read.specs.Private.Gathered.{AreKeyValues}
use Rattle.kev_read.specs.Private.KeyOrder.{pairs_at}
use Rattle.kev_read.specs.Private.Layout.{key_value}
use Rattle.kev_read.proofs.GatheredValues.{members_of-gathered}
use Rattle.kev_read.proofs.KeySpans.{value_added, more_pairs, more_bytes, room_for_value, all_values, few_spans}
use Rattle.kev_read.proofs.PairsByKey.{one_of_pairs, same_values, same_bytes}
use Rattle.kev_read.proofs.key_values.values_by_key.Goals as goal

pub add-requires : goal.add-requires
add-requires c =
    let pairs = c.args.pairs.now in
    let order = c.args.order.now in
    let n = c.loop-index.index-index in
    let pair = key_value c.at.result in
    let here = one_of_pairs pairs order n pair (omega arith) c.at.ensures in
    let room = room_for_value (pairs_at pairs order) n pair here in
    let so_far = c.loop-index.invariant.bytes in
    omega (arith, room, so_far, same_bytes pairs order c.requires.order, c.requires.small)

pub loop-index-preserved : goal.loop-index-preserved
loop-index-preserved c =
    let pairs = c.args.pairs.now in
    let order = c.args.order.now in
    let n = c.loop-index.index-index in
    let pair = key_value c.at.result in
    let ordered = pairs_at pairs order in
    let here = one_of_pairs pairs order n pair (omega arith) c.at.ensures in
    let bytes = c.loop-index.invariant.bytes in
    let text = c.in_ok-add.ensures.text in
    record {
      spans = rw (text, c.in_ok-add.ensures.spans, more_pairs ordered n pair here)
          (value_added _ pair.value _ (take n ordered) pair refl c.loop-index.invariant.spans);
      bytes = omega (arith, ap length text, length-append (string_bytes c.loop-index.text) pair.value, bytes, more_bytes ordered n pair here);
    }

kept : (c : goal.After-loop-index) → AreKeyValues c.args.pairs.now c.args.order.now (string_bytes c.loop-index.text) c.loop-index.spans.items
kept c =
    let so_far = c.loop-index.invariant in
    all_values c.args.pairs.now c.args.order.now c.loop-index.index-index _ _ c.requires.order c.requires.few c.requires.small (omega arith) so_far.spans
    so_far.bytes

pub invariant_of-result : goal.invariant_of-result
invariant_of-result c = kept c

pub returns-clause-lists : goal.returns-clause-lists
returns-clause-lists c = grind (arith, members_of-gathered, same_values)

pub returns-clause-short : goal.returns-clause-short
returns-clause-short c = (kept c).short

pub returns-clause-members : goal.returns-clause-members
returns-clause-members c = few_spans _ _ _ _ (kept c)
