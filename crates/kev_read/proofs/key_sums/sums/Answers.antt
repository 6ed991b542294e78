use Rattle.std.proofs.Common.{◌≡◌, length, take, [], get_or, ap, ◌∙◌, arith}
use Rattle.std.proofs.lemmas.List.{length-map, length-take-le}
use Rattle.std.proofs.lemmas.Option.{get_or_from_slice_get}
use Rattle.std.specs.Prelude.{if◌then◌else◌}
use Rattle.std.specs.List.{list_any}
use Rattle.std.proofs.lemmas.Grind.{common_steps}
use Rattle.environment_model.specs.Lists.{is_list}
use Rattle.kev_read.specs.Pairs.{KeyValue, has_key}
use Rattle.kev_read.specs.Private.KeyOrder.{pairs_at}
use Rattle.kev_read.specs.Private.Layout.{key_value}
use Rattle.kev_read.proofs.FilledSums.{adds_bytes, more_bytes_filled, more_members_filled}
use Rattle.kev_read.proofs.FillingLemmas.{filled_bytes, filled_members}
use Rattle.kev_read.proofs.KeySpans.{room_for_value}
use Rattle.kev_read.proofs.PairsByKey.{all_pairs, no_pair, one_of_pairs, same_bytes, same_count, same_values}
use Rattle.kev_read.proofs.key_sums.sums.Goals as goal

pub overflow_add-bytes : goal.overflow_add-bytes
overflow_add-bytes c =
    let pairs = c.args.pairs.now in
    let order = c.args.order.now in
    let n = c.loop-place.place in
    let ordered = pairs_at pairs order in
    let pair = key_value c.at-pair.result in
    let here = one_of_pairs pairs order n pair (omega arith) c.at-pair.ensures in
    let room = room_for_value ordered n pair here in
    let so_far = c.loop-place.invariant.bytes in
    let few = filled_bytes [] [] (take n ordered) in
    let small = c.added_bytes-bytes.ensures.small in
    omega (arith, room, so_far, few, small, same_bytes pairs order c.requires.order, c.requires.small)

pub loop-place-preserved : goal.loop-place-preserved
loop-place-preserved c =
    let pairs = c.args.pairs.now in
    let order = c.args.order.now in
    let n = c.loop-place.place in
    let ordered = pairs_at pairs order in
    let pair = key_value c.at-pair.result in
    let here = one_of_pairs pairs order n pair (omega arith) c.at-pair.ensures in
    let same = get_or_from_slice_get pairs (get_or order n 0) pair no_pair c.at-pair.ensures in
    let repeated = c.repeats-is_repeated.result in
    let is = c.repeats-is_repeated.ensures ∙ ap (λ (p : KeyValue). list_any (has_key p.key) (take n ordered)) same in
    let more_bytes = more_bytes_filled ordered n pair here repeated is in
    let more_members = more_members_filled ordered n pair here in
    let bytes : c.added_bytes-bytes.result ≡ adds_bytes (is_list [] pair.key) repeated (length pair.value) = grind (arith, common_steps) in
    let members = c.added_members-members.ensures.value ∙ ap (λ l. if l then 1 else 0) c.is_standard_list-is_list.ensures in
    let bytes_so_far = c.loop-place.invariant.bytes in
    let members_so_far = c.loop-place.invariant.members in
    grind (arith, common_steps)

pub overflow_add-members : goal.overflow_add-members
overflow_add-members c =
    let pairs = c.args.pairs.now in
    let order = c.args.order.now in
    let n = c.loop-place.place in
    let ordered = pairs_at pairs order in
    let count = same_count pairs order c.requires.order in
    let so_far = c.loop-place.invariant.members in
    let few = filled_members [] [] (take n ordered) in
    let size : length ordered ≡ length order = length-map order _ in
    let taken : length (take n ordered) ≡ n = length-take-le n ordered (omega (arith, size)) in
    let small = c.added_members-members.ensures.small in
    omega (arith, so_far, few, taken, small, count, c.requires.few)

pub returns : goal.returns
returns c = grind (arith, all_pairs, same_values, c.loop-place.invariant.bytes, c.loop-place.invariant.members)
