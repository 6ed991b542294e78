use Rattle.std.proofs.Common.{rules, length-drop, arith}
use Rattle.std.proofs.lemmas.List.Sorted.{IsPartitionPoint-from_clause, IsNonDecreasingBy-drop}
use Rattle.std.specs.Ordering.{is_lt, ordering_index}
use Rattle.kev_read.proofs.KeyOrders.{compared_at, rises, splits, is_lt-Falls, found, run_is}
use Rattle.kev_read.proofs.key_order.run_of_marked.Goals as goal

pub run_length-requires : goal.run_length-requires
run_length-requires c =
    let pairs = c.args.pairs.now in
    let key = c.args.key.text.now in
    rw c.split_at.ensures.back (IsNonDecreasingBy-drop (λ index. ordering_index (compared_at pairs key index)) c.partition_point-start.result c.args.order.now
    (rises pairs c.args.order.now key c.requires))

pub returns : goal.returns
returns c =
    let pairs = c.args.pairs.now in
    let order = c.args.order.now in
    let key = c.args.key.text.now in
    let start = c.partition_point-start.result in
    let count = c.run_length.result in
    let later_part = c.split_at.ensures.back in
    let before = IsPartitionPoint-from_clause (λ index. is_lt (compared_at pairs key index)) order start c.partition_point-start.ensures.partitioned
    (splits is_lt is_lt-Falls pairs order key (rises pairs order key c.requires)) (λ a r f' called. search rules) in
    let not_after = rw later_part at c.run_length.ensures.split in
    let few = c.partition_point-start.ensures.bound in
    let fewer = rw later_part at c.run_length.ensures.bound in
    record {
      within = omega (arith, few, fewer, length-drop start order);
      are = run_is pairs order key start count few fewer before not_after;
      found = found pairs order key start count c.requires few fewer before not_after;
    }
