use Rattle.std.proofs.Common.{ℕ, rules, arith}
use Rattle.std.proofs.lemmas.List.Sorted.{IsPartitionPoint-from_clause}
use Rattle.std.specs.Ordering.{is_le}
use Rattle.kev_read.proofs.KeyOrders.{compared_at, splits, is_le-Falls, none_past, first_alone}
use Rattle.kev_read.proofs.key_order.run_length.Goals as goal

pub returns-then-is_past-clause-split : goal.returns-then-is_past-clause-split
returns-then-is_past-clause-split c =
    let pairs = c.args.pairs.now in
    let key = c.args.key.text.now in
    let test = λ (index : ℕ). is_le (compared_at pairs key index) in (
      (λ k d from below. absurd (omega arith)),
      none_past test c.args.rest.now 0 (splits is_le is_le-Falls pairs c.args.rest.now key c.requires) (c.is_past.ensures.past c.if-is_past.true),
    )

pub returns-then-is_past-2-clause-split : goal.returns-then-is_past-2-clause-split
returns-then-is_past-2-clause-split c =
    let pairs = c.args.pairs.now in
    let key = c.args.key.text.now in
    let test = λ (index : ℕ). is_le (compared_at pairs key index) in
    let parts = splits is_le is_le-Falls pairs c.args.rest.now key c.requires in
    let first = c.is_past.ensures.not_past c.if-is_past.false in (
      first_alone test c.args.rest.now first.0 first.1,
      none_past test c.args.rest.now 1 parts (c.is_past-else-is_past.ensures.past c.if-is_past-2.true),
    )

pub returns-else-is_past-2-clause-split : goal.returns-else-is_past-2-clause-split
returns-else-is_past-2-clause-split c =
    let pairs = c.args.pairs.now in
    let key = c.args.key.text.now in
    let test = λ (index : ℕ). is_le (compared_at pairs key index) in
    IsPartitionPoint-from_clause test c.args.rest.now c.partition_point.result c.partition_point.ensures.partitioned
    (splits is_le is_le-Falls pairs c.args.rest.now key c.requires) (λ a r f' called. search rules)
