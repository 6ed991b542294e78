use Rattle.std.proofs.Common.{◌≡◌, ◌-◌, ◌≤◌, ◌<◌, List, true, false, ap, arith, drop, get_or, length, nat_lt, rules, take}
use Rattle.std.proofs.lemmas.List.Sorted.{IsNonDecreasingBy-drop, IsNonDecreasingBy-take, IsPartitionPoint-from_clause, IsPartitionedBy-ltb}
use Rattle.std.specs.List.Sorted.{IsPartitionPoint}
use Rattle.std.proofs.lemmas.Grind.{common_steps}
use Rattle.kbart_rows.specs.Private.Index.{entry_key}
use Rattle.kbart_rows.specs.declared.index.Entry.{Entry}
use Rattle.kbart_rows.proofs.IndexLemmas.{at_mid}
use Rattle.kbart_rows.proofs.index.place_in.Goals as goal

abbrev mid : (c : goal.After-partition_point) → List Entry
mid c = take (c.args.end - c.args.start) (drop c.args.start c.args.entries.now)

parts : (c : goal.After-partition_point) → IsPartitionPoint (λ entry. nat_lt (entry_key entry) c.args.key ≡ true) (λ entry. nat_lt (entry_key entry)
    c.args.key ≡ false)
    (mid c) c.partition_point.result
parts c =
    IsPartitionPoint-from_clause (λ entry. nat_lt (entry_key entry) c.args.key) (mid c) c.partition_point.result c.partition_point.ensures.partitioned
    (IsPartitionedBy-ltb entry_key (mid c) c.args.key
    (IsNonDecreasingBy-take entry_key (c.args.end - c.args.start) (drop c.args.start c.args.entries.now)
    (IsNonDecreasingBy-drop entry_key c.args.start c.args.entries.now c.requires.order))) (λ a r f' called. search rules)

size : (c : goal.After-partition_point) → length (mid c) ≡ c.args.end - c.args.start
size c = grind (arith, common_steps)

pub returns-clause-before : goal.returns-clause-before
returns-clause-before c = λ k d above below.
    let start = c.args.start in
    let i = k - start in
    let bound = c.partition_point.ensures.bound in
    let size = size c in
    let inside : i < c.partition_point.result = omega (arith, above, below) in
    let same = at_mid c.args.entries.now start (c.args.end - start) i k d (omega (arith, inside, bound, size)) (omega (arith, above)) in
    let less = (parts c).0 i d (omega arith) inside in
    let small : entry_key (get_or (mid c) i d) < c.args.key = grind arith in
    let keys : entry_key (get_or (mid c) i d) ≡ entry_key (get_or c.args.entries.now k d) = ap entry_key same in
    omega (arith, small, keys)

pub returns-clause-after : goal.returns-clause-after
returns-clause-after c = λ k d above below.
    let start = c.args.start in
    let i = k - start in
    let size = size c in
    let inside : i < c.args.end - start = omega (arith, above, below) in
    let same = at_mid c.args.entries.now start (c.args.end - start) i k d inside (omega (arith, above)) in
    let more = (parts c).1 i d (omega (arith, above)) (omega (arith, inside, size)) in
    let large : c.args.key ≤ entry_key (get_or (mid c) i d) = grind arith in
    let keys : entry_key (get_or (mid c) i d) ≡ entry_key (get_or c.args.entries.now k d) = ap entry_key same in
    omega (arith, large, keys)
