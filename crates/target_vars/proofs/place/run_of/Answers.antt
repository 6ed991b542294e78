use Rattle.std.proofs.Common.{rules, ◌≡◌, ◌≤◌, ◌-◌, true, false, length, take, drop, length-drop, take_all, leb, ltb, sym, subst, arith}
use Rattle.std.proofs.lemmas.List.Sorted.{IsPartitionPoint-from_clause, IsPartitionedBy-ltb, IsPartitionedBy-leb, IsNonDecreasingBy-drop}
use Rattle.std.specs.List.Sorted.{IsPartitionPoint, IsPartitionedBy}
use Rattle.target_vars.specs.declared.place.Span.{Span}
use Rattle.target_vars.proofs.Spans.{run_is}
use Rattle.target_vars.proofs.place.run_of.Goals as goal

pub returns : goal.returns
returns c =
    let xs = c.args.spans.now in
    let n = c.args.list in
    let first = c.partition_point-first.result in
    let count = c.partition_point-count.result in
    let rest = take (length xs - first) (drop first xs) in
    let size = length-drop first xs in
    let rest_is : rest ≡ drop first xs = take_all (length xs - first) (drop first xs) (omega arith) in
    let firsts = IsPartitionPoint-from_clause (λ (s : Span). ltb s.list n) xs first c.partition_point-first.ensures.partitioned
    (IsPartitionedBy-ltb (λ (s : Span). s.list) xs n c.requires) (λ a r q k. search rules) in
    let following = IsPartitionedBy-leb (λ (s : Span). s.list) (drop first xs) n (IsNonDecreasingBy-drop (λ (s : Span). s.list) first xs c.requires) in
    let counts : IsPartitionPoint (λ (s : Span). leb s.list n ≡ true) (λ (s : Span). leb s.list n ≡ false) rest count =
    IsPartitionPoint-from_clause (λ (s : Span). leb s.list n) rest count c.partition_point-count.ensures.partitioned
    (subst (IsPartitionedBy (λ (s : Span). leb s.list n)) (sym rest_is) following) (λ a r q k. search rules) in
    let in_rest : count ≤ length rest = c.partition_point-count.ensures.bound in
    run_is xs n first count c.partition_point-first.ensures.bound c.requires firsts (subst (λ ys. count ≤ length ys) rest_is in_rest)
    (subst (λ ys. IsPartitionPoint (λ (s : Span). leb s.list n ≡ true) (λ (s : Span). leb s.list n ≡ false) ys count) rest_is counts)
