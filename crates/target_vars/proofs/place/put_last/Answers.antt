use Rattle.std.proofs.Common.{rules, ◌≡◌, ◌≤◌, true, false, length, insert, leb, sym, ap, subst, arith}
use Rattle.std.proofs.lemmas.List.Sorted.{IsPartitionPoint-from_clause, IsPartitionedBy-leb}
use Rattle.std.specs.List.Sorted.{IsPartitionPoint, IsPartitionedBy}
use Rattle.target_vars.specs.declared.place.Span.{Span}
use Rattle.target_vars.proofs.Spans.{put_last_is}
use Rattle.target_vars.proofs.place.put_last.Goals as goal

pub returns : goal.returns
returns c =
    let xs = c.args.spans.now.items in
    let s = c.args.span in
    let end = c.partition_point-end.result in
    let new : c.insert.new.self.items ≡ insert xs end s = search rules in
    let within : end ≤ length xs = omega (arith, c.partition_point-end.ensures.bound, ap length c.deref.ensures.value) in
    let order = subst (IsPartitionedBy (λ (x : Span). leb x.list s.list)) (sym c.deref.ensures.value)
    (IsPartitionedBy-leb (λ (x : Span). x.list) xs s.list c.requires.in_order) in
    let parted = IsPartitionPoint-from_clause (λ (x : Span). leb x.list s.list) c.deref.result.now end c.partition_point-end.ensures.partitioned order
    (λ a r q k. search rules) in
    rw new (put_last_is xs s end within c.requires.in_order
    (subst (λ ys. IsPartitionPoint (λ (x : Span). leb x.list s.list ≡ true) (λ (x : Span). leb x.list s.list ≡ false) ys end) c.deref.ensures.value
    parted))
