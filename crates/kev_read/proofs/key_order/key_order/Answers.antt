use Rattle.std.proofs.Common.{◌≡◌, ap, ◌∙◌, rules}
use Rattle.std.specs.List.{range_with_len}
use Rattle.std.specs.Ordering.{is_lt}
use Rattle.std.specs.Cmp.Lexicographic.{options_total}
use Rattle.std.proofs.lemmas.Fn.{always_returns_same}
use Rattle.std.proofs.lemmas.List.Sorted.{ranks_by}
use Rattle.kev_read.specs.Private.KeyOrder.{key_at}
use Rattle.kev_read.proofs.KeyMarks.{keys_total}
use Rattle.kev_read.proofs.StableKeys.{key_lt}
use Rattle.kev_read.proofs.KeyOrders.{key_order_from_sort}
use Rattle.kev_read.proofs.key_order.key_order.Goals as goal

pub returns : goal.returns
returns c =
    let pairs = c.args.pairs.now in
    let ranks = ranks_by (options_total keys_total) (key_at pairs) in
    let all = c.in_ok-order.ensures ∙ ap (range_with_len 0) c.len.ensures in
    key_order_from_sort pairs c.in_ok-order.order.items c.sort_by.new.self.items all c.sort_by.ensures.permutation
    (c.in_ok-sort_by.ensures.sorted _ ranks
    (always_returns_same _ (λ a r. is_lt r ≡ key_lt pairs a.0.now a.1.0.now) _ (λ a r f' called. search rules)))
    (c.sort_by.ensures.stable _ ranks
    (always_returns_same _ (λ a r. is_lt r ≡ key_lt pairs a.0.now a.1.0.now) _ (λ a r f' called. search rules)))
