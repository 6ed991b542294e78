use Rattle.std.proofs.Common.{◌≡◌, ◌-◌, suc, take, get_or, bytes_eq, sym, ap, ◌∙◌, subst, arith}
use Rattle.std.proofs.lemmas.Option.{get_or_from_slice_get}
use Rattle.std.specs.List.{list_any}
use Rattle.kev_read.specs.Pairs.{KeyValue, has_key}
use Rattle.kev_read.specs.Private.KeyOrder.{pair_at, pairs_at}
use Rattle.kev_read.specs.Private.Layout.{key_value}
use Rattle.kev_read.proofs.KeyRepeats.{before_is_same}
use Rattle.kev_read.proofs.PairsByKey.{no_pair}
use Rattle.kev_read.proofs.key_sums.repeats.Goals as goal

pub returns-then-place-gt0 : goal.returns-then-place-gt0
returns-then-place-gt0 c =
    let pairs = c.args.pairs.now in
    let order = c.args.order.now in
    let place = c.args.place in
    let m = place - 1 in
    let some = c.if-place-gt0.true in
    let next : suc m ≡ place = omega (arith, some) in
    let within = c.requires.within in
    let before = ap (λ (p : KeyValue). p.key) (get_or_from_slice_get pairs (get_or order m 0) (key_value c.at.result) no_pair c.at.ensures) in
    let here = ap (λ (p : KeyValue). p.key) (get_or_from_slice_get pairs (get_or order place 0) (key_value c.at-then-place-gt0.result) no_pair
    c.at-then-place-gt0.ensures) in
    let same = subst
    (λ p. bytes_eq (pair_at pairs (get_or order m 0)).key (pair_at pairs (get_or order p 0)).key
    ≡ list_any (has_key (pair_at pairs (get_or order p 0)).key) (take p (pairs_at pairs order)))
    next (sym (before_is_same pairs order c.requires.order m (omega (arith, within, next)))) in
    c.eq.ensures ∙ ap (λ k. bytes_eq k c.at-then-place-gt0.result.key.now) (sym before) ∙ ap (bytes_eq (pair_at pairs (get_or order m 0)).key) (sym here) ∙ same
