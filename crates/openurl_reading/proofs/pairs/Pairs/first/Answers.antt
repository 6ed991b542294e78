use Rattle.std.proofs.Common.{◌≡◌, true, sym, ap, subst, ◌∙◌, Some}
use Rattle.std.specs.Str.{bytes_eq}
use Rattle.kev_read.specs.Pairs.{has_key, first_of}
use Rattle.openurl_reading.proofs.Firsts.{first_at}
use Rattle.openurl_reading.proofs.pairs.Pairs.first.Goals as goal

pub returns-then-eq : goal.returns-then-eq
returns-then-eq c =
    let key = c.args.key.now in
    let pairs = c.deref-pair-items.result.now in
    let all : pairs ≡ c.args.self.now = cc in
    let item = c.pair-item.result in
    let found : has_key key item ≡ true = ap (λ k. bytes_eq k key) (sym c.key.ensures) ∙ sym c.if-eq.ensures in
    let first = first_at pairs key c.loop-pair.pair-index item c.loop-pair-test.true c.loop-pair.invariant
    (subst (λ p. has_key key p ≡ true) c.pair-item.is found) in
    ap Some (c.value.ensures ∙ ap (λ p. p.value) c.pair-item.is) ∙ sym first ∙ ap (λ l. first_of l key) all
