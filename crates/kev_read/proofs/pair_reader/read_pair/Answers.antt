use Rattle.std.proofs.Common.{◌≡◌, ◌+◌, ◌-◌, ◌<◌, get_or, length, drop, take, sym, ap, ◌∙◌, subst, arith, rules}
use Rattle.std.proofs.lemmas.Grind.{common_steps}
use Rattle.kev_read.specs.Private.Layout.{part_in}
use Rattle.kev_read.specs.Private.Reading.{IsFirstPair}
use Rattle.kev_read.proofs.FirstPairs.{pair_of_both, pair_of_key}
use Rattle.kev_read.proofs.PairsInText.{part_stays}
use Rattle.kev_read.proofs.pair_reader.read_pair.Goals as goal

pub returns-then-key_end-query-clause-first : goal.returns-then-key_end-query-clause-first
returns-then-key_end-query-clause-first c =
    let query = c.args.query.now in
    let start = c.args.start in
    let n = c.key_part-key_len.result.0 in
    let back = c.split_at.ensures.back in
    let text = c.read_part.new.text.items in
    let ends : start + n < length query → get_or query (start + n) 0 ≡ 38 = grind (arith, common_steps) in
    let first = pair_of_key query start n c.requires.within c.requires.some (rw back at c.key_part-key_len.ensures.within)
    (rw back at c.key_part-key_len.ensures.lacks) ends in
    let none : start + n - (start + n) ≡ 0 = omega arith in
    let key = c.in_ok-key.ensures.part.1 in
    subst (λ pair. IsFirstPair (drop start query) pair (drop (start + n + 1) query))
    (λ i. record { key = sym key i; value = take (sym none i) (drop (start + n) text) }) first

pub returns-clause-first : goal.returns-clause-first
returns-clause-first c =
    let query = c.args.query.now in
    let start = c.args.start in
    let n = c.key_part-key_len.result.0 in
    let m = c.value_part-value_len.result.0 in
    let back = c.split_at.ensures.back in
    let back_value = c.split_at-2.ensures.back in
    let inside : start + n < length query = search rules in
    let equals : get_or query (start + n) 0 ≡ 61 = search rules in
    let ends : start + n + 1 + m < length query → get_or query (start + n + 1 + m) 0 ≡ 38 = search rules in
    let first = pair_of_both query start n m inside (rw back at c.key_part-key_len.ensures.lacks) equals
    (rw back_value at c.value_part-value_len.ensures.within) (rw back_value at c.value_part-value_len.ensures.lacks) ends in
    let grows = c.in_ok-value.ensures.grows in
    let key = ap (λ t. part_in t c.in_ok-key.key) grows.1
    ∙ (part_stays c.read_part.new.text.items grows.0 c.in_ok-key.key c.in_ok-key.ensures.part.0 ∙ c.in_ok-key.ensures.part.1) in
    let value = c.in_ok-value.ensures.part.1 in
    subst (λ pair. IsFirstPair (drop start query) pair (drop (start + n + 1 + m + 1) query)) (λ i. record { key = sym key i; value = sym value i }) first
