use Rattle.std.proofs.Common.{◌<◌, ◌∙◌, length, map, ap, arith, rules}
use Rattle.std.proofs.lemmas.List.{take_all}
use Rattle.std.proofs.lemmas.Option.{get_or_from_slice_get}
use Rattle.serde_json.specs.declared.value.Value.{the_lemmas}
use Rattle.kev_read.specs.Pairs.{KeyValue}
use Rattle.source_json.specs.Values.{pair_value}
use Rattle.source_json.proofs.Lists.{one_more}
use Rattle.source_json.proofs.readings.pairs_value.Goals as goal

pub loop-index-preserved : goal.loop-index-preserved
loop-index-preserved c =
    let pairs = c.args.pairs.now in
    let index = c.loop-index.index in
    let item : KeyValue = record { key = c.pair.result.0.now; value = c.pair.result.1.now } in
    let within : index < length pairs = omega (arith, c.loop-index-test.true, c.len-index-end.ensures) in
    one_more pair_value pairs index item item _ _ _ within c.in_ok-push.ensures.items c.loop-index.invariant c.in_ok-pair_value.ensures
    (get_or_from_slice_get pairs index item item c.pair.ensures)

pub returns : goal.returns
returns c =
    let pairs = c.args.pairs.now in
    let all = take_all c.loop-index.index pairs (omega (arith, c.loop-index-test.false, c.len-index-end.ensures)) in
    let values = c.loop-index.invariant ∙ ap (map pair_value) all in
    search (rules, the_lemmas, values)
