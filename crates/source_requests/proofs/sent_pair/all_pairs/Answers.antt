use Rattle.std.proofs.Common.{◌≡◌, ◌<◌, ◌++◌, ◌∷◌, [], get_or, length, take, sym, ap, ◌∙◌, arith}
use Rattle.std.proofs.lemmas.List.{take_more}
use Rattle.std.proofs.lemmas.Option.{get_or_from_slice_get}
use Rattle.kev_read.specs.Pairs.{KeyValue}
use Rattle.source_requests.proofs.sent_pair.all_pairs.Goals as goal

pub loop-index-preserved : goal.loop-index-preserved
loop-index-preserved c =
    let pairs = c.args.pairs.now in
    let index = c.loop-index.index in
    let item : KeyValue = record { key = c.pair.result.0.now; value = c.pair.result.1.now } in
    let within : index < length pairs = omega (arith, c.len-index-end.ensures) in
    let is : get_or pairs index item ≡ item = get_or_from_slice_get pairs index item item c.pair.ensures in
    c.in_ok-push.ensures.items ∙ ap (λ list. list ++ item ∷ []) c.loop-index.invariant
    ∙ sym (take_more pairs index item within ∙ ap (λ pair. take index pairs ++ pair ∷ []) is)
