use Rattle.std.proofs.Common.{◌≡◌, ◌<◌, ◌+◌, ◌++◌, ◌∷◌, [], Some, get_or, length, slice_get, take, sym, ap, subst, ◌∙◌, append-nil, arith}
use Rattle.std.specs.List.{flat_map}
use Rattle.std.proofs.lemmas.List.{take_more}
use Rattle.std.proofs.lemmas.List.Concat.{flat_map-append}
use Rattle.std.proofs.lemmas.Option.{get_or_from_slice_get}
use Rattle.kev_read.specs.Pairs.{KeyValue}
use Rattle.source_answers.specs.Printed.{pair_line}
use Rattle.source_answers.proofs.readings.reading_text.Goals as goal

pub loop-index-preserved : goal.loop-index-preserved
loop-index-preserved c =
    let pairs = c.args.reading.now.pairs in
    let index = c.loop-index.index in
    let item : KeyValue = record { key = c.pair.result.0.now; value = c.pair.result.1.now } in
    let within : index < length pairs =
    subst (λ list. index < length list) c.pairs-pairs.ensures (omega (arith, c.loop-index-test.true, c.len-index-end.ensures)) in
    let found : slice_get pairs index ≡ Some item = subst (λ list. slice_get list index ≡ Some item) c.pairs-pairs.ensures c.pair.ensures in
    let is : get_or pairs index item ≡ item = get_or_from_slice_get pairs index item item found in
    let so_far = flat_map pair_line (take index pairs) in
    let more : flat_map pair_line (take (index + 1) pairs) ≡ so_far ++ pair_line item =
    ap (flat_map pair_line) (take_more pairs index item within) ∙ flat_map-append pair_line (take index pairs) (get_or pairs index item ∷ [])
    ∙ ap (λ text. so_far ++ text) (append-nil (pair_line (get_or pairs index item))) ∙ ap (λ pair. so_far ++ pair_line pair) is in
    c.in_ok-push_pair.ensures ∙ ap (λ text. text ++ pair_line item) c.loop-index.invariant ∙ sym more
