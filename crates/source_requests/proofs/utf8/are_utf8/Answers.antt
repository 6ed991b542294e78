use Rattle.std.proofs.Common.{◌≡◌, ◌<◌, ◌∷◌, [], get_or, length, take, sym, subst, arith}
use Rattle.std.specs.List.{All}
use Rattle.std.proofs.lemmas.List.{take_all, take_more}
use Rattle.std.proofs.lemmas.List.Elements.{All-append, All-cons, All-nil}
use Rattle.std.proofs.lemmas.Option.{get_or_from_slice_get}
use Rattle.kev_read.specs.Pairs.{KeyValue}
use Rattle.source_requests.specs.Requests.{IsUtf8Pair}
use Rattle.source_requests.proofs.utf8.are_utf8.Goals as goal

pub loop-index-preserved : goal.loop-index-preserved
loop-index-preserved c =
    let pairs = c.args.pairs.now in
    let index = c.loop-index.index in
    let item : KeyValue = record { key = c.pair.result.0.now; value = c.pair.result.1.now } in
    let within : index < length pairs = omega (arith, c.len-index-end.ensures) in
    let is : get_or pairs index item ≡ item = get_or_from_slice_get pairs index item item c.pair.ensures in
    let one : IsUtf8Pair (get_or pairs index item) = subst IsUtf8Pair (sym is) c.is_utf8_pair.ensures in
    subst (All IsUtf8Pair) (sym (take_more pairs index item within))
    (All-append IsUtf8Pair (take index pairs) (get_or pairs index item ∷ []) c.loop-index.invariant
    (All-cons IsUtf8Pair (get_or pairs index item) [] one (All-nil IsUtf8Pair)))

pub returns : goal.returns
returns c =
    let pairs = c.args.pairs.now in
    subst (All IsUtf8Pair) (take_all c.loop-index.index pairs (omega (arith, c.loop-index-test.false, c.len-index-end.ensures))) c.loop-index.invariant
