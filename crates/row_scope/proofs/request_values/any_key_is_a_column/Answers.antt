use Rattle.std.proofs.Common.{◌≡◌, ◌||◌, get_or, arith, sym, ap, ◌∙◌}
use Rattle.std.proofs.lemmas.List.{take_all}
use Rattle.std.proofs.lemmas.List.Folds.{list_any_at, list_any_more}
use Rattle.std.proofs.lemmas.Option.{get_or_from_slice_get}
use Rattle.kev_read.specs.Pairs.{KeyValue}
use Rattle.kbart_rows.specs.NameSets.{has}
use Rattle.row_scope.specs.RequestValues.{has_key_among}
use Rattle.row_scope.proofs.request_values.any_key_is_a_column.Goals as goal

pub returns-then-contains : goal.returns-then-contains
returns-then-contains c =
    let is_column = λ (pair : KeyValue). has c.args.columns.now.names pair.key in
    let pairs = c.args.request.now.pairs in
    let pair : KeyValue = record { key = c.pair.result.0.now; value = c.pair.result.1.now } in
    let here : get_or pairs c.loop-index.index pair ≡ pair = get_or_from_slice_get pairs c.loop-index.index pair pair c.pair.ensures in
    sym (list_any_at is_column pairs c.loop-index.index pair (omega arith) (ap is_column here ∙ sym c.contains.ensures ∙ c.if-contains.true))

pub loop-index-preserved : goal.loop-index-preserved
loop-index-preserved c =
    let is_column = λ (pair : KeyValue). has c.args.columns.now.names pair.key in
    let pairs = c.args.request.now.pairs in
    let pair : KeyValue = record { key = c.pair.result.0.now; value = c.pair.result.1.now } in
    let here : get_or pairs c.loop-index.index pair ≡ pair = get_or_from_slice_get pairs c.loop-index.index pair pair c.pair.ensures in
    list_any_more is_column pairs c.loop-index.index pair (omega arith)
    ∙ ap (λ found. found || is_column (get_or pairs c.loop-index.index pair)) c.loop-index.invariant
    ∙ ap is_column here ∙ sym c.contains.ensures ∙ c.if-contains.false

pub returns : goal.returns
returns c =
    sym c.loop-index.invariant ∙ ap (has_key_among c.args.columns.now.names) (take_all c.loop-index.index c.args.request.now.pairs (omega arith))
