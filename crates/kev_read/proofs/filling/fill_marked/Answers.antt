use Rattle.std.proofs.Common.{◌∙◌, ap, sym}
use Rattle.text_model.specs.Texts.{texts_of}
use Rattle.environment_model.specs.Lists.{is_list}
use Rattle.kev_read.specs.Filling.{added, StopsAtPair}
use Rattle.kev_read.specs.Private.Layout.{key_value}
use Rattle.kev_read.proofs.FillingLemmas.{filled_more, passes_there, stops_at, IfErr_passed_on}
use Rattle.kev_read.proofs.filling.fill_marked.Goals as goal

pub loop-index-preserved : goal.loop-index-preserved
loop-index-preserved c =
    let lists = texts_of c.args.lists.now in
    let pairs = c.args.pairs.now in
    let pair = key_value c.at.result in
    let index = c.loop-index.index in
    let marked = c.mark_lists.ensures index ∙ passes_there (is_list lists) pairs index pair c.at.ensures in
    c.in_ok-add.ensures.ok ∙ ap (λ list. added list c.loop-index.env.entries pair) marked
    ∙ ap (λ env. added (is_list lists pair.key) env pair) c.loop-index.invariant ∙ sym (filled_more lists c.args.env.now.entries pairs index pair c.at.ensures)

pub returns-in_err-add-clause-err : goal.returns-in_err-add-clause-err
returns-in_err-add-clause-err c =
    let lists = texts_of c.args.lists.now in
    let pairs = c.args.pairs.now in
    let old = c.args.env.now.entries in
    let new = c.add.new.env.entries in
    let pair = key_value c.at.result in
    let index = c.loop-index.index in
    let e = c.in_err-add.field-0.0 in
    let marked = c.mark_lists.ensures index ∙ passes_there (is_list lists) pairs index pair c.at.ensures in
    let stops = stops_at lists old c.loop-index.env.entries new pairs index pair _ e c.at.ensures marked c.loop-index.invariant c.in_err-add.ensures.err
    c.in_err-add.ensures.added c.in_err-add.ensures.too_large in
    IfErr_passed_on (StopsAtPair lists old pairs new) c.from_residual.result e c.from_residual.ensures.1 stops
