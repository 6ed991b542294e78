-- One more name.
use Rattle.std.proofs.Common.{[], Bor, sym, ◌∙◌, subst, arith}
use Rattle.std.proofs.lemmas.List.{get_or-map, length-map}
use Rattle.text_model.specs.Texts.{Text, texts_of}
use Rattle.rule_lint.specs.Private.Starts.{IsMarked}
use Rattle.rule_lint.proofs.StartLemmas.{one_more_marked}
use Rattle.rule_lint.proofs.starts.mark_names.Goals as goal

pub loop-place-preserved : goal.loop-place-preserved
loop-place-preserved c =
    let names = c.args.names.now in
    let place = c.loop-place.place in
    let new = c.mark_name.new.firsts in
    let none : Bor Text = record { ref_ptr = (0, 0); now = [] } in
    let name = c.as_bytes.ensures.value ∙ sym (get_or-map (λ (name : Bor Text). name.now) names place none [] c.loop-place-test.true) in
    one_more_marked c.args.multiplier c.loop-place.firsts new (texts_of names) place c.in_ok-mark_name.ensures.kept c.loop-place.invariant
    (subst (IsMarked c.args.multiplier new place) name c.in_ok-mark_name.ensures.marked)

pub returns : goal.returns
returns c = λ k l. c.loop-place.invariant k (omega (arith, l, c.loop-place-test.false, length-map c.args.names.now (λ (name : Bor Text). name.now)))
