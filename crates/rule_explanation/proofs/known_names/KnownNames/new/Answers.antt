-- One more name, and all of them.
use Rattle.std.proofs.Common.{◌++◌, ◌∷◌, [], map, take, string_bytes, sym, ap, ◌∙◌}
use Rattle.std.proofs.lemmas.List.{map_more, take_all}
use Rattle.std.proofs.lemmas.Simd.{map-map}
use Rattle.rule_explanation.specs.Private.KnownNames.{known_as}
use Rattle.rule_explanation.proofs.known_names.KnownNames.new.Goals as goal

pub loop-name-preserved : goal.loop-name-preserved
loop-name-preserved c =
    let known = known_as c.args.lists.now c.args.table.now.header in
    let texts = c.as_slice-texts.result.now in
    let i = c.loop-name.name-index in
    let here = c.new.ensures ∙ ap known c.as_str.ensures.value ∙ ap (λ (name : _). known (string_bytes name)) c.name-item.is in
    c.in_ok-push.ensures.items ∙ ap (λ (before : _). before ++ c.new.result ∷ []) c.loop-name.invariant
    ∙ ap (λ (last : _). map (λ name. known (string_bytes name)) (take i texts) ++ last ∷ []) here
    ∙ sym (map_more (λ name. known (string_bytes name)) texts i c.name-item.result c.loop-name-test.true)

pub returns-clause-known : goal.returns-clause-known
returns-clause-known c =
    let known = known_as c.args.lists.now c.args.table.now.header in
    let texts = c.as_slice-texts.result.now in
    c.loop-name.invariant ∙ ap (λ (names : _). map (λ name. known (string_bytes name)) names) (take_all c.loop-name.name-index texts c.loop-name-test.false)
    ∙ sym (map-map known string_bytes texts) ∙ ap (map known) c.as_slice-texts.ensures
