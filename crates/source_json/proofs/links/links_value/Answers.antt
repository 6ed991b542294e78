use Rattle.std.proofs.Common.{◌∙◌, map, sym, ap, arith, rules}
use Rattle.std.proofs.lemmas.List.{take_all}
use Rattle.serde_json.specs.declared.value.Value.{the_lemmas}
use Rattle.source_json.specs.Values.{link_value}
use Rattle.source_json.proofs.Lists.{one_more}
use Rattle.source_json.proofs.links.links_value.Goals as goal

pub loop-link-preserved : goal.loop-link-preserved
loop-link-preserved c =
    one_more link_value c.args.links.now c.loop-link.link-index c.link-item.result c.link-item.result _ _ _ c.loop-link-test.true
    c.in_ok-push.ensures.items c.loop-link.invariant c.in_ok-link_value.ensures (sym c.link-item.is)

pub returns : goal.returns
returns c =
    let all = take_all c.loop-link.link-index c.args.links.now (omega (arith, c.loop-link-test.false)) in
    let values = c.loop-link.invariant ∙ ap (map link_value) all in
    search (rules, the_lemmas, values)
