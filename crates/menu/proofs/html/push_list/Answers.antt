use Rattle.std.proofs.Common.{◌∷◌, [], ◌++◌, ap, ◌∙◌, string_bytes}
use Rattle.menu.specs.Printed.{html_item, html_items}
use Rattle.menu.proofs.LinkLemmas.{links_step}
use Rattle.menu.proofs.html.push_list.Goals as goal

pub loop-entry-preserved : goal.loop-entry-preserved
loop-entry-preserved c =
    links_step html_item _ _ _ c.args.entries.now c.loop-entry.entry-index c.entry-item.result c.loop-entry-test.true c.loop-entry.invariant
    (c.in_ok-push_item.ensures ∙ ap (λ (x : _). string_bytes c.loop-entry.out ++ html_items (x ∷ [])) c.entry-item.is)
