use Rattle.std.proofs.Common.{[], ◌∷◌, ◌++◌, ap, ◌∙◌, string_bytes}
use Rattle.menu.specs.Printed.{text_line, text}
use Rattle.menu.proofs.LinkLemmas.{links_step}
use Rattle.menu.proofs.menu.Menu.text.Goals as goal

pub loop-entry-preserved : goal.loop-entry-preserved
loop-entry-preserved c =
    links_step text_line [] _ _ _ c.loop-entry.entry-index c.entry-item.result c.loop-entry-test.true c.loop-entry.invariant
    (c.in_ok-push_text_line.ensures ∙ ap (λ (x : _). string_bytes c.loop-entry.out ++ text (x ∷ [])) c.entry-item.is)
