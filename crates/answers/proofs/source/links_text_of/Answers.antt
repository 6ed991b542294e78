use Rattle.std.proofs.Common.{[], ap, sym, subst, ◌∙◌}
use Rattle.std.proofs.Math.Logic.{⊎_elim}
use Rattle.registry.specs.Entries.{menu_of}
use Rattle.source_requests.specs.Requests.{IsTooLong}
use Rattle.source_menus.specs.Found.{found_for}
use Rattle.source_answers.specs.Printed.{links_text}
use Rattle.answers.specs.Source.{AreLinksOf, is_empty}
use Rattle.answers.proofs.RefusalLemmas.{is_err}
use Rattle.answers.proofs.source.links_text_of.Goals as goal

pub returns-then-is_empty : goal.returns-then-is_empty
returns-then-is_empty c =
    let found = c.in-Ok.ensures.ok ∙ ap (λ targets. found_for (menu_of targets) [] c.as_bytes.result.now) c.new-menus.ensures
    ∙ ap (found_for (menu_of c.args.registry.now) []) c.as_bytes.ensures.value in
    let links = c.links.ensures ∙ ap (λ it. it.links) found in
    AreLinksOf.no_link (sym (ap is_empty links) ∙ sym c.is_empty.ensures ∙ c.if-is_empty.true)

pub returns-in_err-links_text-in-Ok : goal.returns-in_err-links_text-in-Ok
returns-in_err-links_text-in-Ok c = rw (is_err _ _ c.from_residual.ensures.1) AreLinksOf.no_memory

pub returns-in_ok-links_text-in-Ok : goal.returns-in_ok-links_text-in-Ok
returns-in_ok-links_text-in-Ok c =
    let found = c.in-Ok.ensures.ok ∙ ap (λ targets. found_for (menu_of targets) [] c.as_bytes.result.now) c.new-menus.ensures
    ∙ ap (found_for (menu_of c.args.registry.now) []) c.as_bytes.ensures.value in
    let links = c.links.ensures ∙ ap (λ it. it.links) found in
    AreLinksOf.printed _ (sym (ap is_empty links) ∙ sym c.is_empty.ensures ∙ c.if-is_empty.false)
    (c.in_ok-links_text-in-Ok.ensures ∙ ap links_text (c.links-in-Ok.ensures ∙ ap (λ it. it.links) found))

pub returns-in-Err : goal.returns-in-Err
returns-in-Err c =
    rw c.refusal_of.ensures
    (⊎_elim (λ memory. rw memory AreLinksOf.no_memory)
    (λ long. rw long.0 (AreLinksOf.too_long (subst IsTooLong c.as_bytes.ensures.value long.1))) c.in-Err.ensures.err)
