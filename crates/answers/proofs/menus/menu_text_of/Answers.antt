use Rattle.std.proofs.Common.{ap, sym, ◌∙◌}
use Rattle.menu.specs.Links.{is_empty}
use Rattle.menu.specs.Printed.{text}
use Rattle.registry.specs.Entries.{menu_of}
use Rattle.answers.specs.Menu.{IsMenuOf}
use Rattle.answers.proofs.RefusalLemmas.{is_err}
use Rattle.answers.proofs.menus.menu_text_of.Goals as goal

pub returns-in_err-request : goal.returns-in_err-request
returns-in_err-request c = rw (is_err _ _ c.from_residual.ensures.1) (IsMenuOf.no_request _ c.in_err-request.ensures.err)

pub returns-in_err-menu : goal.returns-in_err-menu
returns-in_err-menu c = rw (is_err _ _ c.from_residual-in_err-menu.ensures.1) (IsMenuOf.no_memory c.in_ok-request.ensures.accepted)

pub returns-then-is_empty : goal.returns-then-is_empty
returns-then-is_empty c =
    let menu = c.in_ok-menu.ensures ∙ ap (menu_of c.args.registry.now) c.in_ok-request.ensures.pairs in
    IsMenuOf.no_link c.in_ok-request.ensures.accepted (sym (ap is_empty menu) ∙ sym c.is_empty.ensures ∙ c.if-is_empty.true)

pub returns-in_err-text : goal.returns-in_err-text
returns-in_err-text c = rw (is_err _ _ c.from_residual-in_err-text.ensures.1) (IsMenuOf.no_memory c.in_ok-request.ensures.accepted)

pub returns : goal.returns
returns c =
    let menu = c.in_ok-menu.ensures ∙ ap (menu_of c.args.registry.now) c.in_ok-request.ensures.pairs in
    IsMenuOf.printed _ c.in_ok-request.ensures.accepted (sym (ap is_empty menu) ∙ sym c.is_empty.ensures ∙ c.if-is_empty.false)
    (c.in_ok-text.ensures ∙ ap text menu)
