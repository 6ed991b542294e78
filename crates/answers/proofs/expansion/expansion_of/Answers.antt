use Rattle.std.proofs.Common.{[], ◌∷◌, ◌++◌, ap, ◌∙◌}
use Rattle.text_model.specs.Texts.{texts_of}
use Rattle.environment_model.specs.Environment.{look_up}
use Rattle.kev_read.specs.Pairs.{pairs_of}
use Rattle.kev_read.specs.Filling.{filled}
use Rattle.uri_template.specs.Expansion.{expansion}
use Rattle.answers.specs.Expansion.{IsExpansionOf}
use Rattle.answers.proofs.RefusalLemmas.{is_err}
use Rattle.answers.proofs.expansion.expansion_of.Goals as goal

pub returns-in_err-template : goal.returns-in_err-template
returns-in_err-template c = rw (is_err _ _ c.from_residual.ensures.1) (IsExpansionOf.no_template _ c.in_err-template.ensures.err)

pub returns-in_err-request : goal.returns-in_err-request
returns-in_err-request c =
    rw (is_err _ _ c.from_residual-in_err-request.ensures.1)
    (IsExpansionOf.no_request _ _ c.in_ok-template.ensures.ok c.in_err-request.ensures.err)

pub returns-in_err-lists : goal.returns-in_err-lists
returns-in_err-lists c =
    rw (is_err _ _ c.from_residual-in_err-lists.ensures.1)
    (IsExpansionOf.no_memory _ c.in_ok-template.ensures.ok c.in_ok-request.ensures.accepted)

pub returns-in_err-environment : goal.returns-in_err-environment
returns-in_err-environment c =
    rw (is_err _ _ c.from_residual-in_err-environment.ensures.1)
    (IsExpansionOf.no_memory _ c.in_ok-template.ensures.ok c.in_ok-request.ensures.accepted)

pub returns-in_err-text : goal.returns-in_err-text
returns-in_err-text c =
    rw (is_err _ _ c.from_residual-in_err-text.ensures.1)
    (IsExpansionOf.no_memory _ c.in_ok-template.ensures.ok c.in_ok-request.ensures.accepted)

pub returns-in_err-ended : goal.returns-in_err-ended
returns-in_err-ended c =
    rw (is_err _ _ c.from_residual-in_err-ended.ensures.1)
    (IsExpansionOf.no_memory _ c.in_ok-template.ensures.ok c.in_ok-request.ensures.accepted)

pub returns : goal.returns
returns c =
    let parts = c.in_ok-template.template.parts in
    let names = ap texts_of c.deref.ensures.value ∙ c.in_ok-lists.ensures in
    let entries =
    c.in_ok-environment.ensures ∙ ap (λ lists. filled lists [] c.in_ok-request.request.pairs) names
    ∙ ap (filled _ []) c.in_ok-request.ensures.pairs in
    let text = c.in_ok-text.ensures.ok ∙ ap (λ entries. expansion (look_up entries) parts) entries in
    IsExpansionOf.expanded parts _ c.in_ok-template.ensures.ok c.in_ok-request.ensures.accepted
    (c.in_ok-ended.ensures ∙ ap (λ text. text ++ 10 ∷ []) text)
