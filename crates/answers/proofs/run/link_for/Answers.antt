use Rattle.std.proofs.Common.{◌≡◌, List, [], None, rules, map, filter, string_bytes, ap, ◌∙◌}
use Rattle.text_model.specs.Texts.{Text, texts_of}
use Rattle.code_model.specs.Code.{Code}
use Rattle.target_vars.specs.EnvValue.{EnvValue}
use Rattle.kev_read.specs.Refusal.{refusal}
use Rattle.kev_read.specs.Pairs.{pairs_of}
use Rattle.kev_read.specs.Filling.{filled}
use Rattle.answers.specs.Run.{IsRequest, IsLinkFor, request_entries}
use Rattle.answers.proofs.RefusalLemmas.{is_err}
use Rattle.answers.proofs.run.link_for.Goals as goal

-- the environment that was filled is that of the request
request : (code seen : Code) (query : Text) (env : EnvValue) (names : List Text) → refusal query ≡ None
    → env.entries ≡ filled names [] (pairs_of query) → names ≡ map (λ n. n.text) (filter (λ n. n.list) seen.names) → seen ≡ code → IsRequest code query env
request code seen query env names accepted fills lists same =
    record {
      request = accepted;
      filled = fills ∙ ap (λ ns. filled ns [] (pairs_of query)) lists ∙ ap (λ (c : Code). request_entries c query) same;
    }

pub returns-in_err-request : goal.returns-in_err-request
returns-in_err-request c = rw (is_err _ _ c.from_residual.ensures.1) (IsLinkFor.no_request _ c.in_err-request.ensures.err)

pub returns-in_err-lists : goal.returns-in_err-lists
returns-in_err-lists c = rw (is_err _ _ c.from_residual-in_err-lists.ensures.1) (IsLinkFor.no_memory c.in_ok-request.ensures.accepted)

pub returns-in_err-environment : goal.returns-in_err-environment
returns-in_err-environment c = rw (is_err _ _ c.from_residual-in_err-environment.ensures.1) (IsLinkFor.no_memory c.in_ok-request.ensures.accepted)

pub returns-in_err-ended-in-Ok-Link : goal.returns-in_err-ended-in-Ok-Link
returns-in_err-ended-in-Ok-Link c =
    rw (is_err _ _ c.from_residual-in_err-ended-in-Ok-Link.ensures.1) (IsLinkFor.no_memory c.in_ok-request.ensures.accepted)

pub returns-in-Ok-Link : goal.returns-in-Ok-Link
returns-in-Ok-Link c =
    let filled = request c.args.code.now _ c.args.query.now c.in_ok-environment.field-0 _ c.in_ok-request.ensures.accepted
    (c.in_ok-environment.ensures ∙ ap (filled _ []) c.in_ok-request.ensures.pairs)
    (ap texts_of c.deref.ensures.value ∙ c.in_ok-lists.ensures) c.code.ensures.code in
    IsLinkFor.linked (string_bytes c.in-Ok-Link.link) _
    (record {
      env = c.in_ok-environment.field-0;
      request = filled;
      within = c.in-Ok-Link.ensures.within;
      ends = rw c.in-Ok-Link.field-0-is at c.in-Ok-Link.ensures.ends;
    })
    c.in_ok-ended-in-Ok-Link.ensures

pub returns-in-Ok-NoLink : goal.returns-in-Ok-NoLink
returns-in-Ok-NoLink c =
    let filled = request c.args.code.now _ c.args.query.now c.in_ok-environment.field-0 _ c.in_ok-request.ensures.accepted
    (c.in_ok-environment.ensures ∙ ap (filled _ []) c.in_ok-request.ensures.pairs)
    (ap texts_of c.deref.ensures.value ∙ c.in_ok-lists.ensures) c.code.ensures.code in
    IsLinkFor.no_link
    (record {
      env = c.in_ok-environment.field-0;
      request = filled;
      within = c.in-Ok-NoLink.ensures.within;
      ends = rw c.in-Ok-NoLink.field-0-is at c.in-Ok-NoLink.ensures.ends;
    })

pub returns-in-Err-OverBudget : goal.returns-in-Err-OverBudget
returns-in-Err-OverBudget c =
    let filled = request c.args.code.now _ c.args.query.now c.in_ok-environment.field-0 _ c.in_ok-request.ensures.accepted
    (c.in_ok-environment.ensures ∙ ap (filled _ []) c.in_ok-request.ensures.pairs)
    (ap texts_of c.deref.ensures.value ∙ c.in_ok-lists.ensures) c.code.ensures.code in
    let bound = (c.run_verified-outcome.ensures.over c.in-Err-OverBudget.most).0 (search rules) in
    IsLinkFor.over_budget _ (record { env = c.in_ok-environment.field-0; request = filled; bound = bound.0; over = bound.1 })

pub returns : goal.returns
returns c = IsLinkFor.no_memory c.in_ok-request.ensures.accepted
