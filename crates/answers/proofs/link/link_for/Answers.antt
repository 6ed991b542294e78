use Rattle.std.proofs.Common.{◌≡◌, List, [], Option, None, string_bytes, sym, ap, ◌∙◌}
use Rattle.std.specs.Borrow.{Bor}
use Rattle.std.specs.Option.{option_map}
use Rattle.text_model.specs.Texts.{Text, texts_of}
use Rattle.environment_model.specs.Lists.{list_names}
use Rattle.kev_read.specs.Pairs.{pairs_of}
use Rattle.kev_read.specs.Refusal.{refusal}
use Rattle.kev_read.specs.Filling.{filled}
use Rattle.rule_parser.specs.Rules.{RuleSet}
use Rattle.rule_parser.specs.Names.{each_once}
use Rattle.rule_parser.specs.Meaning.{meaning}
use Rattle.answers.specs.Link.{Means, IsLinkFor}
use Rattle.answers.proofs.RefusalLemmas.{is_err}
use Rattle.answers.proofs.link.link_for.Goals as goal

-- what the rules mean in the environment that was filled
means : (rules : RuleSet) (query : Text) (lists : List (Bor Text)) (link : Option Text) → texts_of lists ≡ each_once (list_names rules.lists)
    → refusal query ≡ None → link ≡ meaning rules (filled (texts_of lists) [] (pairs_of query)) → Means rules query link
means rules query lists link listed accepted meant =
    record {
      request = accepted;
      meant = meant ∙ ap (λ names. meaning rules (filled names [] (pairs_of query))) listed;
    }

pub returns-in_err-request : goal.returns-in_err-request
returns-in_err-request c = rw (is_err _ _ c.from_residual.ensures.1) (IsLinkFor.no_request _ c.in_err-request.ensures.err)

pub returns-in_err-lists : goal.returns-in_err-lists
returns-in_err-lists c = rw (is_err _ _ c.from_residual-in_err-lists.ensures.1) (IsLinkFor.no_memory c.in_ok-request.ensures.accepted)

pub returns-in_err-environment : goal.returns-in_err-environment
returns-in_err-environment c = rw (is_err _ _ c.from_residual-in_err-environment.ensures.1) (IsLinkFor.no_memory c.in_ok-request.ensures.accepted)

pub returns-in_err-link : goal.returns-in_err-link
returns-in_err-link c = rw (is_err _ _ c.from_residual-in_err-link.ensures.1) (IsLinkFor.no_memory c.in_ok-request.ensures.accepted)

pub returns-in_err-ended-in-Some : goal.returns-in_err-ended-in-Some
returns-in_err-ended-in-Some c =
    rw (is_err _ _ c.from_residual-in_err-ended-in-Some.ensures.1) (IsLinkFor.no_memory c.in_ok-request.ensures.accepted)

pub returns-in-Some : goal.returns-in-Some
returns-in-Some c =
    let entries = c.in_ok-environment.ensures ∙ ap (filled _ []) c.in_ok-request.ensures.pairs in
    let value = c.in_ok-link.ensures.value ∙ ap (meaning c.args.rules.now) entries in
    IsLinkFor.linked (string_bytes c.in-Some.link) _
    (means _ _ _ _ (ap texts_of c.deref.ensures.value ∙ c.in_ok-lists.ensures) c.in_ok-request.ensures.accepted
    (sym (ap (option_map string_bytes) c.in-Some.is) ∙ value)) c.in_ok-ended-in-Some.ensures

pub returns : goal.returns
returns c =
    let entries = c.in_ok-environment.ensures ∙ ap (filled _ []) c.in_ok-request.ensures.pairs in
    let value = c.in_ok-link.ensures.value ∙ ap (meaning c.args.rules.now) entries in
    IsLinkFor.no_link
    (means _ _ _ _ (ap texts_of c.deref.ensures.value ∙ c.in_ok-lists.ensures) c.in_ok-request.ensures.accepted
    (sym (ap (option_map string_bytes) c.in-None.is) ∙ value))
