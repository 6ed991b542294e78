-- The row's text and link are those of the rules of the target.
use Rattle.std.proofs.Common.{◌++◌, Bool, List, ap, ◌∙◌, string_bytes}
use Rattle.text_model.specs.Texts.{Text}
use Rattle.std.specs.List.{find}
use Rattle.std.specs.Option.{option_map}
use Rattle.environment_model.specs.Environment.{LookUp}
use Rattle.uri_template.specs.Expansion.{expansion}
use Rattle.rule_parser.specs.declared.rule.Rule.{Rule}
use Rattle.rule_parser.specs.Meaning.{guards_hold}
use Rattle.rule_explanation.specs.Explanation.{rule_lines}
use Rattle.rule_explanation.specs.Rows.{is_web}
use Rattle.rule_explanation.specs.Private.Seen.{RowViewValue, RulesRequestValue, seen_row}
use Rattle.rule_explanation.proofs.RowLemmas.{row_lines}
use Rattle.rule_explanation.proofs.rows.explain_row.Goals as goal

pub returns-clause-text : goal.returns-clause-text
returns-clause-text c =
    let look = seen_row (record { request = c.args.request.now; row = c.args.row }) in
    let seen = ap (λ (v : RowViewValue). rule_lines (seen_row v) c.rules.result.now c.args.is_detailed) c.in_ok-view.ensures in
    let ruled = ap (λ (rules : List Rule). rule_lines look rules c.args.is_detailed) c.rules.ensures.rules in
    let same = ap (λ (r : RulesRequestValue). rule_lines look r.rules.rules c.args.is_detailed) c.request.view_is in
    row_lines c.args.row _ _ _ c.in_ok-text.ensures.ok
    (c.in_ok-has_web_link.ensures.bytes ∙ ap (λ (lines : Text). string_bytes c.in_ok-text.text ++ lines) (seen ∙ ruled ∙ same))

pub returns-clause-web : goal.returns-clause-web
returns-clause-web c =
    let is_web_in : LookUp → List Rule → Bool =
    λ look rules. is_web (option_map (λ (rule : Rule). expansion look rule.template.parts) (find (guards_hold look) rules)) in
    let look = seen_row (record { request = c.args.request.now; row = c.args.row }) in
    c.in_ok-has_web_link.ensures.web ∙ ap (λ (v : RowViewValue). is_web_in (seen_row v) c.rules.result.now) c.in_ok-view.ensures
    ∙ ap (is_web_in look) c.rules.ensures.rules ∙ ap (λ (r : RulesRequestValue). is_web_in look r.rules.rules) c.request.view_is
