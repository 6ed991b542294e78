-- The first rule that holds, by its index.
use Rattle.std.proofs.Common.{◌≡◌, ◌++◌, ℕ, Option, IfOk, OnOk, refl, sym, subst, string_bytes}
use Rattle.std.specs.Option.{option_map}
use Rattle.uri_template.specs.Expansion.{expansion}
use Rattle.rule_parser.specs.declared.rule.Rule.{Rule}
use Rattle.rule_parser.specs.Meaning.{guards_hold}
use Rattle.rule_explanation.specs.Explanation.{holding_lines}
use Rattle.rule_explanation.specs.Rows.{is_web}
use Rattle.rule_explanation.proofs.PlaceLemmas.{found_first, found_plain, none_numbered, none_plain}
use Rattle.rule_explanation.proofs.holding.push_holding_rule.Goals as goal

pub returns-in-Some-clause-bytes : goal.returns-in-Some-clause-bytes
returns-in-Some-clause-bytes g c =
    let look = g.V.Variables.look c.args.variables.now in
    let rules = c.args.rules.now in
    let found = found_first (guards_hold look) rules c.in-Some.i c.index-rules-i.result (sym c.in-Some.ensures) c.index-rules-i.is in
    let P : Option (ℕ × Rule) → Type 0 =
    λ o. OnOk c.push_link.result (string_bytes c.push_link.new.out ≡ string_bytes c.args.out.now ++ holding_lines look o) in
    subst P (sym found) c.push_link.ensures.bytes

pub returns-in-Some-clause-web : goal.returns-in-Some-clause-web
returns-in-Some-clause-web g c =
    let look = g.V.Variables.look c.args.variables.now in
    let rules = c.args.rules.now in
    let found = found_plain (guards_hold look) rules c.in-Some.i c.index-rules-i.result (sym c.in-Some.ensures) c.index-rules-i.is in
    let P : Option Rule → Type 0 =
    λ o. IfOk c.push_link.result (λ w. w ≡ is_web (option_map (λ (rule : Rule). expansion look rule.template.parts) o)) in
    subst P (sym found) c.push_link.ensures.web

pub returns-in_ok-push_str-in-None-clause-bytes : goal.returns-in_ok-push_str-in-None-clause-bytes
returns-in_ok-push_str-in-None-clause-bytes g c =
    let look = g.V.Variables.look c.args.variables.now in
    let P : Option (ℕ × Rule) → Type 0 = λ o. string_bytes c.push_str.new.self ≡ string_bytes c.args.out.now ++ holding_lines look o in
    subst P (sym (none_numbered (guards_hold look) 1 c.args.rules.now (sym c.in-None.ensures))) c.in_ok-push_str-in-None.ensures.bytes

pub returns-in_ok-push_str-in-None-clause-web : goal.returns-in_ok-push_str-in-None-clause-web
returns-in_ok-push_str-in-None-clause-web g c =
    let look = g.V.Variables.look c.args.variables.now in
    rw (none_plain (guards_hold look) c.args.rules.now (sym c.in-None.ensures)) refl
