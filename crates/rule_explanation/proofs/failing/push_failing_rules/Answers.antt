-- The rules before the first that holds, by its index.
use Rattle.std.proofs.Common.{◌≡◌, ◌++◌, ℕ, List, OnOk, sym, subst, string_bytes}
use Rattle.std.specs.List.{enumerate_from, flat_map}
use Rattle.rule_parser.specs.declared.rule.Rule.{Rule}
use Rattle.rule_parser.specs.Meaning.{guards_hold}
use Rattle.rule_explanation.specs.Explanation.{failing_rule_lines}
use Rattle.rule_explanation.proofs.PlaceLemmas.{failing_found, failing_none}
use Rattle.rule_explanation.proofs.failing.push_failing_rules.Goals as goal

pub returns-in-Some : goal.returns-in-Some
returns-in-Some g c =
    let look = g.V.Variables.look c.args.variables.now in
    let P : List (ℕ × Rule) → Type 0 =
    λ ps. OnOk c.push_numbered_rules.result
    (string_bytes c.push_numbered_rules.new.out ≡ string_bytes c.args.out.now ++ flat_map (failing_rule_lines look) ps) in
    let Q : List Rule → Type 0 = λ rules. P (enumerate_from 1 rules) in
    subst P (sym (failing_found (guards_hold look) c.args.rules.now c.in-Some.i (sym c.in-Some.ensures)))
    (subst Q c.split_at-parts.ensures.front c.push_numbered_rules.ensures)

pub returns-in-None : goal.returns-in-None
returns-in-None g c =
    let look = g.V.Variables.look c.args.variables.now in
    let P : List (ℕ × Rule) → Type 0 =
    λ ps. OnOk c.push_numbered_rules-in-None.result
    (string_bytes c.push_numbered_rules-in-None.new.out ≡ string_bytes c.args.out.now ++ flat_map (failing_rule_lines look) ps) in
    subst P (sym (failing_none (guards_hold look) c.args.rules.now (sym c.in-None.ensures))) c.push_numbered_rules-in-None.ensures
