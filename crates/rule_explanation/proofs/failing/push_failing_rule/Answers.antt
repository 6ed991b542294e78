-- The first guard that fails, by its index.
use Rattle.std.proofs.Common.{◌≡◌, ◌++◌, ℕ, List, Option, not, OnOk, sym, subst, string_bytes}
use Rattle.std.proofs.lemmas.List.{append-nil}
use Rattle.rule_parser.specs.declared.rule.Guard.{Guard}
use Rattle.rule_parser.specs.Meaning.{guard_holds}
use Rattle.rule_explanation.specs.Explanation.{failing_guard_lines}
use Rattle.rule_explanation.specs.Failing.{failing_guard}
use Rattle.rule_explanation.proofs.PlaceLemmas.{found_first, none_numbered}
use Rattle.rule_explanation.proofs.failing.push_failing_rule.Goals as goal

pub returns-in-Some : goal.returns-in-Some
returns-in-Some g c =
    let look = g.V.Variables.look c.args.variables.now in
    let found = found_first (λ (guard : Guard). not (guard_holds look guard)) c.as_slice-guards.result.now c.in-Some.i c.index-guards-i.result
    (sym c.in-Some.ensures) c.index-guards-i.is in
    let P : Option (ℕ × Guard) → Type 0 =
    λ o. OnOk c.push_failing_guard.result
    (string_bytes c.push_failing_guard.new.out ≡ string_bytes c.args.out.now ++ failing_guard_lines look c.args.place o) in
    let Q : List Guard → Type 0 = λ guards. P (failing_guard look guards) in
    subst Q c.as_slice-guards.ensures (subst P (sym found) c.push_failing_guard.ensures)

pub returns-in-None : goal.returns-in-None
returns-in-None g c =
    let look = g.V.Variables.look c.args.variables.now in
    let none = none_numbered (λ (guard : Guard). not (guard_holds look guard)) 1 c.as_slice-guards.result.now (sym c.in-None.ensures) in
    let P : Option (ℕ × Guard) → Type 0 =
    λ o. string_bytes c.args.out.now ≡ string_bytes c.args.out.now ++ failing_guard_lines look c.args.place o in
    let Q : List Guard → Type 0 = λ guards. P (failing_guard look guards) in
    subst Q c.as_slice-guards.ensures (subst P (sym none) (sym (append-nil (string_bytes c.args.out.now))))
