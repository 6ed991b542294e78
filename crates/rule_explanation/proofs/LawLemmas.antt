-- The rule that holds and the meaning, the rules that fail, and the last row that is tried.
use Rattle.std.proofs.Common.{◌≡◌, ◌+◌, ◌↔◌, ℕ, List, [], ◌∷◌, Bool, true, false, cond, not, ◌&&◌}
use Rattle.std.proofs.Common.{Option, Some, None, All, option_map, is_some, refl, sym, subst, codes, MatchOption, suc, take, arith}
use Rattle.std.specs.List.{AllByRecursion, before_first, enumerate_from, find, list_all, position_or_len}
use Rattle.std.proofs.lemmas.Bool.{both_ways}
use Rattle.std.proofs.lemmas.List.Elements.{All-from_recursion}
use Rattle.std.proofs.lemmas.Option.{none-some}
use Rattle.environment_model.specs.Environment.{LookUp}
use Rattle.uri_template.specs.Expansion.{expansion}
use Rattle.rule_parser.specs.declared.rule.Rule.{Rule}
use Rattle.rule_parser.specs.Meaning.{guard_holds, guards_hold}
use Rattle.rule_explanation.specs.Failing.{failing_guard, failing_rules, holding_rule, rule_holds}
use Rattle.rule_explanation.specs.Explanation.{holding_lines, link_lines}
use Rattle.rule_explanation.proofs.PlaceLemmas.{passes}

-- ---- the rule that holds

item : {A : Type 0} → Option (ℕ × A) → Option A
item o = option_map (λ p. p.1) o

same_item : {A : Type 0} (test : A → Bool) (first : ℕ) (xs : List A) → find test xs ≡ item (find (passes test) (enumerate_from first xs))
unfolding item
same_item test first [] = refl
same_item test first (x ∷ xs) = by_test (test x) (same_item test (first + 1) xs)
  where
    by_test : (b : Bool) → find test xs ≡ option_map (λ (p : ℕ × _). p.1) (find (passes test) (enumerate_from (first + 1) xs))
        → cond b (Some x) (find test xs) ≡ option_map (λ (p : ℕ × _). p.1) (cond b (Some (first, x)) (find (passes test) (enumerate_from (first + 1) xs)))
    by_test true rest = refl
    by_test false rest = rest

abbrev link_of : LookUp → Rule → List ℕ
link_of look rule = expansion look rule.template.parts

abbrev pub SaysLink : LookUp → Option (ℕ × Rule) → Option (List ℕ) → Type 0
SaysLink look o link =
    MatchOption link (holding_lines look o ≡ codes "  no rule holds\n") (λ text. (place : ℕ) × (holding_lines look o ≡ link_lines place text))

says : (look : LookUp) (o : Option (ℕ × Rule)) → SaysLink look o (option_map (link_of look) (item o))
unfolding item
says look None = refl
says look (Some p) = (p.0, refl)

pub says_meaning : (look : LookUp) (rules : List Rule) → SaysLink look (holding_rule look rules) (option_map (link_of look) (find (guards_hold look) rules))
says_meaning look rules =
    let P : Option Rule → Type 0 = λ found. SaysLink look (holding_rule look rules) (option_map (link_of look) found) in
    subst P (sym (same_item (guards_hold look) 1 rules)) (says look (holding_rule look rules))

none_both : (look : LookUp) (o : Option (ℕ × Rule)) → (o ≡ None) ↔ (option_map (link_of look) (item o) ≡ None)
unfolding item
none_both look None = (λ e. refl, λ e. refl)
none_both look (Some p) = (λ e. absurd (none-some p (sym e)), λ e. absurd (none-some _ (sym e)))

pub no_meaning : (look : LookUp) (rules : List Rule) → (holding_rule look rules ≡ None) ↔ (option_map (link_of look) (find (guards_hold look) rules) ≡ None)
no_meaning look rules =
    let P : Option Rule → Type 0 = λ found. (holding_rule look rules ≡ None) ↔ (option_map (link_of look) found ≡ None) in
    subst P (sym (same_item (guards_hold look) 1 rules)) (none_both look (holding_rule look rules))

-- ---- the rules that fail

-- items that do not all pass have a first one that does not
one_fails : {A : Type 0} (test : A → Bool) (first : ℕ) (xs : List A) → list_all test xs ≡ false
    → is_some (find (λ (p : ℕ × A). not (test p.1)) (enumerate_from first xs)) ≡ true
one_fails test first [] e = absurd (both_ways true e refl)
one_fails test first (x ∷ xs) e = by_test (test x) (one_fails test (first + 1) xs) e
  where
    by_test : (b : Bool) → (list_all test xs ≡ false → is_some (find (λ (p : ℕ × _). not (test p.1)) (enumerate_from (first + 1) xs)) ≡ true)
        → (b && list_all test xs) ≡ false
        → is_some (cond (not b) (Some (first, x)) (find (λ (p : ℕ × _). not (test p.1)) (enumerate_from (first + 1) xs))) ≡ true
    by_test true rest later = rest later
    by_test false rest here = refl

before_fail : {A : Type 0} (P : A → Type 0) (test : A → Bool) (xs : List A) → ((x : A) → test x ≡ false → P x) → AllByRecursion P (before_first test xs)
before_fail P test [] each = tt
before_fail P test (x ∷ xs) each = by_test (test x) refl (before_fail P test xs each)
  where
    by_test : (b : Bool) → test x ≡ b → AllByRecursion P (before_first test xs) → AllByRecursion P (before_first test (x ∷ xs))
    by_test true e rest = rw e tt
    by_test false e rest =
        let Q : ℕ → Type 0 = λ n. AllByRecursion P (take n (x ∷ xs)) in
        let same : suc (position_or_len test xs) ≡ 1 + position_or_len test xs = omega arith in
        let both : Q (suc (position_or_len test xs)) = (each x e, rest) in
        rw e (subst Q same both)

abbrev pub HasFailingGuard : LookUp → ℕ × Rule → Type 0
HasFailingGuard look rule = is_some (failing_guard look rule.1.guards) ≡ true

pub rules_fail : (look : LookUp) (rules : List Rule) → All (HasFailingGuard look) (failing_rules look rules)
rules_fail look rules =
    All-from_recursion (HasFailingGuard look) (failing_rules look rules)
    (before_fail (HasFailingGuard look) (rule_holds look) (enumerate_from 1 rules) (λ rule e. one_fails (guard_holds look) 1 rule.1.guards e))
