-- The rule that is taken on a row has a link of which `lint` prints what it finds.
use Rattle.std.proofs.Common.{◌≡◌, ℕ, ◌+◌, Bool, true, false, cond, ◌||◌, List, [], ◌∷◌, ◌++◌, length, take, Some, refl, sym, ap, ◌∙◌}
use Rattle.std.proofs.lemmas.Grind.{common_steps}
use Rattle.std.proofs.Common.{subst, arith}
use Rattle.std.specs.List.{AllByRecursion, enumerate_from, find, flat_map, list_any}
use Rattle.std.specs.Option.{option_map}
use Rattle.std.proofs.lemmas.Bool.{both_ways, false_from_ne_true, or_parts}
use Rattle.std.proofs.lemmas.List.Folds.{list_any-append}
use Rattle.std.proofs.lemmas.List.Elements.{recursion_from_All}
use Rattle.std.proofs.Math.Seq.{take-append_seam}
use Rattle.text_model.specs.Texts.{Text}
use Rattle.environment_model.specs.Environment.{LookUp}
use Rattle.uri_template.specs.Expansion.{expansion}
use Rattle.kbart_rows.specs.Cells.{Holdings}
use Rattle.rule_parser.specs.declared.rule.Rule.{Rule}
use Rattle.rule_parser.specs.Rules.{IsSound, IsSoundRule, RuleSet}
use Rattle.rule_parser.specs.Meaning.{guards_hold}
use Rattle.rule_lint.specs.declared.place.Place.TheVariants as place
use Rattle.rule_lint.specs.Reach.{always_holds, is_never_reached}
use Rattle.rule_lint.specs.Findings.{NeverReached, in_guards, in_link, in_rule}
use Rattle.lint_laws.specs.RowLinks.{has_open_host, has_open_hosts, is_of_host}
use Rattle.lint_laws.proofs.ReachLemmas.{unguarded}

-- ---- an item that is found

-- those before it do not pass
pub record IsFirst {A : Type 0} (test : A → Bool) (xs : List A) (x : A) : Type 0 where
  pub before : List A
  pub after : List A
  pub order : xs ≡ before ++ x ∷ after
  pub passed : list_any test before ≡ false

pub found_first : {A : Type 0} (test : A → Bool) (xs : List A) (x : A) → find test xs ≡ Some x → IsFirst test xs x
found_first test [] x e = absurd (cc)
found_first test (y ∷ xs) x e = by_test (test y) refl e (found_first test xs x)
  where
    by_test : (b : Bool) → test y ≡ b → cond b (Some y) (find test xs) ≡ Some x → (find test xs ≡ Some x → IsFirst test xs x) → IsFirst test (y ∷ xs) x
    by_test true f e later =
        let same : y ≡ x = cc in
        record { before = []; after = xs; order = ap (λ z. z ∷ xs) same; passed = refl }
    by_test false f e later =
        let rest = later e in
        record {
          before = y ∷ rest.before;
          after = rest.after;
          order = ap (λ zs. y ∷ zs) rest.order;
          passed = ap (λ (b : Bool). b || list_any test rest.before) f ∙ rest.passed;
        }

at_seam : {A : Type 0} (P : A → Type 0) (before : List A) (x : A) (after : List A) → AllByRecursion P (before ++ x ∷ after) → P x
at_seam P [] x after h = h.0
at_seam P (y ∷ before) x after h = at_seam P before x after h.1

-- none of what is made of numbered items passes, so none of what is made of one of them
none_at : {A B : Type 0} (test : B → Bool) (made : ℕ × A → List B) (i : ℕ) (before : List A) (x : A) (after : List A)
    → list_any test (flat_map made (enumerate_from i (before ++ x ∷ after))) ≡ false → list_any test (made (i + length before, x)) ≡ false
none_at test made i [] x after e = grind (arith, common_steps)
none_at test made i (y ∷ before) x after e =
    let same : i + length (y ∷ before) ≡ (i + 1) + length before = omega arith in
    let rest = flat_map made (enumerate_from (i + 1) (before ++ x ∷ after)) in
    ap (λ (n : ℕ). list_any test (made (n, x))) same
    ∙ none_at test made (i + 1) before x after
    (or_parts (list_any test (made (i, y))) (list_any test rest) (sym (list_any-append test (made (i, y)) rest) ∙ e)).1

-- ---- the rule that is taken

-- no rule before it always holds
none_always : (look : LookUp) (before : List Rule) → list_any (guards_hold look) before ≡ false → list_any always_holds before ≡ false
none_always look [] e = refl
none_always look (rule ∷ before) e =
    let both = or_parts (guards_hold look rule) (list_any (guards_hold look) before) e in
    let free = false_from_ne_true (always_holds rule) (λ f. both_ways (guards_hold look rule) both.0 (unguarded look rule.guards f)) in
    ap (λ (b : Bool). b || list_any always_holds before) free ∙ none_always look before both.1

-- so what is found in its link is printed
pub closed_link : (rules : RuleSet) (table : Holdings) (look : LookUp) (rule : Rule) → has_open_hosts rules table ≡ false
    → (first : IsFirst (guards_hold look) rules.rules rule) → has_open_host rules table (place.Link (0 + length first.before + 1)) rule.template.parts ≡ false
closed_link rules table look rule e first =
    let k = 0 + length first.before in
    let number : k ≡ length first.before = omega arith in
    let at = in_rule rules table (k, rule) in
    let free : is_never_reached rules.rules k ≡ false =
    ap (is_never_reached rules.rules) number ∙ ap (λ (xs : List Rule). list_any always_holds (take (length first.before) xs)) first.order
    ∙ ap (list_any always_holds) (take-append_seam first.before (rule ∷ first.after)) ∙ none_always look first.before first.passed in
    let guards = in_guards rules table (k + 1) rule.guards in
    let link = in_link rules table (place.Link (k + 1)) rule.template.parts in
    let is : at ≡ guards ++ link = ap (λ (b : Bool). cond b (NeverReached (k + 1) ∷ []) (guards ++ link)) free in
    let none : list_any is_of_host at ≡ false = none_at is_of_host (in_rule rules table) 0 first.before rule first.after
    (ap (λ (xs : List Rule). list_any is_of_host (flat_map (in_rule rules table) (enumerate_from 0 xs))) (sym first.order) ∙ e) in
    (or_parts (list_any is_of_host guards) (list_any is_of_host link)
    (sym (list_any-append is_of_host guards link) ∙ ap (list_any is_of_host) (sym is) ∙ none)).1

pub sound_rule : (rules : RuleSet) (look : LookUp) (rule : Rule) → IsSound rules → IsFirst (guards_hold look) rules.rules rule → IsSoundRule rules.lists rule
sound_rule rules look rule sound first =
    at_seam (IsSoundRule rules.lists) first.before rule first.after
    (subst (AllByRecursion (IsSoundRule rules.lists)) first.order (recursion_from_All (IsSoundRule rules.lists) rules.rules sound.rules))

-- the rule whose template gives what the rules mean
pub record IsTaken (rules : RuleSet) (look : LookUp) (link : Text) : Type 0 where
  pub rule : Rule
  pub found : find (guards_hold look) rules.rules ≡ Some rule
  pub gives : expansion look rule.template.parts ≡ link

pub taken_rule : (rules : RuleSet) (look : LookUp) (link : Text)
    → option_map (λ (rule : Rule). expansion look rule.template.parts) (find (guards_hold look) rules.rules) ≡ Some link → IsTaken rules look link
taken_rule rules look link means = grind (arith, common_steps)
