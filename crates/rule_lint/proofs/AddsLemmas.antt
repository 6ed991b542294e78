-- Findings that are added one after another.
use Rattle.std.proofs.Common.{◌≡◌, ℕ, ◌+◌, ◌<◌, Bool, true, false, ◌||◌, ◌==◌, cond, map, Bor, List, [], ◌∷◌, ◌++◌, length, take, get_or, refl, sym, ap, ◌∙◌}
use Rattle.std.proofs.Common.{subst, string_bytes}
use Rattle.std.specs.List.{flat_map, list_any}
use Rattle.std.proofs.Math.Bool.{or-true}
use Rattle.text_model.specs.Texts.{Text, texts_of}
use Rattle.printed_text.specs.declared.findings.Findings.{Findings}
use Rattle.printed_text.proofs.Adding.{adds_line, adds_both}
use Rattle.kbart_rows.specs.Cells.{Holdings}
use Rattle.rule_parser.specs.Rules.{RuleSet}
use Rattle.rule_lint.specs.declared.place.Place.{Place}
use Rattle.rule_lint.specs.declared.place.Place.TheVariants as place
use Rattle.rule_lint.specs.Reach.{is_never_reached}
use Rattle.rule_parser.specs.declared.rule.Rule.{Rule}
use Rattle.rule_lint.specs.Names.{is_known, is_standard_column, resembled}
use Rattle.rule_lint.specs.Findings.{RuleFinding, NeverReached, NoColumn, RuleCount, finding_text, findings_text, has_rule_warning, in_guards, in_link, in_name}
use Rattle.rule_lint.specs.Findings.{in_rule}
use Rattle.rule_lint.specs.Findings.{in_rules, is_rule_warning, lint_text, misspelling}
use Rattle.rule_lint.specs.Private.Adds.{Adds}
use Rattle.rule_lint.proofs.ListSteps.{flat_map_more}

-- one finding that is a warning
pub warns_one : (a b : Findings) (f : RuleFinding) → is_rule_warning f ≡ true → string_bytes b.text ≡ string_bytes a.text ++ finding_text f → b.warned ≡ true
    → Adds a b (f ∷ [])
warns_one a b f e t w = adds_line a b f t (w ∙ sym (or-true a.warned) ∙ ap (λ (u : Bool). a.warned || u) (sym e))

-- the findings in one more element of a list
pub adds_step : {X : Type 0} (f : X → List RuleFinding) (xs : List X) (i : ℕ) (d : X) (a b c : Findings) → i < length xs
    → Adds a b (flat_map f (take i xs)) → Adds b c (f (get_or xs i d)) → Adds a c (flat_map f (take (i + 1) xs))
adds_step f xs i d a b c h before at =
    subst (λ (l : List RuleFinding). Adds a c l) (sym (flat_map_more f xs i d h)) (adds_both a b c (flat_map f (take i xs)) (f (get_or xs i d)) before at)

-- the same under another name of the list
pub adds_as : (a b : Findings) (xs ys : List RuleFinding) → xs ≡ ys → Adds a b xs → Adds a b ys
adds_as a b xs ys e h = subst (λ (l : List RuleFinding). Adds a b l) e h

-- ---- names

-- findings from borrowed texts
pub lent : (f : Text → List RuleFinding) (names : List (Bor Text)) → flat_map (λ (y : Bor Text). f y.now) names ≡ flat_map f (texts_of names)
lent f [] = refl
lent f (y ∷ names) = ap (λ l. f y.now ++ l) (lent f names)

pub lent_each : (f : Text → RuleFinding) (names : List (Bor Text)) → flat_map (λ (y : Bor Text). f y.now ∷ []) names ≡ map f (texts_of names)
lent_each f [] = refl
lent_each f (y ∷ names) = ap (λ l. f y.now ∷ l) (lent_each f names)

pub unknown_column : (rules : RuleSet) (table : Holdings) (at : Place) (name : Text) → is_known rules table name ≡ false
    → is_standard_column name ≡ true → NoColumn at name ∷ [] ≡ in_name rules table at name
unknown_column rules table at name e f =
    let otherwise : RuleFinding = misspelling at name (resembled rules table name) in
    sym (ap (λ (b : Bool). cond b [] ((cond (is_standard_column name) (NoColumn at name) otherwise) ∷ [])) e
    ∙ ap (λ (b : Bool). (cond b (NoColumn at name) otherwise) ∷ []) f)

-- ---- a rule

pub unreached : (rules : RuleSet) (table : Holdings) (k number : ℕ) (rule : Rule) → number ≡ k + 1 → is_never_reached rules.rules k ≡ true
    → NeverReached number ∷ [] ≡ in_rule rules table (k, rule)
unreached rules table k number rule e f =
    let otherwise : List RuleFinding = in_guards rules table (k + 1) rule.guards ++ in_link rules table (place.Link (k + 1)) rule.template.parts in
    ap (λ (n : ℕ). NeverReached n ∷ []) e ∙ sym (ap (λ (b : Bool). cond b (NeverReached (k + 1) ∷ []) otherwise) f)

pub reached : (rules : RuleSet) (table : Holdings) (k number : ℕ) (rule : Rule) → number ≡ k + 1 → is_never_reached rules.rules k ≡ false
    → in_guards rules table number rule.guards ++ in_link rules table (place.Link number) rule.template.parts ≡ in_rule rules table (k, rule)
reached rules table k number rule e f =
    let otherwise : List RuleFinding = in_guards rules table (k + 1) rule.guards ++ in_link rules table (place.Link (k + 1)) rule.template.parts in
    ap (λ (n : ℕ). in_guards rules table n rule.guards ++ in_link rules table (place.Link n) rule.template.parts) e
    ∙ sym (ap (λ (b : Bool). cond b (NeverReached (k + 1) ∷ []) otherwise) f)

-- ---- the whole

pub whole : (a b : Findings) (rules : RuleSet) (table : Holdings) → string_bytes a.text ≡ finding_text (RuleCount (length rules.rules))
    → a.warned ≡ (length rules.rules == 0) → Adds a b (in_rules rules table)
    → (string_bytes b.text ≡ lint_text rules table) × (b.warned ≡ has_rule_warning rules table)
whole a b rules table t w h = (
  h.text ∙ ap (λ (u : Text). u ++ findings_text (in_rules rules table)) t,
  h.warned
      ∙ ap (λ (u : Bool). u || list_any is_rule_warning (in_rules rules table)) w,
)
