-- The lines of a row's text: the one that names the row, indented ones, and those of the rule that holds.
use Rattle.std.proofs.Common.{◌≡◌, ℕ, zero, suc, ◌+◌, List, [], ◌∷◌, Bool, true, false, not, Option, Some, None, IfSome, All, take, option_map, refl, codes}
use Rattle.std.proofs.Common.{arith}
use Rattle.std.specs.Prelude.{if◌then◌else◌}
use Rattle.std.specs.List.{AllByRecursion, enumerate_from, find}
use Rattle.std.specs.Fmt.{decimal}
use Rattle.std.specs.Str.{bytes_eq}
use Rattle.std.proofs.lemmas.List.Elements.{recursion_from_All}
use Rattle.std.proofs.lemmas.Grind.{common_steps}
use Rattle.text_model.specs.Texts.{Text}
use Rattle.text_model.specs.UriText.{IsUriText}
use Rattle.text_model.proofs.Lists.{all_append, all_filter}
use Rattle.environment_model.specs.Environment.{Environment, LookUp}
use Rattle.uri_grammar.specs.declared.parts.Part.{Part}
use Rattle.uri_grammar.specs.Promises.{IsSoundPart}
use Rattle.uri_grammar.specs.Texts.{IsTemplate}
use Rattle.uri_template.specs.Expansion.{expansion}
use Rattle.rule_parser.specs.declared.rule.Bound.{Bound}
use Rattle.rule_parser.specs.declared.rule.Guard.{Guard}
use Rattle.rule_parser.specs.declared.rule.Rule.{Rule}
use Rattle.rule_parser.specs.Meaning.{guards_hold, meaning, seen}
use Rattle.rule_parser.specs.Mentions.{bound_names, mentioned, names_of_line}
use Rattle.rule_parser.specs.Names.{each_once}
use Rattle.rule_parser.specs.Rules.{IsBound, IsGuard, IsSound, IsSoundRule, RuleSet}
use Rattle.rule_parser.specs.Statements.{guard_text}
use Rattle.printed_text.specs.Printed.{visible}
use Rattle.rule_explanation.specs.Explanation.{failing_guard_lines, failing_lines, failing_rule_lines, guard_lines, meaning_text, name_line}
use Rattle.rule_menus.proofs.Lines.{IsIndented, indented_all, indented_nothing, is_one_line, line_end, longer_line, no_lines}
use Rattle.rule_menus.proofs.OneLine.{decimal_one, meaning_one, name_one, uri_text_one, visible_text_one}

-- ---- facts about each item of a list

all_mapped : {A : Type 0} (P Q : A → Type 0) (xs : List A) → ((x : A) → P x → Q x) → AllByRecursion P xs → AllByRecursion Q xs
all_mapped P Q [] from all = tt
all_mapped P Q (x ∷ xs) from all = (from x all.0, all_mapped P Q xs from all.1)

all_once : (P : Text → Type 0) (xs : List Text) → AllByRecursion P xs → AllByRecursion P (each_once xs)
all_once P [] all = tt
all_once P (x ∷ xs) all = (all.0, all_filter P (λ other. not (bytes_eq x other)) (each_once xs) (all_once P xs all.1))

all_numbered : {A : Type 0} (P : A → Type 0) (first : ℕ) (xs : List A) → AllByRecursion P xs → AllByRecursion (λ (p : ℕ × A). P p.1) (enumerate_from first xs)
all_numbered P first [] all = tt
all_numbered P first (x ∷ xs) all = (all.0, all_numbered P (first + 1) xs all.1)

all_taken : {A : Type 0} (P : A → Type 0) (n : ℕ) (xs : List A) → AllByRecursion P xs → AllByRecursion P (take n xs)
all_taken P zero xs all = tt
all_taken P (suc n) [] all = tt
all_taken P (suc n) (x ∷ xs) all = (all.0, all_taken P n xs all.1)

found_one : {A : Type 0} (P : A → Type 0) (test : A → Bool) (xs : List A) → AllByRecursion P xs → IfSome (find test xs) P
found_one P test [] all = tt
found_one P test (x ∷ xs) all = grind (arith, common_steps, found_one P test xs all.1)

-- ---- names

abbrev IsOne : Text → Type 0
IsOne text = is_one_line text ≡ true

bound_one : (b : Bound) → IsBound b → AllByRecursion IsOne (bound_names b)
bound_one b is = grind (arith, name_one)

names_one : (g : Guard) → IsGuard g → AllByRecursion IsOne (names_of_line g)
names_one g is = grind (arith, name_one, all_append, bound_one)

-- ---- the rules that fail

name_indented : (look : LookUp) (name : Text) → IsOne name → IsIndented (name_line look name)
name_indented look name one =
    let end = line_end [] [] no_lines in
    let value = longer_line (meaning_text (look name)) (codes "\n") [] [] (meaning_one (look name)) end in
    let gap = longer_line (codes " ") _ _ [] refl value in
    record { lines = _; are = longer_line (codes "    ") _ _ [] refl (longer_line name _ _ [] one gap); inner = refl }

guard_indented : (look : LookUp) (rule place : ℕ) (g : Guard) → IsGuard g → IsIndented (guard_lines look rule (place, g))
guard_indented look rule place g is =
    let one = all_once IsOne (names_of_line g) (names_one g is) in
    let names =
    indented_all (name_line look) (mentioned g)
    (all_mapped IsOne (λ name. IsIndented (name_line look name)) (mentioned g) (name_indented look) one) in
    let end = line_end _ names.lines names.are in
    let text = longer_line (visible (guard_text g)) _ [] names.lines (visible_text_one (guard_text g)) end in
    let from_place = longer_line (decimal place) _ _ names.lines (decimal_one place) (longer_line (codes " fails: ") _ _ names.lines refl text) in
    let from_rule = longer_line (decimal rule) _ _ names.lines (decimal_one rule) (longer_line (codes ", guard ") _ _ names.lines refl from_place) in
    record { lines = _; are = longer_line (codes "  rule ") _ _ names.lines refl from_rule; inner = names.inner }

found_indented : (look : LookUp) (rule : ℕ) (o : Option (ℕ × Guard)) → IfSome o (λ p. IsGuard p.1) → IsIndented (failing_guard_lines look rule o)
found_indented look rule o is = grind (arith, indented_nothing, guard_indented)

abbrev HasGuards : Rule → Type 0
HasGuards rule = AllByRecursion IsGuard rule.guards

rule_indented : (look : LookUp) (p : ℕ × Rule) → HasGuards p.1 → IsIndented (failing_rule_lines look p)
rule_indented look p all = grind (arith, found_indented, found_one, all_numbered)

failing_indented : (look : LookUp) (rules : List Rule) → AllByRecursion HasGuards rules → IsIndented (failing_lines look rules)
failing_indented look rules all = grind (arith, indented_all, all_mapped, rule_indented, all_taken, all_numbered)

detailed_indented : (look : LookUp) (rules : List Rule) (detailed : Bool) → AllByRecursion HasGuards rules
    → IsIndented (if detailed then failing_lines look rules else [])
detailed_indented look rules true all = failing_indented look rules all
detailed_indented look rules false all = indented_nothing

-- ---- links

abbrev pub TreesAreSound : Type 0
TreesAreSound = (text : Text) (parts : List Part) → IsTemplate text parts → All IsSoundPart parts

abbrev pub ExpansionsAreUriText : Type 0
ExpansionsAreUriText = (look : LookUp) (parts : List Part) → All IsSoundPart parts → IsUriText (expansion look parts)

abbrev HasTree : Rule → Type 0
HasTree rule = IsTemplate rule.template.text rule.template.parts

module _ (trees : TreesAreSound) (uri : ExpansionsAreUriText) where
  mapped_one : (look : LookUp) (o : Option Rule) → IfSome o HasTree
      → IfSome (option_map (λ (rule : Rule). expansion look rule.template.parts) o) (λ link. is_one_line link ≡ true)
  mapped_one look None tree = tt
  mapped_one look (Some rule) tree = uri_text_one _ (uri look rule.template.parts (trees rule.template.text rule.template.parts tree))

  pub meaning_on_one_line : (rules : RuleSet) (env : Environment) → IsSound rules → IfSome (meaning rules env) (λ link. is_one_line link ≡ true)
  meaning_on_one_line rules env sound =
      let all = recursion_from_All (IsSoundRule rules.lists) rules.rules sound.rules in
      mapped_one (seen rules env) (find (guards_hold (seen rules env)) rules.rules)
      (found_one HasTree (guards_hold (seen rules env)) rules.rules
      (all_mapped (IsSoundRule rules.lists) HasTree rules.rules (λ rule is. is.template) all))

pub sound_indented : (rules : RuleSet) (look : LookUp) (detailed : Bool) → IsSound rules
    → IsIndented (if detailed then failing_lines look rules.rules else [])
sound_indented rules look detailed sound = grind (arith, detailed_indented, all_mapped, recursion_from_All)
