-- The names of the code of rules are names of the grammar, each with the kind that the rules declare.
use Rattle.std.proofs.Common.{arith, ◌≡◌, List, Bool, true, refl}
use Rattle.std.proofs.lemmas.Grind.{common_steps}
use Rattle.std.specs.Prelude.{All}
use Rattle.std.proofs.lemmas.Bool.{and_parts}
use Rattle.text_model.specs.Texts.{Text}
use Rattle.environment_model.specs.Lists.{is_list}
use Rattle.code_model.specs.Code.{Name}
use Rattle.uri_grammar.specs.Names.{IsName}
use Rattle.rule_parser.specs.declared.rule.Bound.{Bound}
use Rattle.rule_parser.specs.declared.rule.Guard.{Guard}
use Rattle.rule_parser.specs.Rules.{RuleSet, bound_fits, guard_fits, IsGuard, IsSound}
use Rattle.compiler_model.specs.Compiled.{code_of}
use Rattle.compiler_model.proofs.Formed.{TreesAreSound}
use Rattle.compiler_model.proofs.UsedNames.{IsRightBound, IsRightGuard, names_right}

-- ---- names of the grammar

abbrev NameIsRight : Bool → Text → Type 0
NameIsRight list name = IsName name

guard_named : (lists : List Text) (g : Guard) → IsGuard g → IsRightGuard NameIsRight lists g
guard_named lists g h = grind (arith, common_steps)

-- ---- kinds

module _ (lists : List Text) where
  abbrev KindIsRight : Bool → Text → Type 0
  KindIsRight list name = is_list lists name ≡ list

  bound_declared : (b : Bound) → bound_fits lists b ≡ true → IsRightBound KindIsRight b
  bound_declared b fits = grind (arith, common_steps)

  guard_declared : (g : Guard) → guard_fits lists g ≡ true → IsRightGuard KindIsRight lists g
  guard_declared g fits = grind (arith, and_parts, bound_declared)

-- ---- the code of rules

module _ (trees : TreesAreSound) (rules : RuleSet) (sound : IsSound rules) where
  pub code_named : All (λ (name : Name). IsName name.text) (code_of rules).names
  code_named =
      names_right NameIsRight trees rules.lists (λ g h. guard_named rules.lists g h.tokens) (λ spec h. h.is_name) rules.rules sound.rules

  pub code_declared : All (λ (name : Name). is_list rules.lists name.text ≡ name.list) (code_of rules).names
  code_declared =
      names_right (KindIsRight rules.lists) trees rules.lists (λ g h. guard_declared rules.lists g h.kinds) (λ spec h. refl) rules.rules sound.rules
