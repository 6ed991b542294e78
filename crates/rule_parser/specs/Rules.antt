-- A set of rules, and what holds for each set that is read from a rule text.
use Rattle.std.specs.Prelude.{◌≡◌, ◌≤◌, List, Bool, true, false, not, ◌&&◌, ◌==◌, length, All, if◌then◌else◌}
use Rattle.std.specs.List.{list_all}
use Rattle.std.specs.Char.{is_ascii_digit}
use Rattle.text_model.specs.Texts.{Text}
use Rattle.uri_grammar.specs.declared.parts.Spec.{Spec}
use Rattle.uri_grammar.specs.declared.parts.Part.{Part}
use Rattle.uri_grammar.specs.declared.parts.Part.TheVariants.{Literal, Expression}
use Rattle.uri_grammar.specs.Names.{IsName}
use Rattle.uri_grammar.specs.Texts.{IsTemplate}
use Rattle.rule_parser.specs.declared.rule.Bound.{Bound}
use Rattle.rule_parser.specs.declared.rule.Bound.TheVariants as bound
use Rattle.rule_parser.specs.declared.rule.Guard.{Guard}
use Rattle.rule_parser.specs.declared.rule.Guard.TheVariants as guard
use Rattle.rule_parser.specs.declared.rule.Rule.{Rule}
use Rattle.environment_model.specs.Lists.{is_list}
use Rattle.rule_parser.specs.declared.guard.TheConstants.{MAX_DIGITS}

-- the declared lists, in the order of their lines, and the rules
pub record RuleSet : Type 0 where
  pub lists : List Text
  pub rules : List Rule

-- ---- tokens

-- a bound that consists of digits is not a name
abbrev pub IsBound : Bound → Type 0
IsBound bound.Open = Unit {0}
IsBound (bound.Digits digits) = (list_all is_ascii_digit digits ≡ true) × (1 ≤ length digits) × (length digits ≤ MAX_DIGITS)
IsBound (bound.Name name) = IsName name × (list_all is_ascii_digit name ≡ false)

abbrev pub AreBounds : Bound → Bound → Type 0
AreBounds low high = IsBound low × IsBound high

abbrev pub IsGuard : Guard → Type 0
IsGuard (guard.Has name) = IsName name
IsGuard (guard.Lacks name) = IsName name
IsGuard (guard.Given name) = IsName name
IsGuard (guard.Same name text) = IsName name
IsGuard (guard.Holds name text) = IsName name
IsGuard (guard.Between name low high) = IsName name × AreBounds low high
IsGuard (guard.Counts name low high) = IsName name × AreBounds low high

-- ---- kinds: each name is used as it is declared

abbrev pub bound_fits : List Text → Bound → Bool
bound_fits lists bound.Open = true
bound_fits lists (bound.Digits digits) = true
bound_fits lists (bound.Name name) = not (is_list lists name)

abbrev pub bounds_fit : List Text → Bound → Bound → Bool
bounds_fit lists low high = bound_fits lists low && bound_fits lists high

abbrev pub guard_fits : List Text → Guard → Bool
guard_fits lists (guard.Has name) = true
guard_fits lists (guard.Lacks name) = true
guard_fits lists (guard.Given name) = not (is_list lists name)
guard_fits lists (guard.Same name text) = not (is_list lists name)
guard_fits lists (guard.Holds name text) = is_list lists name
guard_fits lists (guard.Between name low high) = not (is_list lists name) && bounds_fit lists low high
guard_fits lists (guard.Counts name low high) = is_list lists name && bounds_fit lists low high

-- only a text can have a prefix
abbrev pub spec_fits : List Text → Spec → Bool
spec_fits lists spec = if is_list lists spec.name then spec.cut == 0 else true

abbrev pub part_fits : List Text → Part → Bool
part_fits lists (Literal text) = true
part_fits lists (Expression op specs) = list_all (spec_fits lists) specs

abbrev pub parts_fit : List Text → List Part → Bool
parts_fit lists parts = list_all (part_fits lists) parts

-- ---- rules

pub record IsSoundGuard (lists : List Text) (g : Guard) : Type 0 where
  pub tokens : IsGuard g
  pub kinds : guard_fits lists g ≡ true

pub record IsSoundRule (lists : List Text) (rule : Rule) : Type 0 where
  pub guards : All (IsSoundGuard lists) rule.guards
  pub template : IsTemplate rule.template.text rule.template.parts
  pub kinds : parts_fit lists rule.template.parts ≡ true

pub record IsSound (set : RuleSet) : Type 0 where
  pub names : All IsName set.lists
  pub rules : All (IsSoundRule set.lists) set.rules
