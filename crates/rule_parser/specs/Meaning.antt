-- What rules mean in an environment.
use Rattle.std.specs.Prelude.{ℕ, [], ◌∷◌, Option, Some, None, Bool, true, false, not, ◌&&◌, nat_le, length, option_and_then}
use Rattle.std.specs.List.{list_all, find}
use Rattle.std.specs.Option.{option_map}
use Rattle.std.specs.Str.{bytes_eq}
use Rattle.text_model.specs.Texts.{Text}
use Rattle.text_model.specs.Number.{leading_number}
use Rattle.uri_template.specs.Expansion.{expansion}
use Rattle.environment_model.specs.Environment.{Environment, LookUp, Meaning, Single, Several, look_up, view, text_in, members_in, is_among}
use Rattle.rule_parser.specs.declared.rule.Bound.{Bound}
use Rattle.rule_parser.specs.declared.rule.Bound.TheVariants as bound
use Rattle.rule_parser.specs.declared.rule.Guard.{Guard}
use Rattle.rule_parser.specs.declared.rule.Guard.TheVariants as guard
use Rattle.rule_parser.specs.declared.rule.Rule.{Rule}
use Rattle.environment_model.specs.Lists.{list_names}
use Rattle.rule_parser.specs.Rules.{RuleSet}

-- ---- guards

-- a list without members is undefined
abbrev pub is_defined : Option Meaning → Bool
is_defined None = false
is_defined (Some (Single text)) = true
is_defined (Some (Several [])) = false
is_defined (Some (Several (member ∷ members))) = true

-- a text that is not empty
abbrev pub is_given : Option Text → Bool
is_given None = false
is_given (Some []) = false
is_given (Some (b ∷ text)) = true

abbrev pub is_text : Text → Option Text → Bool
is_text expected None = false
is_text expected (Some text) = bytes_eq text expected

-- the number that a bound denotes, or none if the bound is open
abbrev pub bound_number : LookUp → Bound → Option ℕ
bound_number look bound.Open = None
bound_number look (bound.Digits digits) = leading_number digits
bound_number look (bound.Name name) = option_and_then leading_number (text_in (look name))

abbrev pub is_at_least : Option ℕ → ℕ → Bool
is_at_least None n = true
is_at_least (Some low) n = nat_le low n

abbrev pub is_at_most : Option ℕ → ℕ → Bool
is_at_most None n = true
is_at_most (Some high) n = nat_le n high

-- the number is between the bounds, or equal to one
abbrev pub is_within : Option ℕ → Option ℕ → ℕ → Bool
is_within low high n = is_at_least low n && is_at_most high n

abbrev pub is_number_within : Option ℕ → Option ℕ → Option ℕ → Bool
is_number_within low high None = false
is_number_within low high (Some n) = is_within low high n

abbrev pub guard_holds : LookUp → Guard → Bool
guard_holds look (guard.Has name) = is_defined (look name)
guard_holds look (guard.Lacks name) = not (is_defined (look name))
guard_holds look (guard.Given name) = is_given (text_in (look name))
guard_holds look (guard.Same name text) = is_text text (text_in (look name))
guard_holds look (guard.Holds name text) = is_among text (members_in (look name))
guard_holds look (guard.Between name low high) =
    is_number_within (bound_number look low) (bound_number look high) (option_and_then leading_number (text_in (look name)))
guard_holds look (guard.Counts name low high) =
    is_within (bound_number look low) (bound_number look high) (length (members_in (look name)))

-- ---- rules

abbrev pub guards_hold : LookUp → Rule → Bool
guards_hold look rule = list_all (guard_holds look) rule.guards

-- an environment as the rules see it: each name as they declare it
abbrev pub seen : RuleSet → Environment → LookUp
seen rules env = view (list_names rules.lists) (look_up env)

-- the expansion of the template of the first rule whose guards all hold; none if there is no such rule
abbrev pub meaning : RuleSet → Environment → Option Text
meaning rules env = option_map (λ (rule : Rule). expansion (seen rules env) rule.template.parts) (find (guards_hold (seen rules env)) rules.rules)
