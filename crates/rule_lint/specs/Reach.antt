-- Rules that are never reached, and guards that never hold.
use Rattle.std.specs.Prelude.{ℕ, Bool, true, false, nat_lt, List, [], ◌∷◌, Option, Some, take}
use Rattle.std.specs.List.{list_any}
use Rattle.text_model.specs.Number.{leading_number}
use Rattle.rule_parser.specs.declared.rule.Bound.{Bound}
use Rattle.rule_parser.specs.declared.rule.Bound.TheVariants as bound
use Rattle.rule_parser.specs.declared.rule.Guard.{Guard}
use Rattle.rule_parser.specs.declared.rule.Guard.TheVariants as guard
use Rattle.rule_parser.specs.declared.rule.Rule.{Rule}

abbrev pub is_without_guards : List Guard → Bool
is_without_guards [] = true
is_without_guards (g ∷ guards) = false

-- a rule without guards always holds
abbrev pub always_holds : Rule → Bool
always_holds rule = is_without_guards rule.guards

-- a rule before this one, which is counted from 0, always holds
abbrev pub is_never_reached : List Rule → ℕ → Bool
is_never_reached rules k = list_any always_holds (take k rules)

-- the first number is the greater one
abbrev pub is_above : Option ℕ → Option ℕ → Bool
is_above (Some low) (Some high) = nat_lt high low
is_above low high = false

-- both bounds are digits, and no number is between them
abbrev pub are_apart : Bound → Bound → Bool
are_apart (bound.Digits low) (bound.Digits high) = is_above (leading_number low) (leading_number high)
are_apart low high = false

abbrev pub never_holds : Guard → Bool
never_holds (guard.Between name low high) = are_apart low high
never_holds (guard.Counts name low high) = are_apart low high
never_holds other = false
