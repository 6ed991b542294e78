-- The names that a guard mentions.
use Rattle.std.specs.Prelude.{List, [], ◌∷◌, ◌++◌}
use Rattle.text_model.specs.Texts.{Text}
use Rattle.rule_parser.specs.declared.rule.Bound.{Bound}
use Rattle.rule_parser.specs.declared.rule.Bound.TheVariants as bound
use Rattle.rule_parser.specs.declared.rule.Guard.{Guard}
use Rattle.rule_parser.specs.declared.rule.Guard.TheVariants as guard
use Rattle.rule_parser.specs.Names.{each_once}

-- the name that is a bound, if it is one
abbrev pub bound_names : Bound → List Text
bound_names bound.Open = []
bound_names (bound.Digits digits) = []
bound_names (bound.Name name) = name ∷ []

-- the names in the order of the guard's line
abbrev pub names_of_line : Guard → List Text
names_of_line (guard.Has name) = name ∷ []
names_of_line (guard.Lacks name) = name ∷ []
names_of_line (guard.Given name) = name ∷ []
names_of_line (guard.Same name text) = name ∷ []
names_of_line (guard.Holds name text) = name ∷ []
names_of_line (guard.Between name low high) = name ∷ (bound_names low ++ bound_names high)
names_of_line (guard.Counts name low high) = name ∷ (bound_names low ++ bound_names high)

-- the names in that order, each once
abbrev pub mentioned : Guard → List Text
mentioned g = each_once (names_of_line g)
