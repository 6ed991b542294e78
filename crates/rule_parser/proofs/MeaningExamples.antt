-- The first rule that holds, its link as the rules see their variables, and the names of lists, computed from the definitions.
use Rattle.std.proofs.Common.{◌≡◌, List, [], ◌∷◌, false, Option, Some, None, map, refl, codes}
use Rattle.text_model.specs.Texts.{Text, is_unreserved}
use Rattle.text_model.specs.Writing.{written_u}
use Rattle.environment_model.specs.Environment.{Environment, Single, Several, look_up}
use Rattle.environment_model.specs.Lists.{list_names}
use Rattle.uri_grammar.specs.declared.parts.Op.TheVariants as operator
use Rattle.uri_grammar.specs.declared.parts.Part.{Part}
use Rattle.uri_grammar.specs.declared.parts.Part.TheVariants.{Literal, Expression}
use Rattle.rule_parser.specs.declared.rule.Guard.{Guard}
use Rattle.rule_parser.specs.declared.rule.Guard.TheVariants as guard
use Rattle.rule_parser.specs.declared.rule.Rule.{Rule}
use Rattle.rule_parser.specs.Rules.{RuleSet}
use Rattle.rule_parser.specs.Meaning.{meaning}
use Rattle.rule_parser.specs.Names.{each_once}

-- a text, authors, a text whose name the rules declare a list, and a list that they do not declare
variables : Environment
variables =
    record { name = codes "x"; meaning = Single (codes "1") }
    ∷ record { name = codes "rft.au"; meaning = Several (codes "Wu" ∷ codes "Li" ∷ []) }
    ∷ record { name = codes "by"; meaning = Single (codes "a") }
    ∷ record { name = codes "other"; meaning = Several (codes "b" ∷ []) }
    ∷ []

abbrev rule_of : List Guard → List Part → Rule
rule_of guards parts = record { guards = guards; template = record { text = []; parts = parts } }

abbrev literal : Text → List Part
literal text = Literal text ∷ []

abbrev variable : Text → List Part
variable name = Expression operator.Simple (record { name = name; cut = 0; explode = false } ∷ []) ∷ []

abbrev rules_of : List Rule → RuleSet
rules_of rules = record { lists = codes "by" ∷ []; rules = rules }

-- a rule that holds, and two that do not: one guard of each fails
abbrev holding : Text → Rule
holding text = rule_of (guard.Has (codes "x") ∷ guard.Lacks (codes "y") ∷ []) (literal text)

abbrev failing : List Rule
failing =
    rule_of (guard.Has (codes "x") ∷ guard.Has (codes "y") ∷ []) (literal (codes "second"))
    ∷ rule_of (guard.Lacks (codes "x") ∷ guard.Lacks (codes "y") ∷ []) (literal (codes "first")) ∷ []

abbrev links : List (List Rule) → List (Option Text)
links sets = map (λ rules. meaning (rules_of rules) variables) sets

-- the first rule whose guards all hold
first_that_holds :
    links (
    (holding (codes "a") ∷ []) ∷ (holding (codes "a") ∷ holding (codes "b") ∷ [])
    ∷ (rule_of [] (literal (codes "c")) ∷ holding (codes "a") ∷ [])
    ∷ (rule_of (guard.Has (codes "y") ∷ []) (literal (codes "d")) ∷ holding (codes "a") ∷ holding (codes "b") ∷ [])
    ∷ (rule_of [] [] ∷ holding (codes "a") ∷ []) ∷ [])
    ≡ Some (codes "a") ∷ Some (codes "a") ∷ Some (codes "c") ∷ Some (codes "a") ∷ Some [] ∷ []
unfolding variables look_up
first_that_holds = refl

none_that_holds : links ([] ∷ failing ∷ []) ≡ None ∷ None ∷ []
unfolding variables look_up
none_that_holds = refl

-- links see names as the rules declare them
as_declared :
    links (map (λ name. rule_of [] (variable name) ∷ []) (codes "x" ∷ codes "rft.au" ∷ codes "by" ∷ codes "other" ∷ codes "X" ∷ []))
    ≡ Some (codes "1") ∷ Some (codes "Wu,Li") ∷ Some [] ∷ Some [] ∷ Some [] ∷ []
unfolding variables look_up is_unreserved written_u
as_declared = refl

-- and so do guards
guards_as_declared :
    links ((rule_of (guard.Lacks (codes "by") ∷ guard.Lacks (codes "other") ∷ []) [] ∷ []) ∷ (rule_of (guard.Has (codes "by") ∷ []) [] ∷ []) ∷ [])
    ≡ Some [] ∷ None ∷ []
unfolding variables look_up
guards_as_declared = refl

-- ---- the names of lists

once :
    map (λ declared. each_once (list_names declared)) (
    [] ∷ (codes "x" ∷ codes "rft.au" ∷ codes "x" ∷ []) ∷ (codes "rft_id" ∷ codes "b" ∷ codes "a" ∷ codes "b" ∷ codes "A" ∷ []) ∷ [])
    ≡ (codes "rft.au" ∷ codes "rft_id" ∷ []) ∷ (codes "rft.au" ∷ codes "rft_id" ∷ codes "x" ∷ [])
    ∷ (codes "rft.au" ∷ codes "rft_id" ∷ codes "b" ∷ codes "a" ∷ codes "A" ∷ []) ∷ []
once = refl
