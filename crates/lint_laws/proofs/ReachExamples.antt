-- Rules, a guard and a link that do not meet the premises of the laws of rules, computed: `unreached_rules_change_nothing`, `guards_that_never_hold_fail` and
-- `no_web_link_is_expanded`.
use Rattle.std.proofs.Common.{◌≡◌, true, false, List, [], ◌∷◌, Some, map, refl, codes}
use Rattle.environment_model.specs.Environment.{Environment, Single, look_up}
use Rattle.uri_grammar.specs.declared.parts.Part.{Part}
use Rattle.uri_grammar.specs.declared.parts.Part.TheVariants.{Literal}
use Rattle.uri_template.specs.Expansion.{expansion}
use Rattle.menu.specs.WebLink.{is_web_link}
use Rattle.rule_parser.specs.declared.rule.Guard.{Guard}
use Rattle.rule_parser.specs.declared.rule.Guard.TheVariants as guard
use Rattle.rule_parser.specs.declared.rule.Rule.{Rule}
use Rattle.rule_parser.specs.Meaning.{guard_holds, meaning}
use Rattle.rule_lint.specs.Reach.{is_never_reached, never_holds}
use Rattle.rule_lint.specs.WebLink.{is_never_web_link}
use Rattle.rule_lint.proofs.Examples.{rule_of, rules_of}

abbrev x_defined : Environment
x_defined = record { name = codes "x"; meaning = Single (codes "1") } ∷ []

abbrev has_x : Guard
has_x = guard.Has (codes "x")

abbrev web_link : List Part
web_link = Literal (codes "http://e.org/") ∷ []

-- ---- a rule that is reached, and means something

abbrev first : Rule
first = rule_of (has_x ∷ []) web_link

abbrev second : Rule
second = rule_of [] (Literal (codes "http://f.org/") ∷ [])

first_is_reached : is_never_reached (first ∷ second ∷ []) 0 ≡ false
first_is_reached = refl

meanings : map (λ (rules : List Rule). meaning (rules_of [] rules) x_defined) ((first ∷ second ∷ []) ∷ (second ∷ []) ∷ [])
    ≡ Some (codes "http://e.org/") ∷ Some (codes "http://f.org/") ∷ []
unfolding look_up
meanings = refl

-- ---- a guard that holds

can_hold : never_holds has_x ≡ false
can_hold = refl

holds : guard_holds (look_up x_defined) has_x ≡ true
unfolding look_up
holds = refl

-- ---- a web link

can_be_a_web_link : is_never_web_link web_link ≡ false
can_be_a_web_link = refl

is_one : is_web_link (expansion (look_up []) web_link) ≡ true
is_one = refl
