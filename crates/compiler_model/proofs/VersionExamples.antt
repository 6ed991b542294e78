-- The version of the code of rules with each guard.
use Rattle.std.proofs.Common.{◌≡◌, ℕ, List, [], ◌∷◌, ◌++◌, map, refl}
use Rattle.std.specs.Prelude.{codes}
use Rattle.text_model.specs.Texts.{Text}
use Rattle.rule_parser.specs.declared.rule.Bound.{Bound}
use Rattle.rule_parser.specs.declared.rule.Bound.TheVariants as bound
use Rattle.rule_parser.specs.declared.rule.Guard.{Guard}
use Rattle.rule_parser.specs.declared.rule.Guard.TheVariants as guard
use Rattle.rule_parser.specs.Rules.{RuleSet}
use Rattle.compiler_model.specs.Compiled.{code_of}
use Rattle.compiler_model.proofs.ExampleRules.{variable, rule, rules_of, one_rule}

abbrev x : Text
x = codes "x"

abbrev authors : Text
authors = codes "rft.au"

abbrev one : Bound
one = bound.Digits (codes "1")

abbrev version : RuleSet → ℕ
version rules = (code_of rules).version

abbrev version_with : List Guard → ℕ
version_with guards = version (one_rule guards (variable authors ∷ []))

-- every guard except `counts`
abbrev others : List Guard
others =
    guard.Has x ∷ guard.Has authors ∷ guard.Lacks x ∷ guard.Lacks authors ∷ guard.Given x ∷ guard.Same x (codes "1") ∷ guard.Holds authors x
    ∷ guard.Between x one one ∷ guard.Between x bound.Open (bound.Name x) ∷ guard.Between x (bound.Name x) bound.Open ∷ []

abbrev counting : Guard
counting = guard.Counts authors bound.Open bound.Open

all_others_have_version_1 : version_with others ≡ 1
all_others_have_version_1 = refl

no_guard_has_version_1 : version_with [] ≡ 1
no_guard_has_version_1 = refl

-- `counts` with any bounds
counts_has_version_2 :
    map (λ g. version_with (g ∷ [])) (counting ∷ guard.Counts authors one one ∷ guard.Counts authors bound.Open (bound.Name x) ∷ []) ≡ 2 ∷ 2 ∷ 2 ∷ []
counts_has_version_2 = refl

-- `counts` after all other guards, and in a rule other than the first
counts_last_has_version_2 : version_with (others ++ counting ∷ []) ≡ 2
counts_last_has_version_2 = refl

counts_in_a_later_rule_has_version_2 : version (rules_of (rule others [] ∷ rule (counting ∷ []) [] ∷ rule [] [] ∷ [])) ≡ 2
counts_in_a_later_rule_has_version_2 = refl
