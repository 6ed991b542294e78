-- The names that guards mention, and how guards are written, computed from the definitions.
use Rattle.std.proofs.Common.{◌≡◌, List, [], ◌∷◌, map, refl, codes}
use Rattle.rule_parser.specs.declared.rule.Bound.TheVariants as bound
use Rattle.rule_parser.specs.declared.rule.Guard.{Guard}
use Rattle.rule_parser.specs.declared.rule.Guard.TheVariants as guard
use Rattle.rule_parser.specs.Mentions.{mentioned}
use Rattle.rule_parser.specs.Statements.{guard_text}

-- one guard of each kind; bounds that are names count, and digits and texts are not names
abbrev guards : List Guard
guards =
    guard.Has (codes "x") ∷ guard.Lacks (codes "x") ∷ guard.Given (codes "x")
    ∷ guard.Same (codes "x") (codes "a\"b\\") ∷ guard.Holds (codes "rft.au") (codes "Li")
    ∷ guard.Between (codes "x") (bound.Name (codes "low")) (bound.Name (codes "high"))
    ∷ guard.Counts (codes "rft.au") (bound.Digits (codes "2")) bound.Open
    ∷ guard.Counts (codes "rft.au") bound.Open (bound.Name (codes "n"))
    ∷ []

names_in_order :
    map mentioned guards
    ≡ (codes "x" ∷ []) ∷ (codes "x" ∷ []) ∷ (codes "x" ∷ []) ∷ (codes "x" ∷ []) ∷ (codes "rft.au" ∷ [])
    ∷ (codes "x" ∷ codes "low" ∷ codes "high" ∷ []) ∷ (codes "rft.au" ∷ []) ∷ (codes "rft.au" ∷ codes "n" ∷ []) ∷ []
names_in_order = refl

-- a repeated name is mentioned at its first place
abbrev again : List Guard
again =
    guard.Between (codes "x") (bound.Name (codes "x")) (bound.Name (codes "y"))
    ∷ guard.Between (codes "x") (bound.Name (codes "y")) (bound.Name (codes "x"))
    ∷ guard.Between (codes "x") (bound.Name (codes "y")) (bound.Name (codes "y"))
    ∷ guard.Between (codes "x") (bound.Name (codes "x")) (bound.Name (codes "x"))
    ∷ []

each_name_once :
    map mentioned again
    ≡ (codes "x" ∷ codes "y" ∷ []) ∷ (codes "x" ∷ codes "y" ∷ []) ∷ (codes "x" ∷ codes "y" ∷ []) ∷ (codes "x" ∷ []) ∷ []
each_name_once = refl

spelled :
    map guard_text guards
    ≡ codes "has x" ∷ codes "lacks x" ∷ codes "given x" ∷ codes "x is \"a\\\"b\\\\\"" ∷ codes "rft.au holds \"Li\""
    ∷ codes "x from low to high" ∷ codes "rft.au counts 2 to *" ∷ codes "rft.au counts * to n" ∷ []
spelled = refl
