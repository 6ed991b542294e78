-- The statement of a line, and how it is written.
use Rattle.std.specs.Prelude.{ℕ, List, [], ◌∷◌, ◌++◌, map, Bool, ◌||◌, ◌==◌, codes, if◌then◌else◌}
use Rattle.std.specs.List.{flat_map}
use Rattle.text_model.specs.Texts.{Text}
use Rattle.uri_grammar.specs.Names.{IsName}
use Rattle.rule_parser.specs.declared.rule.Bound.{Bound}
use Rattle.rule_parser.specs.declared.rule.Bound.TheVariants as bound
use Rattle.rule_parser.specs.declared.rule.Guard.{Guard}
use Rattle.rule_parser.specs.declared.rule.Guard.TheVariants as guard
use Rattle.rule_parser.specs.declared.rule.Rule.{Rule}
use Rattle.rule_parser.specs.Characters.{quote, backslash}
use Rattle.rule_parser.specs.Rules.{RuleSet, IsGuard}

pub data Statement : Type 0 where
  Declare : (name : Text) → Statement
  Begin : Statement
  When : (g : Guard) → Statement
  Link : (text : Text) → Statement

abbrev pub IsStatement : Statement → Type 0
IsStatement (Declare name) = IsName name
IsStatement Begin = Unit {0}
IsStatement (When g) = IsGuard g
IsStatement (Link text) = Unit {0}

-- ---- how statements are written

-- a quote or a backslash
abbrev pub is_special : ℕ → Bool
is_special b = b == quote || b == backslash

-- the text with a backslash before each of these
abbrev pub escaped : Text → Text
escaped [] = []
escaped (b ∷ text) = if is_special b then (backslash ∷ b ∷ escaped text) else (b ∷ escaped text)

abbrev pub quoted : Text → Text
quoted text = quote ∷ escaped text ++ quote ∷ []

abbrev pub bound_text : Bound → Text
bound_text bound.Open = codes "*"
bound_text (bound.Digits digits) = digits
bound_text (bound.Name name) = name

abbrev pub bounds_text : Bound → Bound → Text
bounds_text low high = bound_text low ++ (codes " to " ++ bound_text high)

abbrev pub guard_text : Guard → Text
guard_text (guard.Has name) = codes "has " ++ name
guard_text (guard.Lacks name) = codes "lacks " ++ name
guard_text (guard.Given name) = codes "given " ++ name
guard_text (guard.Same name text) = name ++ (codes " is " ++ quoted text)
guard_text (guard.Holds name text) = name ++ (codes " holds " ++ quoted text)
guard_text (guard.Between name low high) = name ++ (codes " from " ++ bounds_text low high)
guard_text (guard.Counts name low high) = name ++ (codes " counts " ++ bounds_text low high)

abbrev pub line_of : Statement → Text
line_of (Declare name) = codes "list " ++ name
line_of Begin = codes "rule"
line_of (When g) = codes "when " ++ guard_text g
line_of (Link text) = codes "link " ++ text

-- ---- the statements of rules

abbrev pub statements_of_rule : Rule → List Statement
statements_of_rule rule = Begin ∷ map When rule.guards ++ Link rule.template.text ∷ []

abbrev pub statements : RuleSet → List Statement
statements rules = map Declare rules.lists ++ flat_map statements_of_rule rules.rules
