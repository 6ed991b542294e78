-- Rule sets for the examples.
use Rattle.std.proofs.Common.{List, [], ◌∷◌, true, false}
use Rattle.std.specs.Prelude.{codes}
use Rattle.text_model.specs.Texts.{Text}
use Rattle.uri_grammar.specs.declared.parts.Op.TheVariants as operator
use Rattle.uri_grammar.specs.declared.parts.Spec.{Spec}
use Rattle.uri_grammar.specs.declared.parts.Part.{Part}
use Rattle.uri_grammar.specs.declared.parts.Part.TheVariants.{Literal, Expression}
use Rattle.rule_parser.specs.declared.rule.Bound.TheVariants as bound
use Rattle.rule_parser.specs.declared.rule.Guard.{Guard}
use Rattle.rule_parser.specs.declared.rule.Guard.TheVariants as guard
use Rattle.rule_parser.specs.declared.rule.Rule.{Rule}
use Rattle.rule_parser.specs.Rules.{RuleSet}

-- ---- their parts

abbrev pub plain : Text → Spec
plain name = record { name = name; cut = 0; explode = false }

abbrev pub exploded : Text → Spec
exploded name = record { name = name; cut = 0; explode = true }

-- `{name}`
abbrev pub variable : Text → Part
variable name = Expression operator.Simple (plain name ∷ [])

abbrev pub rule : List Guard → List Part → Rule
rule guards parts = record { guards = guards; template = record { text = []; parts = parts } }

abbrev pub rules_of : List Rule → RuleSet
rules_of rules = record { lists = []; rules = rules }

abbrev pub one_rule : List Guard → List Part → RuleSet
one_rule guards parts = rules_of (rule guards parts ∷ [])

abbrev pub site : Part
site = Literal (codes "http://e.org/")

-- ---- whole sets

-- `link http://e.org/{rft.issn}`
abbrev pub issn_rule : RuleSet
issn_rule = one_rule [] (site ∷ variable (codes "rft.issn") ∷ [])

-- `when rft.au counts 2 to *`, `link http://e.org/{rft.au}`
abbrev pub authors_rule : RuleSet
authors_rule =
    one_rule (guard.Counts (codes "rft.au") (bound.Digits (codes "2")) bound.Open ∷ []) (site ∷ variable (codes "rft.au") ∷ [])

-- `when rft.date from date_first_issue_online to date_last_issue_online`, `link {+title_url}`
abbrev pub date_rule : RuleSet
date_rule =
    one_rule
    (guard.Between (codes "rft.date") (bound.Name (codes "date_first_issue_online")) (bound.Name (codes "date_last_issue_online")) ∷ [])
    (Expression operator.Plus (plain (codes "title_url") ∷ []) ∷ [])
