-- The definitions computed on whole sets of rules: what is printed is written out here, and the checker compares.
use Rattle.std.proofs.Common.{◌≡◌, true, false, List, [], ◌∷◌, ◌++◌, refl, codes}
use Rattle.std.specs.Fmt.{digits}
use Rattle.text_model.specs.Texts.{Text}
use Rattle.text_model.specs.Number.{leading_number, value_from}
use Rattle.uri_grammar.specs.declared.parts.Op.{Op}
use Rattle.uri_grammar.specs.declared.parts.Op.TheVariants as operator
use Rattle.uri_grammar.specs.declared.parts.Part.{Part}
use Rattle.uri_grammar.specs.declared.parts.Part.TheVariants.{Literal, Expression}
use Rattle.kbart_rows.specs.Cells.{Row, Holdings}
use Rattle.kbart_rows.specs.declared.keys.Keys.{Keys}
use Rattle.rule_parser.specs.declared.rule.Guard.{Guard}
use Rattle.rule_parser.specs.declared.rule.Guard.TheVariants as guard
use Rattle.rule_parser.specs.declared.rule.Rule.{Rule}
use Rattle.rule_parser.specs.Rules.{RuleSet}
use Rattle.rule_lint.specs.Findings.{lint_text, has_rule_warning}

-- ---- rules and tables

abbrev pub variable : Op → Text → Part
variable op name = Expression op (record { name = name; cut = 0; explode = false } ∷ [])

abbrev pub rule_of : List Guard → List Part → Rule
rule_of guards parts = record { guards = guards; template = record { text = []; parts = parts } }

abbrev pub rules_of : List Text → List Rule → RuleSet
rules_of lists rules = record { lists = lists; rules = rules }

abbrev pub table_of : Keys → Row → List Row → Holdings
table_of keys header rows = record { header = header; rows = rows; keys = keys }

abbrev misspelt : Rule
misspelt = rule_of (guard.Given (codes "rft.isssn") ∷ []) (Literal (codes "https://e.org") ∷ variable operator.Simple (codes "x") ∷ [])

abbrev by_title_url : Rule
by_title_url = rule_of [] (variable operator.Plus (codes "title_url") ∷ [])

abbrev none : Rule
none = rule_of [] (Literal (codes "none:") ∷ [])

abbrev header : Row
header = codes "print_identifier" ∷ codes "title_url" ∷ []

-- the second row has no address, or one
abbrev without_address : Keys → Holdings
without_address keys = table_of keys header (
    (codes "1234-5679" ∷ codes "http://e.org/a" ∷ []) ∷ (codes "2049-3630" ∷ [] ∷ []) ∷ [])

abbrev with_addresses : Keys → Holdings
with_addresses keys = table_of keys header (
    (codes "1234-5679" ∷ codes "http://e.org/a" ∷ []) ∷ (codes "2049-3630" ∷ codes "http://e.org/b" ∷ []) ∷ [])

-- ---- a request that can choose the host

doubtful : (keys : Keys) → lint_text (rules_of [] (misspelt ∷ by_title_url ∷ none ∷ [])) (without_address keys)
    ≡ codes "rules 3\nrule 1, guard 1: unknown name rft.isssn, did you mean rft.issn\nrule 1, link: unknown name x\n"
    ++ codes "rule 1, link: a request can set the host by x\nrule 2, link: a request can set the host by title_url\n"
    ++ codes "rule 3 is never reached\n"
unfolding digits leading_number value_from
doubtful keys = refl

doubtful_warns : (keys : Keys) → has_rule_warning (rules_of [] (misspelt ∷ by_title_url ∷ none ∷ [])) (without_address keys) ≡ true
unfolding digits
doubtful_warns keys = refl

-- ---- the rules in another order, and an address in every row

reordered : (keys : Keys) → lint_text (rules_of [] (misspelt ∷ none ∷ by_title_url ∷ [])) (with_addresses keys)
    ≡ codes "rules 3\nrule 1, guard 1: unknown name rft.isssn, did you mean rft.issn\nrule 1, link: unknown name x\n"
    ++ codes "rule 1, link: a request can set the host by x\nrule 2, link: never a web link\nrule 3 is never reached\n"
unfolding digits
reordered keys = refl

reordered_warns : (keys : Keys) → has_rule_warning (rules_of [] (misspelt ∷ none ∷ by_title_url ∷ [])) (with_addresses keys) ≡ true
unfolding digits
reordered_warns keys = refl
