-- The findings in the rules of a target, in the order in which they are printed.
use Rattle.std.specs.Prelude.{ℕ, ◌+◌, ◌==◌, Bool, true, false, List, [], ◌∷◌, ◌++◌, codes, map, length, Option, Some, None, if◌then◌else◌}
use Rattle.std.specs.List.{list_any, flat_map, enumerate_from}
use Rattle.std.specs.Fmt.{decimal}
use Rattle.text_model.specs.Texts.{Text}
use Rattle.uri_grammar.specs.declared.parts.Part.{Part}
use Rattle.uri_grammar.specs.declared.parts.Part.TheVariants.{Literal, Expression}
use Rattle.kbart_rows.specs.Cells.{Holdings}
use Rattle.rule_parser.specs.declared.rule.Guard.{Guard}
use Rattle.rule_parser.specs.declared.rule.Rule.{Rule}
use Rattle.rule_parser.specs.Names.{each_once}
use Rattle.rule_parser.specs.Rules.{RuleSet}
use Rattle.rule_parser.specs.Mentions.{mentioned}
use Rattle.rule_lint.specs.declared.place.Place.{Place}
use Rattle.rule_lint.specs.declared.place.Place.TheVariants as place
use Rattle.rule_lint.specs.Names.{is_known, is_standard_column, resembled}
use Rattle.rule_lint.specs.Reach.{is_never_reached, never_holds}
use Rattle.rule_lint.specs.WebLink.{is_never_web_link}
use Rattle.rule_lint.specs.Host.{names_of, host_names, may_be_hostless}

-- one variant for each kind of line; rules are counted from 1
pub data RuleFinding : Type 0 where
  RuleCount : (n : ℕ) → RuleFinding
  NeverReached : (rule : ℕ) → RuleFinding
  NoColumn : (where_it_is : Place) (name : Text) → RuleFinding
  UnknownName : (where_it_is : Place) (name : Text) → RuleFinding
  MisspeltName : (where_it_is : Place) (name other : Text) → RuleFinding
  NeverHolds : (where_it_is : Place) → RuleFinding
  HostByRequest : (where_it_is : Place) (name : Text) → RuleFinding
  Hostless : (where_it_is : Place) → RuleFinding
  NeverWebLink : (where_it_is : Place) → RuleFinding

-- ---- the findings for a name, a guard, a link and a rule

-- the finding for an unknown name, with the name that it resembles if there is one
abbrev pub misspelling : Place → Text → Option Text → RuleFinding
misspelling at name None = UnknownName at name
misspelling at name (Some other) = MisspeltName at name other

abbrev pub in_name : RuleSet → Holdings → Place → Text → List RuleFinding
in_name rules table at name =
    if is_known rules table name then []
    else ((if is_standard_column name then NoColumn at name else misspelling at name (resembled rules table name)) ∷ [])

abbrev pub in_names : RuleSet → Holdings → Place → List Text → List RuleFinding
in_names rules table at names = flat_map (in_name rules table at) names

abbrev pub found_if : Bool → RuleFinding → List RuleFinding
found_if test finding = if test then finding ∷ [] else []

abbrev pub in_guard : RuleSet → Holdings → Place → Guard → List RuleFinding
in_guard rules table at guard = in_names rules table at (mentioned guard) ++ found_if (never_holds guard) (NeverHolds at)

abbrev pub names_in_part : Part → List Text
names_in_part (Literal text) = []
names_in_part (Expression op specs) = names_of specs

-- the names of a template in order, each once
abbrev pub names_in_template : List Part → List Text
names_in_template parts = each_once (flat_map names_in_part parts)

-- the names by which a request can set the host; if there are none, whether the host may be empty or have an `@`
abbrev pub in_open_host : Place → List Text → Bool → List RuleFinding
in_open_host at [] hostless = found_if hostless (Hostless at)
in_open_host at (name ∷ names) hostless = map (HostByRequest at) (name ∷ names)

abbrev pub in_host : RuleSet → Holdings → Place → List Part → List RuleFinding
in_host rules table at parts =
    if is_never_web_link parts then NeverWebLink at ∷ []
    else in_open_host at (host_names rules table parts) (may_be_hostless rules table parts)

abbrev pub in_link : RuleSet → Holdings → Place → List Part → List RuleFinding
in_link rules table at parts = in_names rules table at (names_in_template parts) ++ in_host rules table at parts

-- the findings for a guard, given with its index from 0
abbrev pub in_numbered_guard : RuleSet → Holdings → ℕ → ℕ × Guard → List RuleFinding
in_numbered_guard rules table rule numbered = in_guard rules table (place.Guard rule (numbered.0 + 1)) numbered.1

abbrev pub in_guards : RuleSet → Holdings → ℕ → List Guard → List RuleFinding
in_guards rules table rule guards = flat_map (in_numbered_guard rules table rule) (enumerate_from 0 guards)

-- the findings for a rule, given with its index from 0
abbrev pub in_rule : RuleSet → Holdings → ℕ × Rule → List RuleFinding
in_rule rules table numbered =
    if is_never_reached rules.rules numbered.0 then NeverReached (numbered.0 + 1) ∷ []
    else (in_guards rules table (numbered.0 + 1) numbered.1.guards
    ++ in_link rules table (place.Link (numbered.0 + 1)) numbered.1.template.parts)

abbrev pub in_rules : RuleSet → Holdings → List RuleFinding
in_rules rules table = flat_map (in_rule rules table) (enumerate_from 0 rules.rules)

abbrev pub findings : RuleSet → Holdings → List RuleFinding
findings rules table = RuleCount (length rules.rules) ∷ in_rules rules table

-- ---- how they are printed

abbrev pub place_text : Place → Text
place_text (place.Guard rule guard) = codes "rule " ++ (decimal rule ++ (codes ", guard " ++ decimal guard))
place_text (place.Link rule) = codes "rule " ++ (decimal rule ++ codes ", link")

abbrev pub finding_text : RuleFinding → Text
finding_text (RuleCount n) = codes "rules " ++ (decimal n ++ codes "\n")
finding_text (NeverReached rule) = codes "rule " ++ (decimal rule ++ codes " is never reached\n")
finding_text (NoColumn at name) = place_text at ++ (codes ": no column " ++ (name ++ codes "\n"))
finding_text (UnknownName at name) = place_text at ++ (codes ": unknown name " ++ (name ++ codes "\n"))
finding_text (MisspeltName at name other) =
    place_text at ++ (codes ": unknown name " ++ (name ++ (codes ", did you mean " ++ (other ++ codes "\n"))))
finding_text (NeverHolds at) = place_text at ++ codes ": never holds\n"
finding_text (HostByRequest at name) = place_text at ++ (codes ": a request can set the host by " ++ (name ++ codes "\n"))
finding_text (Hostless at) = place_text at ++ codes ": a row may give no host, or one with @\n"
finding_text (NeverWebLink at) = place_text at ++ codes ": never a web link\n"

abbrev pub findings_text : List RuleFinding → Text
findings_text list = flat_map finding_text list

-- every line is a warning, except the number of rules if there are any, and a link that is never a web link
abbrev pub is_rule_warning : RuleFinding → Bool
is_rule_warning (RuleCount n) = n == 0
is_rule_warning (NeverWebLink at) = false
is_rule_warning other = true

-- ---- the whole

abbrev pub lint_text : RuleSet → Holdings → Text
lint_text rules table = findings_text (findings rules table)

abbrev pub has_rule_warning : RuleSet → Holdings → Bool
has_rule_warning rules table = list_any is_rule_warning (findings rules table)
