-- What is printed for the rows that are tried.
use Rattle.std.specs.Prelude.{ℕ, Bool, List, [], ◌∷◌, ◌++◌, Option, Some, None, length, nat_le, codes, if◌then◌else◌}
use Rattle.std.specs.List.{flat_map}
use Rattle.std.specs.Fmt.{decimal}
use Rattle.text_model.specs.Texts.{Text}
use Rattle.environment_model.specs.Environment.{Environment, LookUp, Meaning, Single, Several}
use Rattle.kev_read.specs.Pairs.{KeyValue}
use Rattle.kbart_rows.specs.Cells.{Holdings}
use Rattle.uri_template.specs.Expansion.{expansion}
use Rattle.rule_parser.specs.declared.rule.Guard.{Guard}
use Rattle.rule_parser.specs.declared.rule.Rule.{Rule}
use Rattle.rule_parser.specs.Rules.{RuleSet}
use Rattle.rule_parser.specs.Meaning.{seen}
use Rattle.rule_parser.specs.Mentions.{mentioned}
use Rattle.rule_parser.specs.Statements.{guard_text}
use Rattle.menu.specs.WebLink.{is_web_link}
use Rattle.printed_text.specs.Printed.{shortened, visible}
use Rattle.rule_explanation.specs.Rows.{environment_of_row, tried_rows}
use Rattle.rule_explanation.specs.Failing.{failing_guard, failing_rules, holding_rule, numbered}
use Rattle.rule_explanation.specs.declared.explaining.TheConstants.{MAX_DETAILED}

-- ---- a guard that fails

-- the value of a name; a list without members is undefined
abbrev pub meaning_text : Option Meaning → Text
meaning_text None = codes "undefined"
meaning_text (Some (Single text)) = shortened text
meaning_text (Some (Several [])) = codes "undefined"
meaning_text (Some (Several (member ∷ members))) = codes "list of " ++ decimal (length (member ∷ members))

abbrev pub name_line : LookUp → Text → Text
name_line look name = codes "    " ++ (name ++ (codes " " ++ (meaning_text (look name) ++ codes "\n")))

-- a rule's guard that fails, and the values of its names
abbrev pub guard_lines : LookUp → ℕ → ℕ × Guard → Text
guard_lines look rule (place, guard) =
    codes "  rule " ++ (decimal rule ++ (codes ", guard " ++ (decimal place ++ (codes " fails: "
    ++ (visible (guard_text guard) ++ (codes "\n" ++ flat_map (name_line look) (mentioned guard)))))))

-- ---- the rules

abbrev pub failing_guard_lines : LookUp → ℕ → Option (ℕ × Guard) → Text
failing_guard_lines look rule None = []
failing_guard_lines look rule (Some guard) = guard_lines look rule guard

-- the first guard of a rule that fails
abbrev pub failing_rule_lines : LookUp → ℕ × Rule → Text
failing_rule_lines look (place, rule) = failing_guard_lines look place (failing_guard look rule.guards)

-- the rules before the first that holds
abbrev pub failing_lines : LookUp → List Rule → Text
failing_lines look rules = flat_map (failing_rule_lines look) (failing_rules look rules)

abbrev pub link_lines : ℕ → Text → Text
link_lines rule link =
    codes "  rule " ++ (decimal rule ++ (codes " holds: " ++ (link ++ (codes "\n"
    ++ (if is_web_link link then [] else codes "  not a web link\n")))))

-- the rule that holds
abbrev pub holding_lines : LookUp → Option (ℕ × Rule) → Text
holding_lines look None = codes "  no rule holds\n"
holding_lines look (Some (place, rule)) = link_lines place (expansion look rule.template.parts)

abbrev pub rule_lines : LookUp → List Rule → Bool → Text
rule_lines look rules detailed = (if detailed then failing_lines look rules else []) ++ holding_lines look (holding_rule look rules)

-- ---- the rows

-- a row with its environment
abbrev pub row_text : RuleSet → Environment → Bool → ℕ → Text
row_text rules env detailed row = codes "row " ++ (decimal row ++ (codes "\n" ++ rule_lines (seen rules env) rules.rules detailed))

-- for the first rows the rules that fail are printed, for the later ones only the rule that holds
abbrev pub is_detailed : ℕ → Bool
is_detailed place = nat_le place MAX_DETAILED

abbrev pub tried_row_text : RuleSet → Holdings → List KeyValue → ℕ × ℕ → Text
tried_row_text rules table pairs (place, row) = row_text rules (environment_of_row rules table pairs row) (is_detailed place) row

abbrev pub text_of_rows : RuleSet → Holdings → List KeyValue → List ℕ → Text
text_of_rows rules table pairs [] = codes "no row\n"
text_of_rows rules table pairs (row ∷ rows) = flat_map (tried_row_text rules table pairs) (numbered (row ∷ rows))

-- what rules give on the rows that are tried
abbrev pub explanation : RuleSet → Holdings → List KeyValue → Text
explanation rules table pairs = text_of_rows rules table pairs (tried_rows rules table pairs)
