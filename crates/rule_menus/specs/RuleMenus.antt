-- The menu that rules give: each target has a rule set instead of code.
use Rattle.std.specs.Prelude.{ℕ, List, Option, Some, None, map, nat_lt, if◌then◌else◌}
use Rattle.text_model.specs.Texts.{Text}
use Rattle.environment_model.specs.Environment.{Environment}
use Rattle.kev_read.specs.Pairs.{KeyValue}
use Rattle.kbart_rows.specs.Cells.{Holdings}
use Rattle.kbart_rows.specs.Identifiers.{ids_of, matching_rows}
use Rattle.rule_parser.specs.Rules.{RuleSet, IsSound}
use Rattle.rule_parser.specs.Meaning.{meaning}
use Rattle.rule_explanation.specs.Rows.{environment_of_row}
use Rattle.compiler_model.specs.Compiled.{code_of}
use Rattle.verified_runs.specs.declared.run.TheConstants.{MAX_LINK_BYTES}
use Rattle.menu.specs.Entries.{MenuEntry}
use Rattle.menu.specs.declared.entry.Resolution.{Resolution}
use Rattle.menu.specs.declared.entry.Resolution.TheVariants.{NoRow}
use Rattle.registry.specs.Targets.{TargetValue}
use Rattle.registry.specs.RowEnvironments.{row_environment}
use Rattle.verified_runs.specs.Fates.{FateValue, OverBudget, Link, NoLink, most_bytes_in}
use Rattle.registry.specs.Entries.{chosen, resolution_by}

-- a content provider: its name, its rules, and the table of its holdings
pub record RuleTarget : Type 0 where
  pub name : Text
  pub rules : RuleSet
  pub table : Holdings

-- the same target with the code of its rules
abbrev pub coded : RuleTarget → TargetValue
coded target = record { name = target.name; code = code_of target.rules; table = target.table }

abbrev pub HasSoundRules : RuleTarget → Type 0
HasSoundRules target = IsSound target.rules

-- ---- one row

-- the environment in which `explain` tries the rules
abbrev pub environment_by_rules : RuleTarget → List KeyValue → ℕ → Environment
environment_by_rules target pairs row = environment_of_row target.rules target.table pairs row

-- the environment of the code: a list that the rules declare but do not use is a text in it
abbrev pub environment_by_code : RuleTarget → List KeyValue → ℕ → Environment
environment_by_code target pairs row = row_environment (coded target) pairs row

-- the code's bound on output bytes, in the environment of the code
abbrev pub most_bytes_of_row : RuleTarget → List KeyValue → ℕ → ℕ
most_bytes_of_row target pairs row = most_bytes_in (code_of target.rules) (environment_by_code target pairs row)

abbrev pub fate_of_meaning : Option Text → FateValue
fate_of_meaning None = NoLink
fate_of_meaning (Some link) = Link link

-- what the rules mean, unless the code might print too many bytes
abbrev pub fate_by_rules : RuleTarget → List KeyValue → ℕ → FateValue
fate_by_rules target pairs row =
    if nat_lt MAX_LINK_BYTES (most_bytes_of_row target pairs row) then OverBudget (most_bytes_of_row target pairs row)
    else fate_of_meaning (meaning target.rules (environment_by_rules target pairs row))

abbrev pub resolution_of_row_by_rules : RuleTarget → List KeyValue → ℕ → Resolution
resolution_of_row_by_rules target pairs row = resolution_by row (fate_by_rules target pairs row)

-- ---- all matching rows, and all targets

-- the resolution of the first matching row with a web link; without one, that of the last matching row; and NoRow if no row matches
abbrev pub resolution_by_rules : RuleTarget → List KeyValue → Resolution
resolution_by_rules target pairs =
    chosen NoRow (map (resolution_of_row_by_rules target pairs) (matching_rows target.table (ids_of pairs)))

abbrev pub entry_by_rules : RuleTarget → List KeyValue → MenuEntry
entry_by_rules target pairs = record { name = target.name; resolution = resolution_by_rules target pairs }

-- the menu: an entry for each target, in their order
abbrev pub menu_by_rules : List RuleTarget → List KeyValue → List MenuEntry
menu_by_rules targets pairs = map (λ target. entry_by_rules target pairs) targets
