-- A row over a request, as the rules of a target see it.
use Rattle.std.specs.Prelude.{ℕ, List, [], Option, get_or}
use Rattle.text_model.specs.Texts.{Text}
use Rattle.environment_model.specs.Environment.{LookUp}
use Rattle.kev_read.specs.Pairs.{KeyValue}
use Rattle.kbart_rows.specs.Cells.{Holdings, cell_of}
use Rattle.rule_parser.specs.Rules.{RuleSet}
use Rattle.rule_parser.specs.Meaning.{seen}
use Rattle.rule_explanation.specs.Rows.{environment_of_row}

-- a request, and the rules and the table of a target
pub record RulesRequestValue : Type 0 where
  pub rules : RuleSet
  pub table : Holdings
  pub pairs : List KeyValue

-- a row of the target's table
pub record RowViewValue : Type 0 where
  pub request : RulesRequestValue
  pub row : ℕ

-- the value of each name
abbrev pub seen_row : RowViewValue → LookUp
seen_row v = seen v.request.rules (environment_of_row v.request.rules v.request.table v.request.pairs v.row)

-- the row's cell under a name
abbrev pub cell_seen : RowViewValue → Text → Option Text
cell_seen v name = cell_of v.request.table.header (get_or v.request.table.rows v.row []) name
