-- The findings in a holdings table, and in the rules of a target.
use Rattle.std.specs.Prelude.{◌≡◌, Bool, Result, Ok, Err, string_bytes}
use Rattle.text_model.specs.Texts.{Text}
use Rattle.kbart_rows.specs.Cells.{Holdings}
use Rattle.kbart_rows.specs.Reading.{IsTable}
use Rattle.kbart_rows.specs.declared.keys.Keys.{Keys}
use Rattle.rule_parser.specs.Rules.{RuleSet}
use Rattle.rule_lint.specs.Findings as lint
use Rattle.table_inspection.specs.Inspection as inspection
use Rattle.printed_text.specs.declared.findings.Findings.{Findings}
use Rattle.answers.specs.Reading.{IsNoTable}
use Rattle.answers.specs.declared.refusal.Refusal.{Refusal}
use Rattle.answers.specs.declared.refusal.Refusal.TheVariants.{Memory}

-- a text of findings, and whether one of them is a warning
pub record Report : Type 0 where
  pub text : Text
  pub warned : Bool

abbrev pub findings_report : Findings → Report
findings_report findings = record { text = string_bytes findings.text; warned = findings.warned }

-- the findings in the table of the bytes, or the first reason why there are none
pub data IsInspectionOf (bytes : Text) (keys : Keys) : Result Report Refusal → Type 0 where
  no_memory : (table : Holdings) → IsTable bytes table → IsInspectionOf bytes keys (Err Memory)
  no_table : (e : Refusal) → IsNoTable bytes e → IsInspectionOf bytes keys (Err e)
  inspected : (table : Holdings) (found : Report) → IsTable bytes table → table.keys ≡ keys → found.text ≡ inspection.inspection_text table
      → found.warned ≡ inspection.has_table_warning table → IsInspectionOf bytes keys (Ok found)

-- the findings in the rules with the table of the bytes, or the first reason why there are none
pub data IsLintOf (rules : RuleSet) (bytes : Text) (keys : Keys) : Result Report Refusal → Type 0 where
  no_memory : (table : Holdings) → IsTable bytes table → IsLintOf rules bytes keys (Err Memory)
  no_table : (e : Refusal) → IsNoTable bytes e → IsLintOf rules bytes keys (Err e)
  linted : (table : Holdings) (found : Report) → IsTable bytes table → table.keys ≡ keys → found.text ≡ lint.lint_text rules table
      → found.warned ≡ lint.has_rule_warning rules table → IsLintOf rules bytes keys (Ok found)
