-- How findings grow when lines are appended. For private contracts.
use Rattle.std.specs.Prelude.{List}
use Rattle.printed_text.specs.Adding.{AddsLines}
use Rattle.printed_text.specs.declared.findings.Findings.{Findings}
use Rattle.rule_lint.specs.Findings.{RuleFinding, finding_text, is_rule_warning}

abbrev pub Adds : Findings → Findings → List RuleFinding → Type 0
Adds = AddsLines finding_text is_rule_warning
