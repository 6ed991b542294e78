use Rattle.std.proofs.Common.{refl, sym, ap}
use Rattle.answers.specs.Findings.{findings_report}
use Rattle.answers.specs.Results.{report_result}
use Rattle.commands.specs.Output.{fails, unprinted, warns, clean}
use Rattle.commands.proofs.printing.print_findings.Goals as goal

pub returns-in-Ok-write_text : goal.returns-in-Ok-write_text
returns-in-Ok-write_text g c =
    warns (findings_report c.in-Ok.findings) (sym (ap report_result c.in-Ok.is)) (rw c.deref.ensures at c.in-Ok-write_text.ensures.ok) c.if-findings.true

pub returns-in-Ok-2 : goal.returns-in-Ok-2
returns-in-Ok-2 g c =
    clean (findings_report c.in-Ok.findings) (sym (ap report_result c.in-Ok.is)) (rw c.deref.ensures at c.in-Ok-2.ensures.ok) c.if-findings.false

pub returns-in-Ok : goal.returns-in-Ok
returns-in-Ok g c =
    unprinted (findings_report c.in-Ok.findings) _ (sym (ap report_result c.in-Ok.is)) refl (rw c.deref.ensures at c.in-Err-write_text.ensures.err)

pub returns : goal.returns
returns g c = fails _ (sym (ap report_result c.in-Err.is)) (refl {a = c.args.output.now})
