use Rattle.std.proofs.Common.{Ok, refl, sym, ap, ◌∙◌}
use Rattle.answers.specs.Results.{text_result}
use Rattle.commands.specs.Output.{fails}
use Rattle.commands.proofs.OutputLemmas.{prints_by}
use Rattle.commands.proofs.printing.print.Goals as goal

pub returns-in-Ok : goal.returns-in-Ok
returns-in-Ok g c = prints_by _ _ _ _ (λ r same. same ∙ ap Ok c.deref.ensures ∙ sym (ap text_result c.in-Ok.is)) c.print_text.ensures

pub returns-in-Err : goal.returns-in-Err
returns-in-Err g c = fails _ (sym (ap text_result c.in-Err.is)) (refl {a = c.args.output.now})
