use Rattle.std.proofs.Common.{arith}
use Rattle.std.proofs.lemmas.Grind.{common_steps}
use Rattle.printed_text.proofs.Adding.{adds_both}
use Rattle.table_inspection.specs.Findings.{have_table_warning, lines_of}
use Rattle.table_inspection.specs.Inspection.{findings_of, inspection_text, has_table_warning}
use Rattle.table_inspection.proofs.inspection.inspect.Goals as goal

pub returns-clause-text : goal.returns-clause-text
unfolding findings_of inspection_text lines_of
returns-clause-text c = grind (arith, common_steps)

pub returns-clause-warned : goal.returns-clause-warned
unfolding findings_of has_table_warning have_table_warning
returns-clause-warned c =
    let all = adds_both _ _ _ _ _ c.in_ok-add_counts.ensures
    (adds_both _ _ _ _ _ c.in_ok-add_columns.ensures (adds_both _ _ _ _ _ c.in_ok-add_identifiers.ensures
    c.in_ok-add_values.ensures)) in
    all.warned
