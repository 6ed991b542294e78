use Rattle.std.proofs.Common.{refl}
use Rattle.printed_text.proofs.Adding.{adds_both}
use Rattle.table_inspection.specs.Cells.{bad_numbers, unidentified}
use Rattle.table_inspection.specs.Findings.{NotNumbers, RowsWithoutIdentifier}
use Rattle.table_inspection.specs.Inspection.{findings_in_identifiers}
use Rattle.table_inspection.proofs.TallyLemmas.{most_of_all}
use Rattle.table_inspection.proofs.inspection.add_identifiers.Goals as goal

pub returns : goal.returns
unfolding findings_in_identifiers unidentified bad_numbers
returns c =
    adds_both _ _ _ _ _ (c.in_ok-tell.ensures RowsWithoutIdentifier _ c.requires.unidentified (λ count first. refl) (λ count first. refl))
    (adds_both _ _ _ _ _ (c.in_ok-tell-2.ensures NotNumbers _ c.requires.bad_numbers (λ count first text. refl) (λ count first text. refl))
    (c.in_ok-add_most.ensures c.args.table.now (most_of_all c.args.table.now c.args.found.now.tally c.requires.tallied)))
