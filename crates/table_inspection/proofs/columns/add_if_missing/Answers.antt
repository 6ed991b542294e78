use Rattle.std.proofs.Common.{◌≡◌, false, [], ◌∷◌, sym, ◌∙◌, arith}
use Rattle.std.proofs.lemmas.Grind.{common_steps}
use Rattle.table_inspection.specs.Columns.{is_missing, are_both_missing}
use Rattle.table_inspection.specs.Findings.{MissingColumn}
use Rattle.table_inspection.proofs.AddingLemmas.{adds_if_false}
use Rattle.table_inspection.proofs.columns.add_if_missing.Goals as goal

pub returns-then-is_missing : goal.returns-then-is_missing
returns-then-is_missing c = grind (arith, common_steps)

pub returns : goal.returns
returns c =
    let header = c.args.table.now.header in
    let no : is_missing header c.args.name.now ≡ false = sym c.is_missing.ensures ∙ c.if-is_missing.false in
    adds_if_false (is_missing header c.args.name.now) (MissingColumn c.args.name.now (are_both_missing header) ∷ []) _ no
