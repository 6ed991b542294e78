use Rattle.std.proofs.Common.{◌≡◌, true, [], ◌∷◌, get_or, sym, ◌∙◌, arith}
use Rattle.std.proofs.lemmas.Grind.{common_steps}
use Rattle.table_inspection.specs.Columns.{is_ignored}
use Rattle.table_inspection.specs.Findings.{IgnoredColumn}
use Rattle.table_inspection.proofs.AddingLemmas.{adds_one, adds_if_true}
use Rattle.table_inspection.proofs.columns.add_if_ignored.Goals as goal

pub returns-then-is_ignored : goal.returns-then-is_ignored
returns-then-is_ignored c =
    let header = c.args.table.now.header in
    let name = get_or header c.args.column [] in
    let yes : is_ignored header c.args.column ≡ true = sym c.is_ignored.ensures ∙ c.if-is_ignored.true in
    let added = rw c.requires at c.in_ok-add_text.ensures in
    adds_if_true (is_ignored header c.args.column) (IgnoredColumn name ∷ []) _ _ yes (adds_one _ _ (IgnoredColumn name) added)

pub returns : goal.returns
returns c = grind (arith, common_steps)
