use Rattle.std.proofs.Common.{◌≡◌, ◌<◌, ◌+◌, ◌∷◌, ◌++◌, [], List, Some, None, length, take, sym, ap, ◌∙◌, arith}
use Rattle.std.proofs.lemmas.List.{take_all, take_more}
use Rattle.std.proofs.lemmas.List.Sums.{fold-append}
use Rattle.std.proofs.lemmas.Option.{get_or_from_slice_get, slice_get_within}
use Rattle.std.specs.List.{slice_get}
use Rattle.text_model.specs.Texts.{Text}
use Rattle.text_model.proofs.Lists.{past_end}
use Rattle.kbart_rows.specs.Cells.{Row}
use Rattle.kbart_rows.specs.Lines.{cells_in}
use Rattle.kbart_rows.specs.NameSets.{NameSetValue, with_name, with_names}
use Rattle.kbart_rows.proofs.NameSetLemmas.{first_stay, one_grows}
use Rattle.kbart_rows.proofs.name_set.NameSet.add_cells.Goals as goal

pub loop-name-preserved : goal.loop-name-preserved
loop-name-preserved c =
    let header = c.args.table.now.header in
    let old = c.args.self.now.names in
    let column = c.loop-name.cells.column in
    let name = c.in-Some.name.now in
    let inv = c.loop-name.invariant in
    let at : slice_get header column ≡ Some name = sym (c.in-Some.ensures.cell ∙ ap (λ (cells : Row). slice_get cells column) inv.header) in
    let inside : column < length header = slice_get_within header column name at in
    let cells : take (column + 1) header ≡ take column header ++ name ∷ [] =
    take_more header column name inside ∙ ap (λ (text : Text). take column header ++ text ∷ []) (get_or_from_slice_get header column name name at) in
    let next = c.in-Some.ensures.some in
    record {
      header = ap cells_in c.in-Some.ensures.line ∙ inv.header;
      within = omega (arith, inside, next);
      added =
          c.in_ok-add.ensures.names ∙ ap (λ (names : List Text). with_name names name) inv.added
          ∙ sym (fold-append with_name old (take column header) (name ∷ [])) ∙ sym (ap (with_names old) cells)
          ∙ sym (ap (λ n. with_names old (take n header)) next);
      keys = c.in_ok-add.ensures.keys ∙ inv.keys;
    }

pub returns-in_err-add-clause-kept : goal.returns-in_err-add-clause-kept
returns-in_err-add-clause-kept c =
    let old = c.args.self.now.names in
    ap (λ (set : NameSetValue). take (length old) set.names) c.in_err-add.ensures.err ∙ ap (take (length old)) c.loop-name.invariant.added
    ∙ first_stay with_name one_grows old (take c.loop-name.cells.column c.args.table.now.header)

pub returns-clause-names : goal.returns-clause-names
returns-clause-names c =
    let inv = c.loop-name.invariant in
    let header = c.args.table.now.header in
    let column = c.loop-name.cells.column in
    let none : slice_get header column ≡ None =
    ap (λ (cells : Row). slice_get cells column) (sym inv.header) ∙ sym c.in_default.ensures.cell in
    inv.added ∙ ap (with_names c.args.self.now.names) (take_all column header (past_end header column none))

pub returns-clause-kept : goal.returns-clause-kept
returns-clause-kept c =
    let old = c.args.self.now.names in
    ap (take (length old)) c.loop-name.invariant.added
    ∙ first_stay with_name one_grows old (take c.loop-name.cells.column c.args.table.now.header)
