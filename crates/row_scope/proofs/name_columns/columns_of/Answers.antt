use Rattle.std.proofs.Common.{◌≡◌, ◌<◌, ◌++◌, ◌∷◌, [], Some, None, length, sym, ap, ◌∙◌, arith, rules}
use Rattle.std.proofs.lemmas.List.Elements.{All-push}
use Rattle.std.proofs.lemmas.List.Sorted.{All-permutation, Contains-permutation, IsNonDecreasingBy-from_sort_by_key}
use Rattle.machine_model.specs.Operands.{name_at}
use Rattle.kbart_rows.specs.Cells.{column_of}
use Rattle.row_scope.specs.NameColumns.{IsNameColumn}
use Rattle.row_scope.proofs.NameLemmas.{named}
use Rattle.row_scope.proofs.PlaceLemmas.{one_without, one_with}
use Rattle.row_scope.proofs.name_columns.columns_of.Goals as goal
use Rattle.row_scope.proofs.name_columns.columns_of.Goals.{in-Some+in_ok-push, in_default}

pub loop-number-preserved : goal.loop-number-preserved
loop-number-preserved c =
    let inv = c.loop-number.invariant in
    let code = c.args.code.now in
    let header = c.args.table.now.header in
    let number = c.loop-number.number in
    let before = c.loop-number.columns.items in
    let within : number < length code.names = omega (arith, c.loop-number-test.true, ap length c.names-number-end.ensures) in
    let text : c.as_str.result.now ≡ name_at code number = c.as_str.ensures.value ∙ ap (λ n. n.text) c.behind-code.view_is
    ∙ sym (named code number c.name.result.now c.name.ensures) in
    let found : c.column.result ≡ column_of header (name_at code number) = c.column.ensures.first ∙ ap (column_of header) text in
    elim c.match-column.branch [
      | in-Some+in_ok-push w ↦
          let at = w.in-Some.column in
          let there : column_of header (name_at code number) ≡ Some at = sym found ∙ w.in-Some.is in
          let items : c.match-column.columns.items ≡ before ++ record { column = at; number = number } ∷ [] =
          ap (λ v. v.items) w.columns-is ∙ w.in_ok-push.ensures.items in
          record {
            are = rw items (All-push (IsNameColumn code header) before _ inv.are (record { number = within; column = there }));
            every = λ n column below is. rw items (one_with code header before number inv.every at there n column below is);
          }
      | in_default w ↦
          let items : c.match-column.columns.items ≡ before = ap (λ v. v.items) w.columns-is in
          let none : column_of header (name_at code number) ≡ None = sym found ∙ w.in_default.is in
          record {
            are = rw items inv.are;
            every = λ n column below is. rw items (one_without code header before number inv.every none n column below is);
          }
    ]

pub returns : goal.returns
returns c =
    let inv = c.loop-number.invariant in
    let moved = c.sort_unstable_by_key.ensures.permutation in
    let all = ap length c.names-number-end.ensures in
    record {
      are = All-permutation (IsNameColumn c.args.code.now c.args.table.now.header) _ _ moved inv.are;
      rise = IsNonDecreasingBy-from_sort_by_key (λ p. p.column) _ c.sort_unstable_by_key.ensures.sorted (λ a r q k. search rules);
      every = λ number column within there. Contains-permutation _ _ _ moved
          (inv.every number column (omega (arith, all, within, c.loop-number-test.false)) there);
    }
