use Rattle.std.proofs.Common.{◌≡◌, ℕ, ◌+◌, Some, slice_get, length, get_or, set, subst, sym, ap, ◌∙◌, arith}
use Rattle.std.proofs.lemmas.Grind.{common_steps}
use Rattle.std.proofs.Math.ListN.{length-set}
use Rattle.std.proofs.lemmas.Option.{slice_get-get_or}
use Rattle.std.proofs.lemmas.List.Elements.{All-get_or}
use Rattle.kbart_rows.specs.Cells.{named_cells}
use Rattle.kbart_rows.specs.Lines.{IsCellAt, cells_in}
use Rattle.text_model.specs.Texts.{Text}
use Rattle.row_scope.specs.NameColumns.{AreColumns, IsNameColumn}
use Rattle.row_scope.specs.RowEnvironments.{lists_of}
use Rattle.row_scope.specs.RowValue.{TargetRequestValue}
use Rattle.row_scope.specs.Private.Kept.{IsTargetRequest}
use Rattle.row_scope.specs.declared.binding.Binding.TheVariants as binding
use Rattle.row_scope.specs.declared.name_columns.NameColumn.{NameColumn}
use Rattle.row_scope.proofs.OverLemmas.{AreBoundSoFar, bound_without_cell, bound_with_cell, bound_at_last}
use Rattle.row_scope.proofs.target_request.TargetRequest.bind_cells.Goals.{then-len-gt0, else-len-gt0}
use Rattle.row_scope.proofs.target_request.TargetRequest.bind_cells.Goals as goal

pub loop-place-init : goal.loop-place-init
loop-place-init c = grind (arith, common_steps)

pub seek-start-requires-clause-ahead : goal.seek-start-requires-clause-ahead
seek-start-requires-clause-ahead c = c.loop-place.invariant.ahead c.loop-place.place-index (omega arith) c.loop-place-test.true

pub seek-start-requires-clause-short : goal.seek-start-requires-clause-short
seek-start-requires-clause-short c = omega (arith, ap length c.loop-place.invariant.line, c.requires.short)

pub overflow_add-bindings : goal.overflow_add-bindings
overflow_add-bindings c = grind (arith, common_steps)

pub loop-place-preserved : goal.loop-place-preserved
loop-place-preserved c =
    let t = c.args.self.now in
    let line = c.args.line.now in
    let s = c.self.inside in
    let kept = subst (λ (v : TargetRequestValue). IsTargetRequest v s.names.now s.bindings.items s.bytes s.members) c.self.view_is
    c.self.invariant in
    let places = c.deref-place-items.result.now in
    let d : NameColumn = record { column = 0; number = 0 } in
    let k = c.loop-place.place-index in
    let place = get_or places k d in
    let inv = c.loop-place.invariant in
    let are : places ≡ s.names.now.columns.items = c.deref-place-items.ensures.value in
    let columns = subst (AreColumns t.code t.table.header) (sym are) kept.placed.columns in
    let rise = columns.rise in
    let column : IsNameColumn t.code t.table.header place = All-get_or (IsNameColumn t.code t.table.header) places k d c.loop-place-test.true columns.are in
    let here : slice_get places k ≡ Some place = slice_get-get_or places k d c.loop-place-test.true in
    let at : IsCellAt line place.column c.seek-start.result.0 c.seek-start.result.1 =
    subst (λ (text : Text). IsCellAt text place.column c.seek-start.result.0 c.seek-start.result.1) inv.line c.seek-start.ensures.place in
    let row = named_cells t.table.header (cells_in line) in
    let shadow = c.rows_shadow_requests.ensures.look_up (lists_of t.code) row t.request.pairs in
    let by_name = c.rows_by_names.ensures.text t.table.header (cells_in line) in
    let there = c.rows_by_names.ensures.there t.table.header (cells_in line) in
    let seam : c.size-seam.result ≡ length t.request.values.buffer =
    c.size-seam.ensures.value ∙ ap (λ (v : TargetRequestValue). length v.request.values.buffer) c.self.view_is in
    let over = λ (n : ℕ). set c.loop-place.bindings place.number (binding.Text (n + c.seek-start.result.0) c.seek-start.result.1) in
    record {
      line = c.seek-start.ensures.line ∙ inv.line;
      ahead = λ j from below. omega (arith, c.seek-start.ensures.column, rise k j d (omega (arith, from)) below);
      one_each = elim c.if-len-gt0.branch [
        | then-len-gt0 w ↦
            ap length w.bindings-is
            ∙ length-set c.loop-place.bindings place.number (binding.Text (c.size-seam.result + c.seek-start.result.0) c.seek-start.result.1)
            ∙ inv.one_each
        | else-len-gt0 w ↦ ap length w.bindings-is ∙ inv.one_each
      ];
      bound = elim c.if-len-gt0.branch [
        | then-len-gt0 w ↦
            let same : over (length t.request.values.buffer) ≡ c.if-len-gt0.bindings =
            ap over (sym seam) ∙ sym w.bindings-is in
            subst (AreBoundSoFar t line places (k + 1)) same
            (bound_with_cell t line places shadow by_name there k place c.seek-start.result.0 c.seek-start.result.1 c.loop-place.bindings here column at
            w.if-len-gt0.true inv.bound)
        | else-len-gt0 w ↦
            subst (AreBoundSoFar t line places (k + 1)) (sym w.bindings-is)
            (bound_without_cell t line places shadow by_name there k place c.seek-start.result.0 c.seek-start.result.1 c.loop-place.bindings here at
            (omega (arith, w.if-len-gt0.false)) inv.bound)
      ];
    }

pub returns : goal.returns
returns c =
    let t = c.args.self.now in
    let line = c.args.line.now in
    let s = c.self.inside in
    let kept = subst (λ (v : TargetRequestValue). IsTargetRequest v s.names.now s.bindings.items s.bytes s.members) c.self.view_is
    c.self.invariant in
    let places = c.deref-place-items.result.now in
    let are : places ≡ s.names.now.columns.items = c.deref-place-items.ensures.value in
    let columns = subst (AreColumns t.code t.table.header) (sym are) kept.placed.columns in
    let inv = c.loop-place.invariant in
    let row = named_cells t.table.header (cells_in line) in
    let shadow = c.rows_shadow_requests.ensures.look_up (lists_of t.code) row t.request.pairs in
    let by_name = c.rows_by_names.ensures.text t.table.header (cells_in line) in
    let there = c.rows_by_names.ensures.there t.table.header (cells_in line) in
    let last : c.loop-place.place-index ≡ length places = omega (arith, c.loop-place-test.false, c.loop-place.auto.place-index-end) in
    bound_at_last t line places shadow by_name there c.loop-place.bindings columns kept.values.inside inv.one_each
    (subst (λ (k : ℕ). AreBoundSoFar t line places k c.loop-place.bindings) last inv.bound)
