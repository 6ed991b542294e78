use Rattle.std.proofs.Common.{◌≡◌, ℕ, ◌≤◌, Some, slice_get, length}
use Rattle.text_model.specs.Texts.{Text}
use Rattle.row_laws.specs.Shadowing.{requested}
use Rattle.row_scope.specs.Bindings.{IsBound, laid_in}
use Rattle.row_scope.specs.RowEnvironments.{lists_of, names_of}
use Rattle.row_scope.specs.declared.binding.Binding.{Binding}
use Rattle.row_scope.proofs.target_request.bind_names.Given as goal

-- the names so far are bound, and there is room for the others
abbrev pub invariant-loop-i : goal.invariant-loop-i
invariant-loop-i l = record {
  one_each : length l.bindings.items ≡ l.i;
  room : length l.code.names ≤ l.bindings.capacity;
  same : l.known ≡ l.fn.known;
  bound : (i : ℕ) (name : Text) (b : Binding) → slice_get (names_of l.code) i ≡ Some name → slice_get l.bindings.items i ≡ Some b
      → IsBound (laid_in l.fn.known.request.values (requested (lists_of l.code) l.fn.known.request.pairs)) name b;
}
