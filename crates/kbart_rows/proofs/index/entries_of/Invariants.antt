use Rattle.std.proofs.Common.{◌≡◌, ℕ, ◌*◌, ◌<◌, ◌≤◌, ◌∷◌, [], drop, get_or, length, true}
use Rattle.std.specs.List.{Contains}
use Rattle.text_model.specs.Texts.{Text}
use Rattle.kbart_rows.specs.Identifiers.{has_identifier}
use Rattle.kbart_rows.specs.Private.Index.{AreSmall, entry_for}
use Rattle.kbart_rows.proofs.index.entries_of.Given as goal

-- each identifier of the rows so far has its entry
abbrev pub invariant-loop-row : goal.invariant-loop-row
invariant-loop-row l = record {
  has : (row : ℕ) (id : Text) → row < l.row → has_identifier (l.print ∷ l.online ∷ []) id (get_or (drop 1 l.lines) row []) ≡ true
      → Contains l.entries.items (entry_for l.keys row id);
  few : length l.entries.items ≤ 2 * l.row;
  small : AreSmall l.entries.items;
}
