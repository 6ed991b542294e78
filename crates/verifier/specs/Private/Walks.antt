-- How a table of kinds grows while edges are followed.
use Rattle.std.specs.Prelude.{◌≡◌, ℕ, ◌+◌, ◌<◌, ◌≤◌, ◌⊎◌, List, [], ◌∷◌, Option, Some, None, Bool, true, false, length}
use Rattle.std.specs.List.{AllByRecursion}
use Rattle.code_model.specs.Code.{Code, reading_at}
use Rattle.code_model.specs.declared.code.Instruction.TheVariants.{Next}
use Rattle.machine_model.specs.declared.form.Body.{Body}
use Rattle.machine_model.specs.Form.{body_at}
use Rattle.machine_model.specs.declared.kind.Kind.{Kind}
use Rattle.machine_model.specs.declared.kind.Kind.TheVariants.{Any, OptText, Text as TextKind, List as ListKind, Number as NumberKind}
use Rattle.machine_model.specs.Kinds.{Kinds, any_kinds, Edge, edge, edges_at}
use Rattle.machine_model.specs.Typable.{Table, Holds, IsClosed, TableBelow}
use Rattle.verifier.specs.declared.row.Row.{Row}

-- ---- how often kinds can still rise

abbrev pub rises : Kind → ℕ
rises Any = 0
rises OptText = 1
rises TextKind = 2
rises ListKind = 1
rises NumberKind = 1

unfoldable pub row_rises : List Kind → ℕ
row_rises [] = 0
row_rises (k ∷ ks) = rises k + row_rises ks

-- the first kinds of a place are a rise too
abbrev pub place_rises : Option Row → ℕ
place_rises None = 129
place_rises (Some row) = row_rises row.kinds

unfoldable pub table_rises : List (Option Row) → ℕ
table_rises [] = 0
table_rises (o ∷ rows) = place_rises o + table_rises rows

-- if it has risen, it can rise fewer times from now on; if not, it is unchanged
abbrev pub Rises : {X : Type 0} → (X → ℕ) → Bool → X → X → Type 0
Rises left true old new = left new < left old
Rises left false old new = new ≡ old

-- ---- following edges

-- the edges hold in the new table, as does all that held before, and it is below each table in which they hold
pub record Follows (es : List Edge) (t new : Table) : Type 0 where
  pub held : AllByRecursion (Holds new) es
  pub kept : (e : Edge) → Holds t e → Holds new e
  pub below : (u : Table) → AllByRecursion (Holds u) es → TableBelow t u → TableBelow new u

-- all places but one are unchanged
abbrev pub IsSameAt : ℕ → Table → Table → Type 0
IsSameAt p t new = (q : ℕ) → (q ≡ p → ⊥) → new q ≡ t q

-- the places before this one are unchanged
abbrev pub IsSameBefore : ℕ → Table → Table → Type 0
IsSameBefore n t new = (q : ℕ) → q < n → new q ≡ t q

-- the edges of the places before this one hold
pub record IsClosedBefore (c : Code) (n : ℕ) (t : Table) : Type 0 where
  pub first : Holds t (edge 0 any_kinds)
  pub along : (p : ℕ) (ks : Kinds) → p < n → t p ≡ Some ks → AllByRecursion (Holds t) (edges_at c p ks)

-- the table is at or below every closed table
abbrev pub IsBelowClosed : Code → Table → Type 0
IsBelowClosed c t = (u : Table) → IsClosed c u → TableBelow t u

-- where the walk continues: at a later place, or back at a place where kinds rose
pub record Continues (from to : ℕ) (old new : List (Option Row)) : Type 0 where
  pub long : length new ≡ length old
  pub on : to ≤ from
  pub less : table_rises new ≤ table_rises old
  pub back : to < from → table_rises new < table_rises old

-- ---- where the walk continues

-- at the next place, or at the place of one of the edges if that is earlier
abbrev pub ContinuesAt : ℕ → List Edge → ℕ → Type 0
ContinuesAt next [] to = to ≡ next
ContinuesAt next (e ∷ es) to = ((to ≡ e.to) × (to < next)) ⊎ ContinuesAt next es to

-- NEXT at place p returns to this place, the first of its body
pub record IsReturn (c : Code) (p to : ℕ) : Type 0 where
  pub body : Body
  pub within : body_at c p ≡ Some body
  pub reads : reading_at c p ≡ Some Next
  pub head : to ≡ body.start
