-- A way to compute tables of kinds: kinds are joined along all edges, in pass after pass. The result is at or below every closed table, so if it is closed, it
-- is the least one.
use Rattle.std.specs.Prelude.{ℕ, zero, suc, ◌-◌, List, [], ◌∷◌, Option, Some, None, option_map, option_and_then, Bool, true, false, ◌&&◌, length, slice_get}
use Rattle.std.specs.Prelude.{slice_index_or}
use Rattle.std.specs.List.{list_all}
use Rattle.code_model.specs.Code.{Code}
use Rattle.machine_model.specs.declared.kind.Kind.{Kind}
use Rattle.machine_model.specs.declared.kind.Kind.TheVariants.{Any}
use Rattle.machine_model.specs.First.{Located}
use Rattle.machine_model.specs.Operands.{register_count}
use Rattle.machine_model.specs.Kinds.{kind_le, kind_join, Kinds, any_kinds, Edge, edge, edges_at}
use Rattle.machine_model.specs.Typable.{Table}
use Rattle.machine_model.specs.Mismatch.{first_mismatch}

-- ---- the kinds of the registers that a code may name

abbrev pub Row : Type 0
Row = List Kind

-- nothing is known about registers past the end of a row
abbrev pub kinds_in : Row → Kinds
kinds_in row r = slice_index_or row r Any

-- the kinds of the first n registers
unfoldable pub listed : ℕ → Kinds → Row
listed zero ks = []
listed (suc n) ks = ks 0 ∷ listed n (λ r. ks (suc r))

unfoldable pub row_join : Row → Kinds → Row
row_join [] ks = []
row_join (k ∷ row) ks = kind_join k (ks 0) ∷ row_join row (λ r. ks (suc r))

-- kinds are at or below those of a row
unfoldable pub is_within : Kinds → Row → Bool
is_within ks [] = true
is_within ks (k ∷ row) = kind_le (ks 0) k && is_within (λ r. ks (suc r)) row

-- ---- a row for each place that an edge has reached

abbrev pub Rows : Type 0
Rows = List (Option Row)

abbrev pub row_at : Rows → ℕ → Option Row
row_at rows p = option_and_then (λ o. o) (slice_get rows p)

abbrev pub table_in : Rows → Table
table_in rows p = option_map kinds_in (row_at rows p)

abbrev pub arrived : ℕ → Kinds → Option Row → Row
arrived n ks None = listed n ks
arrived n ks (Some row) = row_join row ks

-- the kinds of an edge to a place are joined with the row of that place
unfoldable pub carried : ℕ → ℕ → Kinds → Rows → Rows
carried n to ks [] = []
carried n zero ks (o ∷ rows) = Some (arrived n ks o) ∷ rows
carried n (suc to) ks (o ∷ rows) = o ∷ carried n to ks rows

abbrev pub carried_all : ℕ → List Edge → Rows → Rows
carried_all n [] rows = rows
carried_all n (e ∷ es) rows = carried_all n es (carried n e.to e.kinds rows)

abbrev pub edges_from : Code → ℕ → Option Row → List Edge
edges_from c p None = []
edges_from c p (Some row) = edges_at c p (kinds_in row)

abbrev pub followed : Code → ℕ → Rows → Rows
followed c p rows = carried_all (register_count c) (edges_from c p (row_at rows p)) rows

-- the rows after the edges of the places below n, in rising order
unfoldable pub pass : Code → ℕ → Rows → Rows
pass c zero rows = rows
pass c (suc p) rows = followed c p (pass c p rows)

unfoldable pub none_reached : ℕ → Rows
none_reached zero = []
none_reached (suc n) = None ∷ none_reached n

-- only place 0 has a row, in which nothing is known about any register
abbrev pub first_rows : Code → Rows
first_rows c = Some (listed (register_count c) any_kinds) ∷ none_reached (length c.instrs - 1)

-- the rows after n passes along all edges
unfoldable pub passes : Code → ℕ → Rows
passes c zero = first_rows c
passes c (suc n) = pass c (length c.instrs) (passes c n)

-- ---- whether another pass would change nothing

abbrev pub is_covered : Kinds → Option Row → Bool
is_covered ks None = false
is_covered ks (Some row) = is_within ks row

-- an edge leads to a row at or above its kinds
abbrev pub is_reached : Rows → Edge → Bool
is_reached rows e = is_covered e.kinds (row_at rows e.to)

-- nothing is known at place 0, and each edge from a place below n leads to a row at or above its kinds
unfoldable pub is_closed : Code → ℕ → Rows → Bool
is_closed c zero rows = is_reached rows (edge 0 any_kinds)
is_closed c (suc p) rows = is_closed c p rows && list_all (is_reached rows) (edges_from c p (row_at rows p))

-- whether n passes find the least table, and the first mismatch in the table that they find
pub record Found : Type 0 where
  pub least : Bool
  pub mismatch : Option (Located ℕ)

abbrev pub found_in : Code → Rows → Found
found_in c rows = record { least = is_closed c (length c.instrs) rows; mismatch = first_mismatch c (table_in rows) }

abbrev pub found : Code → ℕ → Found
found c n = found_in c (passes c n)
