-- Passes along all edges stay at or below every closed table, so if their table is closed, it is the least.
use Rattle.std.proofs.Common.{◌≡◌, ℕ, zero, suc, ◌-◌, ◌<◌, ◌≤◌, List, [], ◌∷◌, length, Option, Some, None, true, refl, sym, ap, ◌∙◌, subst, arith, ⊎_elim}
use Rattle.std.specs.Prelude.{option_map}
use Rattle.std.specs.List.{list_all, AllByRecursion}
use Rattle.std.proofs.lemmas.Bool.{and_parts, cases_lt}
use Rattle.std.proofs.lemmas.Option.{same_Some, slice_get_past}
use Rattle.std.proofs.lemmas.Grind.{common_steps}
use Rattle.code_model.specs.Code.{Code, reading_at}
use Rattle.code_model.specs.declared.code.Instruction.{Instruction}
use Rattle.machine_model.specs.declared.kind.Kind.{Kind}
use Rattle.machine_model.specs.declared.kind.Kind.TheVariants.{Any}
use Rattle.machine_model.specs.Operands.{register_count}
use Rattle.machine_model.specs.Form.{body_at, HasGoodForm}
use Rattle.machine_model.specs.Kinds.{kind_le, kind_join, Kinds, any_kinds, IsBelow, Edge, edge, edges, for_instruction, edges_at}
use Rattle.machine_model.specs.Typable.{Table, Holds, IsClosed, TableBelow, IsLeast}
use Rattle.machine_model.specs.Passes.{Row, kinds_in, listed, row_join, is_within, Rows, row_at, table_in, arrived, carried, carried_all, edges_from, followed}
use Rattle.machine_model.specs.Passes.{pass, none_reached, first_rows, passes, is_covered, is_reached, is_closed}
use Rattle.machine_model.proofs.Orders.{kind_join-least, below_trans, EdgesBelow, edges_below}
use Rattle.machine_laws.proofs.Registers.{IsAnyFrom, EdgeAny, edges_at_any}

-- ---- rows

listed_kinds : (n : ℕ) (ks : Kinds) (r : ℕ) → IsAnyFrom n ks → kinds_in (listed n ks) r ≡ ks r
unfolding listed
listed_kinds zero ks r h = sym (h.at r (omega arith))
listed_kinds (suc n) ks zero h = refl
listed_kinds (suc n) ks (suc r) h = listed_kinds n (λ q. ks (suc q)) r (record { at = λ q le. h.at (suc q) (omega (arith, le)) })

join_any : (k : Kind) → kind_join Any k ≡ Any
join_any k = grind (arith, common_steps)

joined_kinds : (row : Row) (ks : Kinds) (r : ℕ) → kinds_in (row_join row ks) r ≡ kind_join (kinds_in row r) (ks r)
unfolding row_join
joined_kinds [] ks r = sym (join_any (ks r))
joined_kinds (k ∷ row) ks zero = refl
joined_kinds (k ∷ row) ks (suc r) = joined_kinds row (λ q. ks (suc q)) r

within_below : (ks : Kinds) (row : Row) (r : ℕ) → is_within ks row ≡ true → kind_le (ks r) (kinds_in row r) ≡ true
unfolding is_within
within_below ks [] r h = refl
within_below ks (k ∷ row) zero h = (and_parts (kind_le (ks 0) k) _ h).0
within_below ks (k ∷ row) (suc r) h = within_below (λ q. ks (suc q)) row r (and_parts (kind_le (ks 0) k) _ h).1

-- ---- a property of all rows of a table also holds after an edge

-- each row has the property
abbrev AllRows : (ℕ → Row → Type 0) → Rows → Type 0
AllRows P rows = (p : ℕ) (row : Row) → row_at rows p ≡ Some row → P p row

-- the row of a place after an edge has the property, if it had it before
abbrev Arrives : (ℕ → Row → Type 0) → ℕ → ℕ → Kinds → Type 0
Arrives P n to ks = (o : Option Row) → ((row : Row) → o ≡ Some row → P to row) → P to (arrived n ks o)

carried_keeps : (P : ℕ → Row → Type 0) (n to : ℕ) (ks : Kinds) (rows : Rows) → AllRows P rows → Arrives P n to ks → AllRows P (carried n to ks rows)
unfolding carried
carried_keeps P n to ks [] all a p row e = all p row e
carried_keeps P n zero ks (o ∷ rows) all a zero row e = subst (P 0) (same_Some _ _ e) (a o (all 0))
carried_keeps P n zero ks (o ∷ rows) all a (suc p) row e = all (suc p) row e
carried_keeps P n (suc to) ks (o ∷ rows) all a zero row e = all 0 row e
carried_keeps P n (suc to) ks (o ∷ rows) all a (suc p) row e = carried_keeps (λ q. P (suc q)) n to ks rows (λ q x h. all (suc q) x h) a p row e

all_carried : (P : ℕ → Row → Type 0) (n : ℕ) (es : List Edge) (rows : Rows) → AllRows P rows → AllByRecursion (λ (e : Edge). Arrives P n e.to e.kinds) es
    → AllRows P (carried_all n es rows)
all_carried P n [] rows all a = all
all_carried P n (e ∷ es) rows all a = all_carried P n es (carried n e.to e.kinds rows) (carried_keeps P n e.to e.kinds rows all a.0) a.1

-- ---- at or below a closed table

module _ (c : Code) (form : HasGoodForm c) (u : Table) (closed : IsClosed c u) where
  -- nothing is known past the registers, and the row is at or below that of the table
  abbrev IsBelowAt : ℕ → Row → Type 0
  IsBelowAt p row = IsAnyFrom (register_count c) (kinds_in row) × ((ms : Kinds) × (u p ≡ Some ms) × IsBelow (kinds_in row) ms)

  holds_below : (es fs : List Edge) → EdgesBelow es fs → AllByRecursion (Holds u) fs → AllByRecursion (Holds u) es
  holds_below [] [] b h = tt
  holds_below (e ∷ es) (f ∷ fs) b h = ((h.0.0, ap u b.0 ∙ h.0.1, below_trans e.kinds f.kinds h.0.0 b.1 h.0.2), holds_below es fs b.2 h.1)
  holds_below _ _ b h = absurd b

  edges_hold : (p : ℕ) (ks ms : Kinds) → u p ≡ Some ms → IsBelow ks ms → AllByRecursion (Holds u) (edges_at c p ks)
  edges_hold p ks ms known b = by_reading (reading_at c p) (closed.along p ms known)
    where
      by_reading : (o : Option Instruction) → AllByRecursion (Holds u) (for_instruction o (edges p ms (body_at c p)))
          → AllByRecursion (Holds u) (for_instruction o (edges p ks (body_at c p)))
      by_reading None k = tt
      by_reading (Some i) k = holds_below (edges p ks (body_at c p) i) (edges p ms (body_at c p) i) (edges_below p ks ms (body_at c p) i b) k

  arrives : (e : Edge) → Holds u e → EdgeAny (register_count c) e → Arrives IsBelowAt (register_count c) e.to e.kinds
  arrives e h any None before = grind (arith, listed_kinds)
  arrives e h any (Some row) before =
      let l = before row refl in
      let there : l.1.0 ≡ h.0 = same_Some _ _ (sym l.1.1 ∙ h.1) in
      let below : IsBelow (kinds_in row) h.0 = subst (IsBelow (kinds_in row)) there l.1.2 in (
        record { at = λ r le. joined_kinds row e.kinds r ∙ ap (λ k. kind_join k (e.kinds r)) (l.0.at r le) ∙ join_any (e.kinds r) },
        (h.0, h.1, record { at = λ r. rw (joined_kinds row e.kinds r) (kind_join-least (kinds_in row r) (e.kinds r) (h.0 r) (below.at r) (h.2.at r)) }),
      )

  all_arrive : (es : List Edge) → AllByRecursion (Holds u) es → AllByRecursion (EdgeAny (register_count c)) es
      → AllByRecursion (λ (e : Edge). Arrives IsBelowAt (register_count c) e.to e.kinds) es
  all_arrive [] h a = tt
  all_arrive (e ∷ es) h a = (arrives e h.0 a.0, all_arrive es h.1 a.1)

  follows : (p : ℕ) (rows : Rows) → AllRows IsBelowAt rows → AllRows IsBelowAt (followed c p rows)
  follows p rows all = all_carried IsBelowAt (register_count c) (edges_from c p (row_at rows p)) rows all (by_row (row_at rows p) (all p))
    where
      by_row : (o : Option Row) → ((row : Row) → o ≡ Some row → IsBelowAt p row)
          → AllByRecursion (λ (e : Edge). Arrives IsBelowAt (register_count c) e.to e.kinds)
          (edges_from c p o)
      by_row None l = tt
      by_row (Some row) l =
          let here = l row refl in
          all_arrive (edges_at c p (kinds_in row)) (edges_hold p (kinds_in row) here.1.0 here.1.1 here.1.2) (edges_at_any c form p (kinds_in row) here.0)

  pass_below : (n : ℕ) (rows : Rows) → AllRows IsBelowAt rows → AllRows IsBelowAt (pass c n rows)
  unfolding pass
  pass_below zero rows all = all
  pass_below (suc p) rows all = follows p (pass c p rows) (pass_below p rows all)

  none_there : (n p : ℕ) (row : Row) → row_at (none_reached n) p ≡ Some row → ⊥
  unfolding none_reached
  none_there zero p row e = absurd (cc)
  none_there (suc n) zero row e = absurd (cc)
  none_there (suc n) (suc p) row e = none_there n p row e

  first_below : AllRows IsBelowAt (first_rows c)
  first_below zero row e = grind (arith, listed_kinds)
  first_below (suc p) row e = absurd (none_there (length c.instrs - 1) p row e)

  passes_stay_below : (n : ℕ) → AllRows IsBelowAt (passes c n)
  unfolding passes
  passes_stay_below zero = first_below
  passes_stay_below (suc n) = pass_below (length c.instrs) (passes c n) (passes_stay_below n)

  -- the table that passes find is at or below every closed table
  pub passes_below : (n : ℕ) → TableBelow (table_in (passes c n)) u
  passes_below n p ks known = by_row (row_at (passes c n) p) (passes_stay_below n p) known
    where
      by_row : (o : Option Row) → ((row : Row) → o ≡ Some row → IsBelowAt p row) → option_map kinds_in o ≡ Some ks → (ms : Kinds) × (u p ≡ Some ms)
          × IsBelow ks ms
      by_row None l e = absurd (cc)
      by_row (Some row) l e = let here = l row refl in subst (λ k. (ms : Kinds) × (u p ≡ Some ms) × IsBelow k ms) (same_Some _ _ e) here.1

-- ---- closed

module _ (c : Code) (rows : Rows) where
  covered : (ks : Kinds) (o : Option Row) → is_covered ks o ≡ true → (ms : Kinds) × (option_map kinds_in o ≡ Some ms) × IsBelow ks ms
  covered ks None h = absurd (cc)
  covered ks (Some row) h = (kinds_in row, refl, record { at = λ r. within_below ks row r h })

  all_hold : (es : List Edge) → list_all (is_reached rows) es ≡ true → AllByRecursion (Holds (table_in rows)) es
  all_hold [] h = tt
  all_hold (e ∷ es) h =
      let both = and_parts (is_reached rows e) (list_all (is_reached rows) es) h in
      (covered e.kinds (row_at rows e.to) both.0, all_hold es both.1)

  first_closed : (n : ℕ) → is_closed c n rows ≡ true → is_reached rows (edge 0 any_kinds) ≡ true
  unfolding is_closed
  first_closed zero h = h
  first_closed (suc n) h = first_closed n (and_parts (is_closed c n rows) _ h).0

  closed_at : (n p : ℕ) → is_closed c n rows ≡ true → p < n → list_all (is_reached rows) (edges_from c p (row_at rows p)) ≡ true
  unfolding is_closed
  closed_at zero p h lt = absurd (omega arith)
  closed_at (suc n) p h lt =
      let both = and_parts (is_closed c n rows) _ h in
      ⊎_elim (closed_at n p both.0) (λ le. let e : n ≡ p = omega arith in subst (λ q. list_all (is_reached rows) (edges_from c q (row_at rows q)) ≡ true) e
      both.1) (cases_lt p n)

  above_any : (k : Kind) → kind_le Any k ≡ true → k ≡ Any
  above_any k h = grind (arith, common_steps)

  pub closed_rows : is_closed c (length c.instrs) rows ≡ true → IsClosed c (table_in rows)
  closed_rows h = record { first = starts; along = along }
    where
      starts : table_in rows 0 ≡ Some any_kinds
      starts = grind (arith, covered, first_closed, above_any)

      along : (p : ℕ) (ks : Kinds) → table_in rows p ≡ Some ks → AllByRecursion (Holds (table_in rows)) (edges_at c p ks)
      along p ks known = ⊎_elim within past (cases_lt p (length c.instrs))
        where
          by_row : (o : Option Row) → option_map kinds_in o ≡ Some ks → list_all (is_reached rows) (edges_from c p o) ≡ true
              → AllByRecursion (Holds (table_in rows)) (edges_at c p ks)
          by_row o e k = grind (arith, all_hold)

          within : p < length c.instrs → AllByRecursion (Holds (table_in rows)) (edges_at c p ks)
          within lt = by_row (row_at rows p) known (closed_at (length c.instrs) p h lt)

          past : length c.instrs ≤ p → AllByRecursion (Holds (table_in rows)) (edges_at c p ks)
          past le = grind (arith, slice_get_past)

-- if the table that passes find is closed, it is the least table
pub passes_least : (c : Code) → HasGoodForm c → (n : ℕ) → is_closed c (length c.instrs) (passes c n) ≡ true → IsLeast c (table_in (passes c n))
passes_least c form n h = record { closed = closed_rows c (passes c n) h; least = λ u closed. passes_below c form u closed n }
