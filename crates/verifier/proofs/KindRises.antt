-- A kind that is joined with another rises, or is unchanged.
use Rattle.std.proofs.Common.{◌≡◌, ℕ, zero, suc, ◌+◌, ◌*◌, ◌<◌, ◌≤◌, List, [], ◌∷◌, length, get_or, set, Option, None, true, false, refl, arith}
use Rattle.machine_model.specs.declared.kind.Kind.{Kind}
use Rattle.machine_model.specs.declared.kind.Kind.TheVariants.{Any, OptText, Text as TextKind, List as ListKind, Number as NumberKind}
use Rattle.machine_model.specs.Kinds.{kind_le, kind_join}
use Rattle.verifier.specs.declared.row.Row.{Row}
use Rattle.verifier.specs.Private.Walks.{rises, row_rises, place_rises, table_rises}

-- joining with a kind at or below changes nothing
pub join_below : (k m : Kind) → kind_le m k ≡ true → kind_join k m ≡ k
join_below Any Any e = refl
join_below Any OptText e = refl
join_below Any TextKind e = refl
join_below Any ListKind e = refl
join_below Any NumberKind e = refl
join_below OptText OptText e = refl
join_below OptText TextKind e = refl
join_below TextKind TextKind e = refl
join_below ListKind ListKind e = refl
join_below NumberKind NumberKind e = refl
join_below _ _ e = absurd (cc)

one : 0 < 1
one = omega arith

two : 0 < 2
two = omega arith

step_down : 1 < 2
step_down = omega arith

pub join_rises : (k m : Kind) → kind_le m k ≡ false → rises (kind_join k m) < rises k
join_rises OptText Any e = one
join_rises OptText ListKind e = one
join_rises OptText NumberKind e = one
join_rises TextKind Any e = two
join_rises TextKind OptText e = step_down
join_rises TextKind ListKind e = two
join_rises TextKind NumberKind e = two
join_rises ListKind Any e = one
join_rises ListKind OptText e = one
join_rises ListKind TextKind e = one
join_rises ListKind NumberKind e = one
join_rises NumberKind Any e = one
join_rises NumberKind OptText e = one
join_rises NumberKind TextKind e = one
join_rises NumberKind ListKind e = one
join_rises _ _ e = absurd (cc)

rises_few : (k : Kind) → rises k ≤ 2
rises_few Any = omega arith
rises_few OptText = omega arith
rises_few TextKind = omega arith
rises_few ListKind = omega arith
rises_few NumberKind = omega arith

pub row_rises_few : (ks : List Kind) → row_rises ks ≤ 2 * length ks
unfolding row_rises
row_rises_few [] = omega arith
row_rises_few (k ∷ ks) = omega (arith, rises_few k, row_rises_few ks)

-- one kind of a row is replaced
pub row_rises_set : (ks : List Kind) (r : ℕ) (k : Kind) → r < length ks → row_rises (set ks r k) + rises (get_or ks r Any) ≡ row_rises ks + rises k
unfolding row_rises
row_rises_set [] r k lt = absurd (omega arith)
row_rises_set (m ∷ ks) zero k lt = omega arith
row_rises_set (m ∷ ks) (suc r) k lt = omega (arith, row_rises_set ks r k (omega arith))

-- the row of one place of a table is replaced
pub table_rises_set : (rows : List (Option Row)) (p : ℕ) (o : Option Row) → p < length rows → table_rises (set rows p o) + place_rises (get_or rows p None)
    ≡ table_rises rows + place_rises o
unfolding table_rises
table_rises_set [] p o lt = absurd (omega arith)
table_rises_set (x ∷ rows) zero o lt = omega arith
table_rises_set (x ∷ rows) (suc p) o lt = omega (arith, table_rises_set rows p o (omega arith))
