-- A table after an edge is followed, whether its row changes or not; and the table at the start.
use Rattle.std.proofs.Common.{◌≡◌, ◌≢◌, ℕ, zero, suc, ◌<◌, ◌≤◌, List, [], ◌∷◌, length, get_or, set, replicate, Option, Some, None, Bool, true, false, refl, sym}
use Rattle.std.proofs.lemmas.Grind.{common_steps}
use Rattle.std.proofs.Common.{ap, ◌∙◌, subst, arith, length-set}
use Rattle.std.specs.Prelude.{option_map}
use Rattle.code_model.specs.Code.{Code}
use Rattle.machine_model.specs.declared.kind.Kind.{Kind}
use Rattle.machine_model.specs.declared.kind.Kind.TheVariants.{Any}
use Rattle.machine_model.specs.Kinds.{any_kinds, kind_join, edge}
use Rattle.machine_model.specs.Typable.{Table}
use Rattle.verifier.specs.declared.row.Row.{Row}
use Rattle.verifier.specs.Private.Rows.{kinds_of, table_of}
use Rattle.verifier.specs.Private.Walks.{Follows, IsSameBefore, IsClosedBefore, IsBelowClosed, Continues, Rises, row_rises, place_rises}
use Rattle.verifier.proofs.KindRises.{row_rises_few, table_rises_set}
use Rattle.verifier.proofs.Rowed.{Arrives, follows_one, arrives_first, arrives_joined, table_here, table_other}

module _ (rows : List (Option Row)) (to : ℕ) (row : Row) where
  pub written_same : (n : ℕ) → n ≤ to → IsSameBefore n (table_of rows) (table_of (set rows to (Some row)))
  written_same n le q lt = let ne : q ≢ to = omega arith in table_other rows to row q ne

  pub written_on : (next n : ℕ) → to < length rows → row_rises row.kinds < place_rises (get_or rows to None) → n ≤ next
      → Continues next n rows (set rows to (Some row))
  written_on next n lt less le = grind (arith, length-set, table_rises_set)

  pub first_follows : to < length rows → get_or rows to None ≡ None → Follows (edge to (kinds_of row) ∷ []) (table_of rows) (table_of (set rows to (Some row)))
  first_follows lt is =
      follows_one (table_of rows) (table_of (set rows to (Some row))) (edge to (kinds_of row)) (kinds_of row)
      (subst (λ o. Arrives (option_map kinds_of o) (kinds_of row) (kinds_of row)) (sym is) (arrives_first (kinds_of row)))
      (table_here rows to row lt) (table_other rows to row)

  pub first_rises : get_or rows to None ≡ None → length row.kinds ≡ 64 → row_rises row.kinds < place_rises (get_or rows to None)
  first_rises is long = subst (λ o. row_rises row.kinds < place_rises o) (sym is) (omega (arith, row_rises_few row.kinds, long))

  pub more_follows : (known other : Row) → to < length rows → get_or rows to None ≡ Some known
      → ((r : ℕ) → get_or row.kinds r Any ≡ kind_join (get_or known.kinds r Any) (get_or other.kinds r Any))
      → Follows (edge to (kinds_of other) ∷ []) (table_of rows) (table_of (set rows to (Some row)))
  more_follows known other lt is j =
      follows_one (table_of rows) (table_of (set rows to (Some row))) (edge to (kinds_of other)) (kinds_of row)
      (subst (λ o. Arrives (option_map kinds_of o) (kinds_of other) (kinds_of row)) (sym is)
      (arrives_joined (kinds_of known) (kinds_of other) (kinds_of row) j))
      (table_here rows to row lt) (table_other rows to row)

  pub more_rises : (known : Row) → get_or rows to None ≡ Some known → row_rises row.kinds < row_rises known.kinds
      → row_rises row.kinds < place_rises (get_or rows to None)
  more_rises known is less = subst (λ o. row_rises row.kinds < place_rises o) (sym is) less

-- the place already has kinds at or above those of the edge
pub kept_follows : (rows : List (Option Row)) (to : ℕ) (known other : Row) → get_or rows to None ≡ Some known
    → ((r : ℕ) → get_or known.kinds r Any ≡ kind_join (get_or known.kinds r Any) (get_or other.kinds r Any))
    → Follows (edge to (kinds_of other) ∷ []) (table_of rows) (table_of rows)
kept_follows rows to known other is j =
    follows_one (table_of rows) (table_of rows) (edge to (kinds_of other)) (kinds_of known)
    (subst (λ o. Arrives (option_map kinds_of o) (kinds_of other) (kinds_of known)) (sym is)
    (arrives_joined (kinds_of known) (kinds_of other) (kinds_of known) j))
    (ap (option_map kinds_of) is) (λ q ne. refl)

pub kept_join : (rose : Bool) (olds others news : List Kind) → rose ≡ false → Rises row_rises rose olds news
    → ((r : ℕ) → get_or news r Any ≡ kind_join (get_or olds r Any) (get_or others r Any)) → (r : ℕ)
    → get_or olds r Any ≡ kind_join (get_or olds r Any) (get_or others r Any)
kept_join true olds others news e h j r = absurd (cc)
kept_join false olds others news e h j r = sym (ap (λ ks. get_or ks r Any) h) ∙ j r

pub risen : (rose : Bool) (olds news : List Kind) → rose ≡ true → Rises row_rises rose olds news → row_rises news < row_rises olds
risen true olds news e h = h
risen false olds news e h = absurd (cc)

pub same_both : (n m : ℕ) (t u v : Table) → m ≤ n → IsSameBefore n t u → IsSameBefore m u v → IsSameBefore m t v
same_both n m t u v le a b q lt = b q lt ∙ a q (omega arith)

pub on_both : (from next to : ℕ) (t u v : List (Option Row)) → Continues from next t u → Continues next to u v → Continues from to t v
on_both from next to t u v a b = grind (arith, common_steps)

-- ---- the table at the start

abbrev nothing : Option Row
nothing = None

none_at : (n p : ℕ) → get_or (replicate n nothing) p nothing ≡ nothing
none_at zero p = refl
none_at (suc n) zero = refl
none_at (suc n) (suc p) = none_at n p

module _ (c : Code) (n : ℕ) (rows : List (Option Row)) (row : Row) (some : 0 < n) (e : rows ≡ set (replicate n None) 0 (Some row))
    (any : kinds_of row ≡ any_kinds) where
  at_first : (n : ℕ) → 0 < n → table_of (set (replicate n None) 0 (Some row)) 0 ≡ Some (kinds_of row)
  at_first zero lt = absurd (omega arith)
  at_first (suc n) lt = refl

  at_other : (n p : ℕ) → table_of (set (replicate n None) 0 (Some row)) (suc p) ≡ None
  at_other zero p = refl
  at_other (suc n) p = ap (option_map kinds_of) (none_at n p)

  first_is : table_of rows 0 ≡ Some any_kinds
  first_is = ap (λ x. table_of x 0) e ∙ at_first n some ∙ ap Some any

  pub start_closed : IsClosedBefore c 0 (table_of rows)
  start_closed = record { first = (any_kinds, first_is, record { at = λ r. refl }); along = λ p ks lt. absurd (omega arith) }

  pub start_below : IsBelowClosed c (table_of rows)
  start_below u closed zero ks known = (any_kinds, closed.first, record { at = λ r. refl })
  start_below u closed (suc p) ks known = let none : None ≡ Some ks = sym (ap (λ x. table_of x (suc p)) e ∙ at_other n p) ∙ known in absurd (cc)
