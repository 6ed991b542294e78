-- Searches of targets, from the first row to the last.
use Rattle.std.proofs.Common.{◌≡◌, ℕ, ◌+◌, List, [], ◌∷◌, ◌++◌, Option, Some, None, Bool, true, false, refl, sym, ap, ◌∙◌, arith, length, map, take}
use Rattle.std.proofs.Common.{drop}
use Rattle.std.specs.Prelude.{◌||◌, is_some, if◌then◌else◌}
use Rattle.std.specs.List.{list_any}
use Rattle.std.proofs.lemmas.List.{length-map}
use Rattle.text_model.proofs.Lists.{written_back}
use Rattle.kev_read.specs.Pairs.{KeyValue}
use Rattle.kbart_rows.specs.Identifiers.{first_from}
use Rattle.menu.specs.Links.{is_link}
use Rattle.menu.specs.Entries.{MenuEntry}
use Rattle.menu.specs.declared.entry.Resolution.{Resolution}
use Rattle.menu.specs.declared.entry.Resolution.TheVariants.{NoRow}
use Rattle.row_scope.specs.RequestValues.{RequestValue}
use Rattle.registry.specs.Targets.{TargetValue}
use Rattle.registry.specs.Entries.{entry_of, matching_rows_of, menu_of, resolution_from, resolution_of, resolution_of_row}
use Rattle.link_menu.specs.Private.Searches.{SearchValue, entry_so_far, is_open, started, after_next_row, after_row_at}

-- ---- the resolution that a search ends with

-- the resolution after a row with this resolution
abbrev pub resolution_after : List KeyValue → TargetValue → ℕ → Resolution → Resolution
resolution_after pairs target row resolution = if is_link resolution then resolution else resolution_from target pairs (row + 1) resolution

abbrev pub resolution_at : List KeyValue → TargetValue → Resolution → Option ℕ → Resolution
resolution_at pairs target so_far None = so_far
resolution_at pairs target so_far (Some row) = resolution_after pairs target row (resolution_of_row target pairs row)

abbrev pub entry_in_the_end : SearchValue → MenuEntry
entry_in_the_end s = record { name = s.target.name; resolution = resolution_at s.requested.pairs s.target s.resolution s.next }

-- ---- rows in order

abbrev pub Begins : Type 0
Begins = (target : TargetValue) (pairs : List KeyValue) → resolution_of target pairs ≡ resolution_from target pairs 0 NoRow

abbrev pub NoMore : Type 0
NoMore =
    (target : TargetValue) (pairs : List KeyValue) (from : ℕ) (so_far : Resolution)
    → first_from from (matching_rows_of target pairs) ≡ None → resolution_from target pairs from so_far ≡ so_far

abbrev pub AtLink : Type 0
AtLink =
    (target : TargetValue) (pairs : List KeyValue) (from row : ℕ) (so_far : Resolution)
    → first_from from (matching_rows_of target pairs) ≡ Some row → is_link (resolution_of_row target pairs row) ≡ true
    → resolution_from target pairs from so_far ≡ resolution_of_row target pairs row

abbrev pub PastNoLink : Type 0
PastNoLink =
    (target : TargetValue) (pairs : List KeyValue) (from row : ℕ) (so_far : Resolution)
    → first_from from (matching_rows_of target pairs) ≡ Some row → is_link (resolution_of_row target pairs row) ≡ false
    → resolution_from target pairs from so_far ≡ resolution_from target pairs (row + 1) (resolution_of_row target pairs row)

module _ (begins : Begins) (no_more : NoMore) (at_link : AtLink) (past_no_link : PastNoLink) where
  from_next : (pairs : List KeyValue) (target : TargetValue) (from : ℕ) (so_far : Resolution)
      → resolution_at pairs target so_far (first_from from (matching_rows_of target pairs)) ≡ resolution_from target pairs from so_far
  from_next pairs target from so_far = by_next (first_from from (matching_rows_of target pairs)) refl
    where
      by_link : (row : ℕ) (b : Bool) → first_from from (matching_rows_of target pairs) ≡ Some row → is_link (resolution_of_row target pairs row) ≡ b
          → (if b then resolution_of_row target pairs row else resolution_from target pairs (row + 1) (resolution_of_row target pairs row))
          ≡ resolution_from target pairs from so_far
      by_link row true next is = sym (at_link target pairs from row so_far next is)
      by_link row false next is = sym (past_no_link target pairs from row so_far next is)

      by_next : (next : Option ℕ) → first_from from (matching_rows_of target pairs) ≡ next → resolution_at pairs target so_far next
          ≡ resolution_from target pairs from so_far
      by_next None is = sym (no_more target pairs from so_far is)
      by_next (Some row) is = by_link row (is_link (resolution_of_row target pairs row)) is refl

  -- trying a row does not change the outcome of a search
  tried_ends_with : (s : SearchValue) → entry_in_the_end (after_next_row s) ≡ entry_in_the_end s
  tried_ends_with s = by_next s.next refl
    where
      by_link : (row : ℕ) (resolution : Resolution) (b : Bool)
          → resolution_at s.requested.pairs s.target resolution (if b then None else first_from (row + 1) (matching_rows_of s.target s.requested.pairs))
          ≡ (if b then resolution else resolution_from s.target s.requested.pairs (row + 1) resolution)
      by_link row resolution true = refl
      by_link row resolution false = from_next s.requested.pairs s.target (row + 1) resolution

      by_next : (next : Option ℕ) → s.next ≡ next
          → entry_in_the_end (after_row_at s next) ≡ record { name = s.target.name; resolution = resolution_at s.requested.pairs s.target s.resolution next }
      by_next None is = ap (λ next. record { name = s.target.name; resolution = resolution_at s.requested.pairs s.target s.resolution next }) is
      by_next (Some row) is =
          let resolution = resolution_of_row s.target s.requested.pairs row in
          ap (λ r. record { name = s.target.name; resolution = r }) (by_link row resolution (is_link resolution))

  pub menu_at_start : (requested : RequestValue) (targets : List TargetValue)
      → map entry_in_the_end (map (started requested) targets) ≡ menu_of targets requested.pairs
  menu_at_start requested [] = refl
  menu_at_start requested (target ∷ targets) =
      let resolution = from_next requested.pairs target 0 NoRow ∙ sym (begins target requested.pairs) in
      ap (λ r. record { name = target.name; resolution = r } ∷ map entry_in_the_end (map (started requested) targets)) resolution
      ∙ ap (λ entries. entry_of target requested.pairs ∷ entries) (menu_at_start requested targets)

  pub menu_after_round : (searches : List SearchValue) → map entry_in_the_end (map after_next_row searches) ≡ map entry_in_the_end searches
  menu_after_round [] = refl
  menu_after_round (s ∷ searches) =
      ap (λ entry. entry ∷ map entry_in_the_end (map after_next_row searches)) (tried_ends_with s)
      ∙ ap (λ entries. entry_in_the_end s ∷ entries) (menu_after_round searches)

-- if no search is open, all searches have their outcomes
pub menu_at_end : (searches : List SearchValue) → list_any is_open searches ≡ false → map entry_in_the_end searches ≡ map entry_so_far searches
menu_at_end [] none = refl
menu_at_end (s ∷ searches) none = by_next s.next (menu_at_end searches) none
  where
    by_next : (next : Option ℕ) → (list_any is_open searches ≡ false → map entry_in_the_end searches ≡ map entry_so_far searches)
        → (is_some next || list_any is_open searches) ≡ false
        → (record { name = s.target.name; resolution = resolution_at s.requested.pairs s.target s.resolution next } ∷ map entry_in_the_end searches)
        ≡ map entry_so_far (s ∷ searches)
    by_next None rest none = ap (λ entries. entry_so_far s ∷ entries) (rest none)
    by_next (Some row) rest none = absurd (grind (arith, none))

-- ---- the searches after a round

pub all_written_back : (old slice new : List SearchValue) (len : ℕ) → slice ≡ old → length slice ≡ len
    → new ≡ map after_next_row slice → take len (new ++ drop (length new) old) ≡ map after_next_row old
all_written_back old slice new len are long is =
    let all : new ≡ map after_next_row old = is ∙ ap (map after_next_row) are in
    written_back new old len (sym (ap length are) ∙ long) (ap length all ∙ length-map old after_next_row) ∙ all
