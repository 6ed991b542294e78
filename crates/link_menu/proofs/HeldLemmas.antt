-- Targets without a row of the title: they take part in no round, and their entries have no row.
use Rattle.std.proofs.Common.{◌≡◌, ℕ, zero, suc, List, [], ◌∷◌, ◌++◌, Option, Bool, true, false, refl, sym, ap, ◌∙◌, arith}
use Rattle.std.proofs.Common.{length, map}
use Rattle.std.specs.Prelude.{if◌then◌else◌, is_some, max, option_and_then, slice_get}
use Rattle.std.specs.List.{cons_option}
use Rattle.std.proofs.lemmas.Bool.{false≢true}
use Rattle.std.proofs.lemmas.Simd.{map-map}
use Rattle.kev_read.specs.Pairs.{KeyValue}
use Rattle.menu.specs.declared.entry.Resolution.TheVariants.{NoRow}
use Rattle.registry.specs.Targets.{TargetValue}
use Rattle.registry.specs.Entries.{chosen, entry_of, matching_rows_of, menu_of, resolution_of, resolution_of_row}
use Rattle.interleaved_runs.specs.StepLists.{step_lists_to_end}
use Rattle.link_menu.specs.RowsByRound.{ends_in_round, longest, rounds_of, step_lists_in_all_rounds, step_lists_in_rounds, steps_of_row}
use Rattle.link_menu.specs.RowsByRound.{tried_rows, up_to_link}
use Rattle.link_menu.specs.Private.Held.{entries_with, has_row, held}
use Rattle.link_menu.specs.Private.Searches.{SearchValue, entry_so_far}

max_none : (n : ℕ) → max 0 n ≡ n
max_none n = omega arith

module _ (pairs : List KeyValue) where
  none_tried : (target : TargetValue) → has_row pairs target ≡ false → tried_rows target pairs ≡ []
  none_tried target none = by_rows (matching_rows_of target pairs) none
    where
      by_rows : (rows : List ℕ) → is_some (slice_get rows 0) ≡ false → up_to_link target pairs rows ≡ []
      by_rows [] none = refl
      by_rows (row ∷ rows) none = absurd (false≢true (sym none))

  no_row : (target : TargetValue) → has_row pairs target ≡ false → resolution_of target pairs ≡ NoRow
  no_row target none = by_rows (matching_rows_of target pairs) none
    where
      by_rows : (rows : List ℕ) → is_some (slice_get rows 0) ≡ false → chosen NoRow (map (resolution_of_row target pairs) rows) ≡ NoRow
      by_rows [] none = refl
      by_rows (row ∷ rows) none = absurd (false≢true (sym none))

  -- ---- rounds

  same_rounds : (targets : List TargetValue) → rounds_of (held pairs targets) pairs ≡ rounds_of targets pairs
  unfolding longest
  same_rounds [] = refl
  same_rounds (target ∷ targets) = by_row (has_row pairs target) refl (same_rounds targets)
    where
      by_row : (b : Bool) → has_row pairs target ≡ b → rounds_of (held pairs targets) pairs ≡ rounds_of targets pairs
          → rounds_of (if b then target ∷ held pairs targets else held pairs targets) pairs ≡ rounds_of (target ∷ targets) pairs
      by_row true is rest = ap (max (length (tried_rows target pairs))) rest
      by_row false is rest =
          rest ∙ sym (max_none (rounds_of targets pairs)) ∙ ap (λ rows. max (length rows) (rounds_of targets pairs)) (sym (none_tried target is))

  same_ends : (k : ℕ) (targets : List TargetValue) → ends_in_round k (held pairs targets) pairs ≡ ends_in_round k targets pairs
  same_ends k [] = refl
  same_ends k (target ∷ targets) = by_row (has_row pairs target) refl (same_ends k targets)
    where
      end_of : List ℕ → Option ℕ
      end_of rows = option_and_then (steps_of_row target pairs) (slice_get rows k)

      by_row : (b : Bool) → has_row pairs target ≡ b → ends_in_round k (held pairs targets) pairs ≡ ends_in_round k targets pairs
          → ends_in_round k (if b then target ∷ held pairs targets else held pairs targets) pairs ≡ ends_in_round k (target ∷ targets) pairs
      by_row true is rest = ap (cons_option (end_of (tried_rows target pairs))) rest
      by_row false is rest = rest ∙ ap (λ rows. cons_option (end_of rows) (ends_in_round k targets pairs)) (sym (none_tried target is))

  same_lists : (k : ℕ) (targets : List TargetValue) → step_lists_in_rounds k (held pairs targets) pairs ≡ step_lists_in_rounds k targets pairs
  unfolding step_lists_in_rounds
  same_lists zero targets = refl
  same_lists (suc k) targets =
      ap (λ lists. lists ++ step_lists_to_end (ends_in_round k (held pairs targets) pairs)) (same_lists k targets)
      ∙ ap (λ ends. step_lists_in_rounds k targets pairs ++ step_lists_to_end ends) (same_ends k targets)

  pub same_step_lists : (targets : List TargetValue) → step_lists_in_all_rounds (held pairs targets) pairs ≡ step_lists_in_all_rounds targets pairs
  same_step_lists targets =
      ap (λ k. step_lists_in_rounds k (held pairs targets) pairs) (same_rounds targets) ∙ same_lists (rounds_of targets pairs) targets

  -- ---- entries

  whole_menu : (targets : List TargetValue)
      → entries_with targets (map (has_row pairs) targets) (map (λ target. resolution_of target pairs) (held pairs targets)) ≡ menu_of targets pairs
  whole_menu [] = refl
  whole_menu (target ∷ targets) = by_row (has_row pairs target) refl (whole_menu targets)
    where
      by_row : (b : Bool) → has_row pairs target ≡ b
          → entries_with targets (map (has_row pairs) targets) (map (λ target. resolution_of target pairs) (held pairs targets)) ≡ menu_of targets pairs
          → entries_with (target ∷ targets) (b ∷ map (has_row pairs) targets)
          (map (λ target. resolution_of target pairs) (if b then target ∷ held pairs targets else held pairs targets))
          ≡ menu_of (target ∷ targets) pairs
      by_row true is rest = ap (λ entries. entry_of target pairs ∷ entries) rest
      by_row false is rest =
          ap (λ entries. record { name = target.name; resolution = NoRow } ∷ entries) rest
          ∙ ap (λ resolution. record { name = target.name; resolution = resolution } ∷ menu_of targets pairs) (sym (no_row target is))

  -- the menu of all targets, once the searches have the outcomes of those with such a row
  pub with_outcomes : (targets : List TargetValue) (flags : List Bool) (searches : List SearchValue) → flags ≡ map (has_row pairs) targets
      → map entry_so_far searches ≡ menu_of (held pairs targets) pairs
      → entries_with targets flags (map (λ s. s.resolution) searches) ≡ menu_of targets pairs
  with_outcomes targets flags searches marked are =
      let resolutions : map (λ s. s.resolution) searches ≡ map (λ target. resolution_of target pairs) (held pairs targets) =
      sym (map-map (λ entry. entry.resolution) entry_so_far searches)
      ∙ ap (map (λ entry. entry.resolution)) are
      ∙ map-map (λ entry. entry.resolution) (λ target. entry_of target pairs) (held pairs targets) in
      ap (λ fs. entries_with targets fs (map (λ s. s.resolution) searches)) marked
      ∙ ap (entries_with targets (map (has_row pairs) targets)) resolutions
      ∙ whole_menu targets
