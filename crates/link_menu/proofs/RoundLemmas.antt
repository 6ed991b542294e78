-- Searches after some rounds: the rows that they still have to try, and what was observed.

use Rattle.std.proofs.Common.{◌≡◌, ℕ, zero, suc, ◌+◌, ◌-◌, ◌<◌, List, [], ◌∷◌, Option, Some, None, Bool, true, false, refl, sym, ap, ◌∙◌, arith, length, map}
use Rattle.std.proofs.Common.{nat_le, filter, drop}
use Rattle.std.specs.Prelude.{◌||◌, if◌then◌else◌, is_some, max, option_and_then, slice_get}
use Rattle.std.specs.List.{cons_option, filter_map, list_any}
use Rattle.std.proofs.lemmas.Bool.{false≢true}
use Rattle.std.proofs.lemmas.List.{drop-drop, length-drop}
use Rattle.kev_read.specs.Pairs.{KeyValue}
use Rattle.kbart_rows.specs.Identifiers.{first_from}
use Rattle.menu.specs.Links.{is_link}
use Rattle.row_scope.specs.RequestValues.{RequestValue}
use Rattle.registry.specs.Targets.{TargetValue}
use Rattle.registry.specs.Entries.{matching_rows_of, resolution_of_row}
use Rattle.link_menu.specs.RowsByRound.{ends_in_round, longest, rounds_of, steps_of_row, tried_rows, up_to_link}
use Rattle.link_menu.specs.Private.Searches.{SearchValue, ends_next, is_open, started, after_next_row, after_row_at}

-- ---- the rows that a search still has to try

abbrev pub AllFromStart : Type 0
AllFromStart = (target : TargetValue) (pairs : List KeyValue) → filter (nat_le 0) (matching_rows_of target pairs) ≡ matching_rows_of target pairs

abbrev pub NoneFrom : Type 0
NoneFrom =
    (target : TargetValue) (pairs : List KeyValue) (from : ℕ) → first_from from (matching_rows_of target pairs) ≡ None
    → filter (nat_le from) (matching_rows_of target pairs) ≡ []

abbrev pub FirstAndRest : Type 0
FirstAndRest =
    (target : TargetValue) (pairs : List KeyValue) (from row : ℕ) → first_from from (matching_rows_of target pairs) ≡ Some row
    → filter (nat_le from) (matching_rows_of target pairs) ≡ row ∷ filter (nat_le (row + 1)) (matching_rows_of target pairs)

-- a request, a target, and the rows that it still has to try
abbrev pub Left : Type 0
Left = List KeyValue × TargetValue × List ℕ

abbrev pub rows_left_at : List KeyValue → TargetValue → Option ℕ → List ℕ
rows_left_at pairs target None = []
rows_left_at pairs target (Some row) = up_to_link target pairs (row ∷ filter (nat_le (row + 1)) (matching_rows_of target pairs))

abbrev pub left_of : SearchValue → Left
left_of s = (s.requested.pairs, s.target, rows_left_at s.requested.pairs s.target s.next)

abbrev pub left_after : ℕ → List KeyValue → TargetValue → Left
left_after k pairs target = (pairs, target, drop k (tried_rows target pairs))

abbrev pub one_less : Left → Left
one_less left = (left.0, left.1, drop 1 left.2)

abbrev pub rounds_left : List SearchValue → ℕ
rounds_left searches = longest (map (λ left. left.2) (map left_of searches))

add_one : (k : ℕ) → k + 1 ≡ suc k
add_one k = omega arith

-- one more round
pub drop_one : (k : ℕ) (pairs : List KeyValue) (targets : List TargetValue) → map one_less (map (left_after k pairs) targets)
    ≡ map (left_after (suc k) pairs) targets
drop_one k pairs [] = refl
drop_one k pairs (target ∷ targets) =
    let rows = tried_rows target pairs in
    ap (λ rest. (pairs, target, rest) ∷ map one_less (map (left_after k pairs) targets)) (drop-drop 1 k rows ∙ ap (λ m. drop m rows) (add_one k))
    ∙ ap (λ lefts. left_after (suc k) pairs target ∷ lefts) (drop_one k pairs targets)

module _ (all_from_start : AllFromStart) (none_from : NoneFrom) (first_and_rest : FirstAndRest) where
  from_row : (pairs : List KeyValue) (target : TargetValue) (from : ℕ)
      → rows_left_at pairs target (first_from from (matching_rows_of target pairs))
      ≡ up_to_link target pairs (filter (nat_le from) (matching_rows_of target pairs))
  from_row pairs target from = by_next (first_from from (matching_rows_of target pairs)) refl
    where
      by_next : (next : Option ℕ) → first_from from (matching_rows_of target pairs) ≡ next
          → rows_left_at pairs target next ≡ up_to_link target pairs (filter (nat_le from) (matching_rows_of target pairs))
      by_next None is = ap (up_to_link target pairs) (sym (none_from target pairs from is))
      by_next (Some row) is = ap (up_to_link target pairs) (sym (first_and_rest target pairs from row is))

  pub left_at_start : (requested : RequestValue) (targets : List TargetValue)
      → map left_of (map (started requested) targets) ≡ map (left_after 0 requested.pairs) targets
  left_at_start requested [] = refl
  left_at_start requested (target ∷ targets) =
      let pairs = requested.pairs in
      ap (λ rows. (pairs, target, rows) ∷ map left_of (map (started requested) targets))
      (from_row pairs target 0 ∙ ap (up_to_link target pairs) (all_from_start target pairs))
      ∙ ap (λ lefts. left_after 0 pairs target ∷ lefts) (left_at_start requested targets)

  one_tried : (s : SearchValue) → left_of (after_next_row s) ≡ one_less (left_of s)
  one_tried s = by_next s.next refl
    where
      by_link : (row : ℕ) (b : Bool)
          → rows_left_at s.requested.pairs s.target (if b then None else first_from (row + 1) (matching_rows_of s.target s.requested.pairs))
          ≡ (if b then [] else up_to_link s.target s.requested.pairs (filter (nat_le (row + 1)) (matching_rows_of s.target s.requested.pairs)))
      by_link row true = refl
      by_link row false = from_row s.requested.pairs s.target (row + 1)

      by_next : (next : Option ℕ) → s.next ≡ next → left_of (after_row_at s next) ≡ one_less
          (s.requested.pairs, s.target, rows_left_at s.requested.pairs s.target next)
      by_next None is = ap (λ next. (s.requested.pairs, s.target, rows_left_at s.requested.pairs s.target next)) is
      by_next (Some row) is = ap (λ rows. (s.requested.pairs, s.target, rows)) (by_link row (is_link (resolution_of_row s.target s.requested.pairs row)))

  pub all_tried : (searches : List SearchValue) → map left_of (map after_next_row searches) ≡ map one_less (map left_of searches)
  all_tried [] = refl
  all_tried (s ∷ searches) =
      ap (λ left. left ∷ map left_of (map after_next_row searches)) (one_tried s)
      ∙ ap (λ lefts. one_less (left_of s) ∷ lefts) (all_tried searches)

-- ---- the runs of the next round

first_left : (k : ℕ) (rows : List ℕ) → slice_get (drop k rows) 0 ≡ slice_get rows k
first_left zero rows = refl
first_left (suc k) [] = refl
first_left (suc k) (row ∷ rows) = first_left k rows

abbrev pub end_at : Left → Option ℕ
end_at left = option_and_then (steps_of_row left.1 left.0) (slice_get left.2 0)

end_of_search : (pairs : List KeyValue) (target : TargetValue) (next : Option ℕ)
    → option_and_then (steps_of_row target pairs) next ≡ end_at (pairs, target, rows_left_at pairs target next)
end_of_search pairs target None = refl
end_of_search pairs target (Some row) = refl

pub ends_of_searches : (searches : List SearchValue) → ends_next searches ≡ filter_map end_at (map left_of searches)
ends_of_searches [] = refl
ends_of_searches (s ∷ searches) =
    ap (λ end. cons_option end (ends_next searches)) (end_of_search s.requested.pairs s.target s.next)
    ∙ ap (cons_option (end_at (left_of s))) (ends_of_searches searches)

pub ends_after : (pairs : List KeyValue) (k : ℕ) (targets : List TargetValue) → filter_map end_at (map (left_after k pairs) targets)
    ≡ ends_in_round k targets pairs
ends_after pairs k [] = refl
ends_after pairs k (target ∷ targets) =
    ap (λ row. cons_option (option_and_then (steps_of_row target pairs) row) (filter_map end_at (map (left_after k pairs) targets)))
    (first_left k (tried_rows target pairs))
    ∙ ap (cons_option (option_and_then (steps_of_row target pairs) (slice_get (tried_rows target pairs) k))) (ends_after pairs k targets)

-- ---- how many rounds are left

none_less : (k : ℕ) → 0 ≡ 0 - k
none_less k = omega arith

some_left : (rows rest : ℕ) → 0 < max (suc rows) rest
some_left rows rest = omega arith

others_left : (rest : ℕ) → 0 < rest → 0 < max 0 rest
others_left rest more = omega (arith, more)

none_left : (rest : ℕ) → rest ≡ 0 → max 0 rest ≡ 0
none_left rest none = omega (arith, none)

pub longest_after : (pairs : List KeyValue) (k : ℕ) (targets : List TargetValue)
    → longest (map (λ left. left.2) (map (left_after k pairs) targets)) ≡ rounds_of targets pairs - k
unfolding longest
longest_after pairs k [] = none_less k
longest_after pairs k (target ∷ targets) =
    omega (arith, length-drop k (tried_rows target pairs), longest_after pairs k targets)

pub while_open : (searches : List SearchValue) → list_any is_open searches ≡ true → 0 < rounds_left searches
unfolding longest
while_open [] some = absurd (false≢true some)
while_open (s ∷ searches) some = by_next s.next (while_open searches) some
  where
    by_next : (next : Option ℕ) → (list_any is_open searches ≡ true → 0 < rounds_left searches) → (is_some next || list_any is_open searches) ≡ true
        → 0 < max (length (rows_left_at s.requested.pairs s.target next)) (rounds_left searches)
    by_next None rest some = others_left (rounds_left searches) (rest some)
    by_next (Some row) rest some =
        let pairs = s.requested.pairs in
        some_left (length (if is_link (resolution_of_row s.target pairs row) then []
        else up_to_link s.target pairs (filter (nat_le (row + 1)) (matching_rows_of s.target pairs)))) (rounds_left searches)

pub none_open : (searches : List SearchValue) → list_any is_open searches ≡ false → rounds_left searches ≡ 0
unfolding longest
none_open [] none = refl
none_open (s ∷ searches) none = by_next s.next (none_open searches) none
  where
    by_next : (next : Option ℕ) → (list_any is_open searches ≡ false → rounds_left searches ≡ 0) → (is_some next || list_any is_open searches) ≡ false
        → max (length (rows_left_at s.requested.pairs s.target next)) (rounds_left searches) ≡ 0
    by_next None rest none = none_left (rounds_left searches) (rest none)
    by_next (Some row) rest none = absurd (false≢true (sym none))
