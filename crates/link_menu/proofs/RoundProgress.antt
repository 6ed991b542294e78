-- What holds after some rounds.

use Rattle.std.proofs.Common.{◌≡◌, ℕ, suc, ◌-◌, ◌<◌, ◌≤◌, List, ◌++◌, Option, true, false, refl, sym, ap, ◌∙◌, arith, map, append_assoc}
use Rattle.std.specs.List.{filter_map, list_any}
use Rattle.kev_read.specs.Pairs.{KeyValue}
use Rattle.row_scope.specs.RequestValues.{RequestValue}
use Rattle.registry.specs.Targets.{TargetValue}
use Rattle.interleaved_runs.specs.StepLists.{HasSeenAll, HasSeenSome, step_lists_to_end, with_lists}
use Rattle.link_menu.specs.RowsByRound.{ends_in_round, longest, rounds_of, step_lists_in_all_rounds, step_lists_in_rounds}
use Rattle.link_menu.specs.Private.Searches.{SearchValue, ends_next, is_open, started, after_next_row}
use Rattle.interleaved_runs.proofs.StepListLemmas.{first_of, rest_of, with_more, with_none}
use Rattle.link_menu.proofs.RoundLemmas.{AllFromStart, FirstAndRest, NoneFrom, all_tried, drop_one, end_at, ends_after, ends_of_searches, left_after}
use Rattle.link_menu.proofs.RoundLemmas.{left_at_start, left_of, longest_after, none_open, one_less, rounds_left, while_open}

-- k rounds were carried out, and the watch has observed all of them
abbrev pub AfterRounds : List KeyValue → List TargetValue → List SearchValue → Option (List (List ℕ)) → Option (List (List ℕ)) → Type 0
AfterRounds pairs targets searches told now =
    (k : ℕ) × (map left_of searches ≡ map (left_after k pairs) targets) × (k ≤ rounds_of targets pairs)
    × (now ≡ with_lists told (step_lists_in_rounds k targets pairs))

round_more : (rounds k left : ℕ) → left ≡ rounds - k → 0 < left → suc k ≤ rounds
round_more rounds k left is some = omega (arith, is, some)

round_less : (rounds k old new : ℕ) → old ≡ rounds - k → new ≡ rounds - suc k → 0 < old → new < old
round_less rounds k old new was is some = omega (arith, was, is, some)

no_round : (rounds k left : ℕ) → left ≡ rounds - k → left ≡ 0 → k ≤ rounds → k ≡ rounds
no_round rounds k left is none le = omega (arith, is, none, le)

module _ (pairs : List KeyValue) (targets : List TargetValue) (searches : List SearchValue) (told now : Option (List (List ℕ)))
    (after : AfterRounds pairs targets searches told now) where
  left_then : rounds_left searches ≡ rounds_of targets pairs - after.0
  left_then = ap (λ lefts. longest (map (λ left. left.2) lefts)) after.1 ∙ longest_after pairs after.0 targets

  next_within : list_any is_open searches ≡ true → suc after.0 ≤ rounds_of targets pairs
  next_within some = round_more (rounds_of targets pairs) after.0 (rounds_left searches) left_then (while_open searches some)

  next_ends : ends_next searches ≡ ends_in_round after.0 targets pairs
  next_ends = ends_of_searches searches ∙ ap (filter_map end_at) after.1 ∙ ends_after pairs after.0 targets

  pub all_rounds : list_any is_open searches ≡ false → HasSeenAll (step_lists_in_all_rounds targets pairs) told now
  all_rounds none =
      let all = no_round (rounds_of targets pairs) after.0 (rounds_left searches) left_then (none_open searches none) after.2 in
      after.3 ∙ ap (λ k. with_lists told (step_lists_in_rounds k targets pairs)) all

  pub some_rounds : HasSeenSome (step_lists_in_all_rounds targets pairs) told now
  unfolding step_lists_in_rounds
  some_rounds =
      first_of (λ k. step_lists_in_rounds k targets pairs) (λ k. step_lists_to_end (ends_in_round k targets pairs)) (λ k. refl) after.0
      (rounds_of targets pairs) told now after.2 after.3

  pub part_of_round : (ends : List ℕ) (new : Option (List (List ℕ))) → list_any is_open searches ≡ true → ends ≡ ends_next searches
      → HasSeenSome (step_lists_to_end ends) now new → HasSeenSome (step_lists_in_all_rounds targets pairs) told new
  unfolding step_lists_in_rounds
  part_of_round ends new opened are seen =
      let before = step_lists_in_rounds after.0 targets pairs in
      let later =
      rest_of (λ k. step_lists_in_rounds k targets pairs) (λ k. step_lists_to_end (ends_in_round k targets pairs)) (λ k. refl) (suc after.0)
      (rounds_of targets pairs) (next_within opened) in
      let round : step_lists_to_end (ends_in_round after.0 targets pairs) ≡ seen.0 ++ seen.1 = ap step_lists_to_end (sym (are ∙ next_ends)) ∙ seen.2 in (
        before ++ seen.0,
        seen.1 ++ later.0,
        later.1 ∙ ap (λ lists. (before ++ lists) ++ later.0) round ∙ apart before seen.0 seen.1 later.0,
        seen.3 ∙ ap (λ lists. with_lists lists seen.0) after.3 ∙ with_more told before seen.0,
      )
    where
      apart : (a b c d : List (List ℕ)) → (a ++ (b ++ c)) ++ d ≡ (a ++ b) ++ (c ++ d)
      apart a b c d = simp append_assoc

module _ (all_from_start : AllFromStart) (none_from : NoneFrom) (first_and_rest : FirstAndRest) (pairs : List KeyValue) (targets : List TargetValue) where
  pub at_first : (requested : RequestValue) (told : Option (List (List ℕ))) → requested.pairs ≡ pairs
      → AfterRounds pairs targets (map (started requested) targets) told told
  unfolding step_lists_in_rounds
  at_first requested told same =
      (0, left_at_start all_from_start none_from first_and_rest requested targets ∙ ap (λ ps. map (left_after 0 ps) targets) same, omega arith, with_none told)

  pub one_round : (searches : List SearchValue) (told now new : Option (List (List ℕ))) (ends : List ℕ) → AfterRounds pairs targets searches told now
      → list_any is_open searches ≡ true → ends ≡ ends_next searches → HasSeenAll (step_lists_to_end ends) now new
      → AfterRounds pairs targets (map after_next_row searches) told new
  unfolding step_lists_in_rounds
  one_round searches told now new ends after opened are seen =
      let k = after.0 in
      let before = step_lists_in_rounds k targets pairs in
      let round = step_lists_to_end (ends_in_round k targets pairs) in (
        suc k,
        all_tried all_from_start none_from first_and_rest searches ∙ ap (map one_less) after.1 ∙ drop_one k pairs targets,
        next_within pairs targets searches told now after opened,
        seen ∙ ap (λ es. with_lists now (step_lists_to_end es)) (are ∙ next_ends pairs targets searches told now after)
            ∙ ap (λ lists. with_lists lists round) after.3 ∙ with_more told before round,
      )

  pub fewer_rounds : (searches : List SearchValue) (told now : Option (List (List ℕ))) → AfterRounds pairs targets searches told now
      → list_any is_open searches ≡ true → rounds_left (map after_next_row searches) < rounds_left searches
  fewer_rounds searches told now after opened =
      let k = after.0 in
      let left = left_then pairs targets searches told now after in
      let next = all_tried all_from_start none_from first_and_rest searches ∙ ap (map one_less) after.1 ∙ drop_one k pairs targets in
      let left_next = ap (λ lefts. longest (map (λ l. l.2) lefts)) next ∙ longest_after pairs (suc k) targets in
      round_less (rounds_of targets pairs) k (rounds_left searches) (rounds_left (map after_next_row searches)) left left_next (while_open searches opened)
