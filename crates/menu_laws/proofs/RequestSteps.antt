-- The steps of all runs of a request, and their turns.
use Rattle.std.proofs.Common.{◌≡◌, ℕ, zero, suc, ◌+◌, ◌*◌, ◌≤◌, List, [], ◌∷◌, Option, Some, None, length, refl, sym}
use Rattle.std.proofs.Common.{ap, ◌∙◌, arith, slice_get, get_or, mul-le-mul_right, suc-mul}
use Rattle.std.specs.Prelude.{All, option_and_then}
use Rattle.std.specs.List.{cons_option, sum, sum_by}
use Rattle.std.proofs.lemmas.List.{length-append}
use Rattle.std.proofs.lemmas.List.Elements.{All-cons, All-head, All-nil, All-tail}
use Rattle.std.proofs.lemmas.List.Sums.{sum_by-append, sum_by-cons}
use Rattle.text_model.proofs.Lists.{sum_by-same}
use Rattle.machine_model.specs.Safe.{IsSafe}
use Rattle.kev_read.specs.Pairs.{KeyValue}
use Rattle.registry.specs.Targets.{TargetValue}
use Rattle.registry.specs.Entries.{matching_rows_of}
use Rattle.interleaved_runs.specs.StepLists.{step_lists_in, step_lists_to_end, turns_left, turns_to_end}
use Rattle.link_menu.specs.RowsByRound.{ends_in_round, rounds_of, steps_of_row, step_lists_in_rounds, tried_rows}
use Rattle.menu_laws.specs.Work.{most_steps_of_request, most_steps_of_run, most_steps_of_target, runs_in_rounds}
use Rattle.menu_laws.proofs.RunSteps.{LawsOfEnds, at_place, few_tried, first_steps, one_more, place_within, row_within, steps_of_rows, weight}

-- ---- all targets

sum_both : {X : Type 0} (f g : X → ℕ) (xs : List X) → sum_by f xs + sum_by g xs ≡ sum_by (λ x. f x + g x) xs
sum_both f g [] = refl
sum_both f g (x ∷ xs) =
    let one = sum_by-cons f x xs in
    let two = sum_by-cons g x xs in
    let both = sum_by-cons (λ x. f x + g x) x xs in
    let rest = sum_both f g xs in
    omega (arith, one, two, both, rest)

sum_within : {X : Type 0} (f g : X → ℕ) (xs : List X) → All (λ x. f x ≤ g x) xs → sum_by f xs ≤ sum_by g xs
sum_within f g [] all = omega arith
sum_within f g (x ∷ xs) all =
    let one = sum_by-cons f x xs in
    let two = sum_by-cons g x xs in
    let here : f x ≤ g x = All-head (λ x. f x ≤ g x) x xs all in
    let rest = sum_within f g xs (All-tail (λ x. f x ≤ g x) x xs all) in
    omega (arith, one, two, here, rest)

with_option : (o : Option ℕ) (xs : List ℕ) → sum (cons_option o xs) ≡ weight o + sum xs
with_option None xs = omega arith
with_option (Some n) xs = sum_by-cons (λ x. x) n xs

module _ (pairs : List KeyValue) where
  abbrev in_round : ℕ → TargetValue → ℕ
  in_round k target = at_place (steps_of_row target pairs) (tried_rows target pairs) k

  abbrev in_rounds : ℕ → TargetValue → ℕ
  in_rounds k target = first_steps (steps_of_row target pairs) (tried_rows target pairs) k

  sum_of_round : (k : ℕ) (targets : List TargetValue) → sum (ends_in_round k targets pairs) ≡ sum_by (in_round k) targets
  sum_of_round k [] = refl
  sum_of_round k (target ∷ targets) =
      let first = with_option (option_and_then (steps_of_row target pairs) (slice_get (tried_rows target pairs) k)) (ends_in_round k targets pairs) in
      let rest = sum_of_round k targets in
      let all = sum_by-cons (in_round k) target targets in
      omega (arith, first, rest, all)

  no_rounds : (target : TargetValue) → in_rounds 0 target ≡ 0
  unfolding first_steps
  no_rounds target = by_rows (tried_rows target pairs)
    where
      by_rows : (rows : List ℕ) → first_steps (steps_of_row target pairs) rows 0 ≡ 0
      by_rows [] = refl
      by_rows (row ∷ rows) = refl

  none_by : (targets : List TargetValue) → sum_by (λ (target : TargetValue). 0) targets ≡ 0
  none_by [] = refl
  none_by (target ∷ targets) =
      let first = sum_by-cons (λ (target : TargetValue). 0) target targets in
      let rest = none_by targets in
      omega (arith, first, rest)

  pub sum_of_rounds : (k : ℕ) (targets : List TargetValue) → sum (runs_in_rounds k targets pairs) ≡ sum_by (in_rounds k) targets
  unfolding runs_in_rounds
  sum_of_rounds zero targets = sym (sum_by-same (in_rounds 0) (λ target. 0) no_rounds targets ∙ none_by targets)
  sum_of_rounds (suc k) targets =
      sum_by-append (λ x. x) (runs_in_rounds k targets pairs) (ends_in_round k targets pairs)
      ∙ ap (λ n. n + sum (ends_in_round k targets pairs)) (sum_of_rounds k targets)
      ∙ ap (λ n. sum_by (in_rounds k) targets + n) (sum_of_round k targets)
      ∙ sum_both (in_rounds k) (in_round k) targets
      ∙ sym (sum_by-same (in_rounds (suc k)) (λ target. in_rounds k target + in_round k target)
      (λ target. one_more (steps_of_row target pairs) (tried_rows target pairs) k) targets)

  module _ (laws : LawsOfEnds) where
    target_within : (k : ℕ) (target : TargetValue) → IsSafe target.code → in_rounds k target ≤ most_steps_of_target pairs target
    target_within k target safe =
        let all = steps_of_rows (steps_of_row target pairs) (most_steps_of_run pairs target) (row_within laws pairs target safe) (tried_rows target pairs) k in
        let few = few_tried target pairs (matching_rows_of target pairs) in
        let product = mul-le-mul_right (most_steps_of_run pairs target) few in
        omega (arith, all, product)

    pub steps_bounded : (targets : List TargetValue) → All (λ target. IsSafe target.code) targets
        → sum (runs_in_rounds (rounds_of targets pairs) targets pairs) ≤ most_steps_of_request targets pairs
    steps_bounded targets safe =
        let k = rounds_of targets pairs in
        let same = sum_of_rounds k targets in
        let within = sum_within (in_rounds k) (most_steps_of_target pairs) targets
        (λ i d below. target_within k (get_or targets i d) (safe i d below)) in
        omega (arith, same, within)

    -- ---- turns

    run_within : (most k : ℕ) (target : TargetValue) → IsSafe target.code → most_steps_of_run pairs target ≤ most → in_round k target ≤ most
    run_within most k target safe small =
        let within = place_within (steps_of_row target pairs) (most_steps_of_run pairs target) (row_within laws pairs target safe)
        (tried_rows target pairs) k in
        omega (arith, within, small)

    option_within : (most : ℕ) (o : Option ℕ) (xs : List ℕ) → weight o ≤ most → All (λ end. end ≤ most) xs → All (λ end. end ≤ most) (cons_option o xs)
    option_within most None xs here all = all
    option_within most (Some n) xs here all = All-cons (λ end. end ≤ most) n xs here all

    ends_within : (most k : ℕ) (targets : List TargetValue) → All (λ target. IsSafe target.code) targets
        → All (λ target. most_steps_of_run pairs target ≤ most) targets → All (λ end. end ≤ most) (ends_in_round k targets pairs)
    ends_within most k [] safe small = All-nil (λ end. end ≤ most)
    ends_within most k (target ∷ targets) safe small =
        option_within most (option_and_then (steps_of_row target pairs) (slice_get (tried_rows target pairs) k)) (ends_in_round k targets pairs)
        (run_within most k target (All-head (λ target. IsSafe target.code) target targets safe)
        (All-head (λ target. most_steps_of_run pairs target ≤ most) target targets small))
        (ends_within most k targets (All-tail (λ target. IsSafe target.code) target targets safe)
        (All-tail (λ target. most_steps_of_run pairs target ≤ most) target targets small))

    turns_within : (most : ℕ) (ends : List ℕ) → All (λ end. end ≤ most) ends → turns_to_end ends ≤ turns_left most
    unfolding turns_to_end
    turns_within most [] all = omega arith
    turns_within most (end ∷ ends) all =
        let here : end ≤ most = All-head (λ end. end ≤ most) end ends all in
        let rest = turns_within most ends (All-tail (λ end. end ≤ most) end ends all) in
        omega (arith, here, rest)

    lists_in : (t : ℕ) (ends : List ℕ) → length (step_lists_in t ends) ≡ t
    unfolding step_lists_in
    lists_in zero ends = refl
    lists_in (suc t) ends =
        let rest = lists_in t ends in
        omega (arith, rest, length-append {A = List ℕ})

    turns_in_rounds : (most k : ℕ) (targets : List TargetValue) → All (λ target. IsSafe target.code) targets
        → All (λ target. most_steps_of_run pairs target ≤ most) targets → length (step_lists_in_rounds k targets pairs) ≤ k * turns_left most
    unfolding step_lists_in_rounds
    turns_in_rounds most zero targets safe small = omega arith
    turns_in_rounds most (suc k) targets safe small =
        let ends = ends_in_round k targets pairs in
        let rest = turns_in_rounds most k targets safe small in
        let joined = length-append (step_lists_in_rounds k targets pairs) (step_lists_to_end ends) in
        let here = lists_in (turns_to_end ends) ends in
        let within = turns_within most ends (ends_within most k targets safe small) in
        let product = suc-mul k (turns_left most) in
        omega (arith, rest, joined, here, within, product)

    pub turns_bounded : (targets : List TargetValue) (most : ℕ) → All (λ target. IsSafe target.code) targets
        → All (λ target. most_steps_of_run pairs target ≤ most) targets
        → length (step_lists_in_rounds (rounds_of targets pairs) targets pairs) ≤ rounds_of targets pairs * turns_left most
    turns_bounded targets most safe small = turns_in_rounds most (rounds_of targets pairs) targets safe small
