-- The steps of the runs of one target.
use Rattle.std.proofs.Common.{◌≡◌, ℕ, zero, suc, ◌+◌, ◌*◌, ◌≤◌, Bool, true, false, List, [], ◌∷◌, Option, Some, None, length, refl}
use Rattle.std.proofs.Common.{arith, slice_get, mul-le-mul_left, suc-mul}
use Rattle.std.specs.Prelude.{if◌then◌else◌, nat_lt, option_and_then}
use Rattle.environment_model.specs.Environment.{Environment, member_count}
use Rattle.code_model.specs.Code.{Code}
use Rattle.machine_model.specs.Budget.{sums_of, steps_bound}
use Rattle.machine_model.specs.Next.{course_of}
use Rattle.machine_model.specs.Runs.{EndsAfter, EndsWith, Outcome}
use Rattle.machine_model.specs.Runs as outcome
use Rattle.machine_model.specs.Safe.{IsSafe}
use Rattle.machine_model.specs.States.{Ended, Running}
use Rattle.machine_model.specs.States as state
use Rattle.kev_read.specs.Pairs.{KeyValue}
use Rattle.menu.specs.Links.{is_link}
use Rattle.verified_runs.specs.declared.run.TheConstants.{MAX_LINK_BYTES}
use Rattle.verified_runs.specs.Fates.{most_bytes_in}
use Rattle.registry.specs.RowEnvironments.{row_environment}
use Rattle.registry.specs.Targets.{TargetValue}
use Rattle.registry.specs.Entries.{resolution_of_row}
use Rattle.link_menu.specs.RowsByRound.{steps_of_row, up_to_link}
use Rattle.menu_laws.specs.Work.{most_steps_of_run}

-- the laws of lower crates, and one of this crate
pub record LawsOfEnds : Type 0 where
  pub ends_with : (c : Code) (v : Environment) → EndsWith c v (course_of c v).steps (course_of c v).outcome
  pub once : (c : Code) (v : Environment) (k m : ℕ) → EndsAfter c v k → EndsAfter c v m → k ≡ m
  pub few : (target : TargetValue) (pairs : List KeyValue) (row : ℕ) → member_count (row_environment target pairs row) ≤ length pairs

-- ---- one run

-- a number, or none, which counts as 0
abbrev pub weight : Option ℕ → ℕ
weight None = 0
weight (Some n) = n

more_members : (c : Code) (m n : ℕ) → m ≤ n → steps_bound (sums_of c) m ≤ steps_bound (sums_of c) n
more_members c m n le = let product = mul-le-mul_left (sums_of c).s1 le in omega (arith, product)

module _ (laws : LawsOfEnds) where
  steps_within : (c : Code) (v : Environment) → IsSafe c → (course_of c v).steps ≤ steps_bound (sums_of c) (member_count v)
  steps_within c v safe = by_outcome (course_of c v).outcome (laws.ends_with c v)
    where
      by_outcome : (o : Outcome) → EndsWith c v (course_of c v).steps o → (course_of c v).steps ≤ steps_bound (sums_of c) (member_count v)
      by_outcome (outcome.Link link) after =
          let end = safe.ends v in
          let same = laws.once c v (course_of c v).steps end.0 (state.Link link, after) (end.1, end.2) in
          omega (arith, same, end.3)
      by_outcome outcome.NoLink after =
          let end = safe.ends v in
          let same = laws.once c v (course_of c v).steps end.0 (state.NoLink, after) (end.1, end.2) in
          omega (arith, same, end.3)
      by_outcome (outcome.Stuck place) after = absurd (safe.never_stuck v (course_of c v).steps (Running after.0) after.1 after.3)

  module _ (pairs : List KeyValue) (target : TargetValue) (safe : IsSafe target.code) where
    pub row_within : (row : ℕ) → weight (steps_of_row target pairs row) ≤ most_steps_of_run pairs target
    row_within row =
        let env = row_environment target pairs row in
        let steps = steps_within target.code env safe in
        let more = more_members target.code (member_count env) (length pairs) (laws.few target pairs row) in
        by_test (nat_lt MAX_LINK_BYTES (most_bytes_in target.code env)) (omega (arith, steps, more))
      where
        by_test : (b : Bool) → (course_of target.code (row_environment target pairs row)).steps ≤ most_steps_of_run pairs target
            → weight (if b then None else Some (course_of target.code (row_environment target pairs row)).steps) ≤ most_steps_of_run pairs target
        by_test true within = omega arith
        by_test false within = within

-- ---- the runs of one target

-- no more rows are tried than match
pub few_tried : (target : TargetValue) (pairs : List KeyValue) (rows : List ℕ) → length (up_to_link target pairs rows) ≤ length rows
few_tried target pairs [] = omega arith
few_tried target pairs (row ∷ rows) = by_test (is_link (resolution_of_row target pairs row)) (few_tried target pairs rows)
  where
    by_test : (b : Bool) → length (up_to_link target pairs rows) ≤ length rows
        → length (row ∷ (if b then [] else up_to_link target pairs rows)) ≤ length (row ∷ rows)
    by_test true few = omega arith
    by_test false few = omega (arith, few)

-- the steps of a row, by its place among the rows
module _ (steps : ℕ → Option ℕ) where
  abbrev pub at_place : List ℕ → ℕ → ℕ
  at_place rows k = weight (option_and_then steps (slice_get rows k))

  unfoldable pub first_steps : List ℕ → ℕ → ℕ
  first_steps rows zero = 0
  first_steps [] (suc k) = 0
  first_steps (row ∷ rows) (suc k) = weight (steps row) + first_steps rows k

  -- the steps of one more row
  pub one_more : (rows : List ℕ) (k : ℕ) → first_steps rows (suc k) ≡ first_steps rows k + at_place rows k
  unfolding first_steps
  one_more [] zero = refl
  one_more [] (suc k) = refl
  one_more (row ∷ rows) zero = omega arith
  one_more (row ∷ rows) (suc k) = let rest = one_more rows k in omega (arith, rest)

  pub steps_of_rows : (most : ℕ) → ((row : ℕ) → weight (steps row) ≤ most) → (rows : List ℕ) (k : ℕ) → first_steps rows k ≤ length rows * most
  unfolding first_steps
  steps_of_rows most each [] zero = omega arith
  steps_of_rows most each (row ∷ rows) zero = omega arith
  steps_of_rows most each [] (suc k) = omega arith
  steps_of_rows most each (row ∷ rows) (suc k) =
      let here = each row in
      let rest = steps_of_rows most each rows k in
      let product = suc-mul (length rows) most in
      omega (arith, here, rest, product)

  pub place_within : (most : ℕ) → ((row : ℕ) → weight (steps row) ≤ most) → (rows : List ℕ) (k : ℕ) → at_place rows k ≤ most
  place_within most each [] k = omega arith
  place_within most each (row ∷ rows) zero = each row
  place_within most each (row ∷ rows) (suc k) = place_within most each rows k
