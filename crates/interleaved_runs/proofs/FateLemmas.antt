-- The fates of the runs of a round.
use Rattle.std.proofs.Common.{◌≡◌, ℕ, List, [], ◌∷◌, ◌++◌, Option, Some, None, Bool, true, false, cond, refl, sym, ap, ◌∙◌, arith, length, map, count_by}
use Rattle.std.specs.Prelude.{if◌then◌else◌, is_none, drop, take}
use Rattle.std.proofs.lemmas.List.{append-nil, drop_all, length-map, take_all}
use Rattle.std.proofs.lemmas.List.Sums.{sum_by-cons}
use Rattle.std.specs.List.{cons_option}
use Rattle.code_model.specs.Code.{Code}
use Rattle.machine_model.specs.Runs.{Outcome}
use Rattle.target_vars.specs.EnvValue.{EnvValue}
use Rattle.verified_runs.specs.RunValue.{RunValue, new_run, most_bytes}
use Rattle.verified_runs.specs.Fates.{FateValue, OverBudget, ended, fate_in}
use Rattle.interleaved_runs.specs.declared.fate.Fate as answer
use Rattle.interleaved_runs.specs.Fates.{is_over_budget, fate_of, runs_of, fate_value}
use Rattle.interleaved_runs.specs.Private.Rounds.{AreOfTheSame, same_but_steps}
use Rattle.interleaved_runs.specs.Private.RunSets.{excess_of, fates_in, outcome_in_the_end}

-- ---- a set of runs has the fates of all codes

abbrev pub outcomes_in_the_end : List RunValue → List Outcome
outcomes_in_the_end runs = map outcome_in_the_end runs

first_fate : (over : Bool) (bytes : ℕ) (run : RunValue) (over_budget : List (Option ℕ)) (runs : List RunValue) (fates : List FateValue)
    → fates_in over_budget (outcomes_in_the_end runs) ≡ fates
    → fates_in ((if over then Some bytes else None) ∷ over_budget) (outcomes_in_the_end (cons_option (if over then None else Some run) runs))
    ≡ (if over then OverBudget bytes else ended (outcome_in_the_end run)) ∷ fates
first_fate true bytes run over_budget runs fates rest = ap (λ fs. OverBudget bytes ∷ fs) rest
first_fate false bytes run over_budget runs fates rest = ap (λ fs. ended (outcome_in_the_end run) ∷ fs) rest

pub all_fates : (pairs : List (Code × EnvValue)) → fates_in (map excess_of pairs) (outcomes_in_the_end (runs_of pairs)) ≡ map fate_of pairs
unfolding fate_in
all_fates [] = refl
all_fates (p ∷ pairs) = first_fate (is_over_budget p.0 p.1) (most_bytes p.0 p.1) (new_run p.0 p.1) (map excess_of pairs) (runs_of pairs) (map fate_of pairs)
    (all_fates pairs)

first_count : (over : Bool) (bytes : ℕ) (run : RunValue) (over_budget : List (Option ℕ)) (runs : List RunValue) → count_by is_none over_budget ≡ length runs
    → count_by is_none ((if over then Some bytes else None) ∷ over_budget) ≡ length (cons_option (if over then None else Some run) runs)
first_count true bytes run over_budget runs rest =
    let all = sum_by-cons (λ (o : Option ℕ). cond (is_none o) 1 0) (Some bytes) over_budget in
    omega (arith, all, rest)
first_count false bytes run over_budget runs rest =
    let all = sum_by-cons (λ (o : Option ℕ). cond (is_none o) 1 0) None over_budget in
    omega (arith, all, rest)

pub as_many_runs : (pairs : List (Code × EnvValue)) → count_by is_none (map excess_of pairs) ≡ length (runs_of pairs)
as_many_runs [] = refl
as_many_runs (p ∷ pairs) = first_count (is_over_budget p.0 p.1) (most_bytes p.0 p.1) (new_run p.0 p.1) (map excess_of pairs) (runs_of pairs)
    (as_many_runs pairs)

-- ---- equal runs have the same outcome

pub same_outcomes : (old new : List RunValue) → AreOfTheSame old new → outcomes_in_the_end new ≡ outcomes_in_the_end old
same_outcomes old new same = outcomes_of_the_same new ∙ ap outcomes_in_the_end same ∙ sym (outcomes_of_the_same old)
  where
    outcomes_of_the_same : (runs : List RunValue) → outcomes_in_the_end runs ≡ outcomes_in_the_end (map same_but_steps runs)
    outcomes_of_the_same [] = refl
    outcomes_of_the_same (run ∷ runs) = ap (λ os. outcome_in_the_end run ∷ os) (outcomes_of_the_same runs)

pub as_many : (old new : List RunValue) → AreOfTheSame old new → length new ≡ length old
as_many old new same = sym (length-map new same_but_steps) ∙ ap length same ∙ length-map old same_but_steps

after_turns : (new old : List RunValue) (len : ℕ) → length old ≡ len → AreOfTheSame old new → take len (new ++ drop (length new) old) ≡ new
after_turns new old len long same =
    let many : length new ≡ length old = as_many old new same in
    ap (λ rest. take len (new ++ rest)) (drop_all (length new) old (omega (arith, many))) ∙ ap (take len) (append-nil new)
    ∙ take_all len new (omega (arith, many, long))

module _ (pairs : List (Code × EnvValue)) (over_budget : List (Option ℕ)) (old new : List RunValue) (len : ℕ)
    (excess : over_budget ≡ map excess_of pairs) (runs : old ≡ runs_of pairs) (long : length old ≡ len) (same : AreOfTheSame old new) where
  pub fates_after_turns : fates_in over_budget (outcomes_in_the_end (take len (new ++ drop (length new) old))) ≡ map fate_of pairs
  fates_after_turns =
      ap (λ rs. fates_in over_budget (outcomes_in_the_end rs)) (after_turns new old len long same)
      ∙ ap (λ os. fates_in over_budget os) (same_outcomes old new same ∙ ap outcomes_in_the_end runs)
      ∙ ap (λ os. fates_in os (outcomes_in_the_end (runs_of pairs))) excess
      ∙ all_fates pairs

  pub runs_after_turns : count_by is_none over_budget ≡ length (take len (new ++ drop (length new) old))
  runs_after_turns =
      ap (λ os. count_by is_none os) excess ∙ as_many_runs pairs
      ∙ sym (ap length (after_turns new old len long same) ∙ as_many old new same ∙ ap length runs)

-- the fates so far, and those of the places and the runs that are left, are all
abbrev pub AddUp : List answer.Fate → List (Option ℕ) → List RunValue → List FateValue → Type 0
AddUp fates over_budget runs all = map fate_value fates ++ fates_in over_budget (outcomes_in_the_end runs) ≡ all
