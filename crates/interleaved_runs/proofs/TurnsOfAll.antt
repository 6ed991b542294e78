-- All runs, turn by turn.
use Rattle.std.proofs.Common.{◌≡◌, ℕ, suc, ◌+◌, ◌-◌, ◌*◌, ◌<◌, ◌≤◌, List, [], ◌∷◌, Option, Bool, true, false, cond, refl, sym, ap, ◌∙◌, subst, arith, count_by}
use Rattle.std.proofs.Common.{get_or, length, map, ⊎_elim, inl, inr}
use Rattle.std.specs.Prelude.{min, max, ◌/◌, ◌⊎◌}
use Rattle.std.proofs.lemmas.List.Sums.{sum_by-cons}
use Rattle.std.proofs.lemmas.Bool.{cases_lt}
use Rattle.environment_model.specs.Environment.{Environment}
use Rattle.code_model.specs.Code.{Code}
use Rattle.machine_model.specs.Next.{state_after}
use Rattle.machine_model.specs.Runs.{EndsAfter}
use Rattle.verified_runs.specs.RunValue.{RunValue}
use Rattle.verified_runs.proofs.Ends.{same_run}
use Rattle.interleaved_runs.specs.Turns.{is_live, IsMoved}
use Rattle.interleaved_runs.specs.StepLists.{steps_of, with_list, with_lists, end_of, ends_of, steps_after, HasSeenSome, step_lists_in, step_lists_to_end}
use Rattle.interleaved_runs.specs.StepLists.{turns_left, turns_to_end}
use Rattle.interleaved_runs.specs.Private.Rounds.{IsFresh, AreFresh, same_but_steps, AreOfTheSame, advanced_run}
use Rattle.interleaved_runs.proofs.StepListLemmas.{first_of, with_more, with_none}
use Rattle.interleaved_runs.proofs.TurnLemmas.{AreDecided, ended_is_over, others_go_on}

-- a run ends once
abbrev pub EndsOnce : Type 0
EndsOnce = (c : Code) (v : Environment) (k m : ℕ) → EndsAfter c v k → EndsAfter c v m → k ≡ m

abbrev pub all_after : ℕ → List RunValue → List RunValue
all_after n runs = map (advanced_run n) runs

abbrev pub one_if : Bool → ℕ
one_if b = cond b 1 0

-- ---- one run

more_steps : (m n end to : ℕ) → to ≡ min (min m end + n) end → to ≡ min (m + n) end
more_steps m n end to is = omega (arith, is)

run_moved : (m n : ℕ) (run new : RunValue) → IsFresh run → IsMoved (advanced_run m run) n new → new ≡ advanced_run (m + n) run
run_moved m n run new fresh moved =
    same_run new (advanced_run (m + n) run) moved.code moved.env (more_steps m n (end_of run) new.steps (moved.steps (end_of run) fresh.ends))

no_steps : (steps end : ℕ) → steps ≡ 0 → steps ≡ min 0 end
no_steps steps end is = omega (arith, is)

run_at_start : (run : RunValue) → IsFresh run → run ≡ advanced_run 0 run
run_at_start run fresh = same_run run (advanced_run 0 run) refl refl (no_steps run.steps (end_of run) fresh.start)

started_is_live : (run : RunValue) → IsFresh run → is_live run ≡ true
unfolding state_after
started_is_live run fresh = subst (λ k. is_live (record run { steps = k }) ≡ true) (sym fresh.start) refl

at_end : (m end : ℕ) → end ≤ m → end ≡ min m end
at_end m end le = omega (arith, le)

before_end : (m end k : ℕ) → m < end → k ≡ min m end → k ≡ end → ⊥
before_end m end k lt is same = absurd (omega (arith, lt, is, same))

over_at_end : AreDecided → (m : ℕ) (run : RunValue) → IsFresh run → end_of run ≤ m → is_live (advanced_run m run) ≡ false
over_at_end decided m run fresh le =
    ended_is_over decided (advanced_run m run) (subst (λ k. EndsAfter run.code run.env.entries k) (at_end m (end_of run) le) fresh.ends)

live_before_end : AreDecided → EndsOnce → (m : ℕ) (run : RunValue) → IsFresh run → m < end_of run → is_live (advanced_run m run) ≡ true
live_before_end decided once m run fresh lt =
    others_go_on decided (advanced_run m run)
    (λ ended. before_end m (end_of run) (advanced_run m run).steps lt refl
    (once run.code run.env.entries (advanced_run m run).steps (end_of run) ended fresh.ends))

-- ---- all runs

pub at_start : (runs : List RunValue) → AreFresh runs → runs ≡ all_after 0 runs
at_start [] fresh = refl
at_start (run ∷ runs) fresh = ap (λ r. r ∷ runs) (run_at_start run fresh.0) ∙ ap (λ rs. advanced_run 0 run ∷ rs) (at_start runs fresh.1)

pub all_live : (runs : List RunValue) → AreFresh runs → length runs ≡ count_by is_live runs
all_live [] fresh = refl
all_live (run ∷ runs) fresh =
    let here : one_if (is_live run) ≡ 1 = ap one_if (started_is_live run fresh.0) in
    let rest = all_live runs fresh.1 in
    let all : count_by is_live (run ∷ runs) ≡ one_if (is_live run) + count_by is_live runs = sum_by-cons (λ r. one_if (is_live r)) run runs in
    omega (arith, here, rest, all)

pub all_moved : (m n : ℕ) (runs new : List RunValue) → AreFresh runs → length new ≡ length (all_after m runs)
    → ((i : ℕ) (d : RunValue) → i < length (all_after m runs) → IsMoved (get_or (all_after m runs) i d) n (get_or new i d)) → new ≡ all_after (m + n) runs
all_moved m n [] [] fresh count moved = refl
all_moved m n [] (x ∷ xs) fresh count moved = absurd (omega (arith, count))
all_moved m n (run ∷ runs) [] fresh count moved = absurd (omega (arith, count))
all_moved m n (run ∷ runs) (x ∷ xs) fresh count moved =
    ap (λ r. r ∷ xs) (run_moved m n run x fresh.0 (moved 0 run (omega arith)))
    ∙ ap (λ rs. advanced_run (m + n) run ∷ rs) (all_moved m n runs xs fresh.1 (omega (arith, count)) (λ i d lt. moved (suc i) d (omega (arith, lt))))

pub same_runs : (n : ℕ) (runs : List RunValue) → AreOfTheSame runs (all_after n runs)
same_runs n [] = refl
same_runs n (run ∷ runs) = ap (λ rs. same_but_steps run ∷ rs) (same_runs n runs)

pub steps_then : (n : ℕ) (runs : List RunValue) → steps_of (all_after n runs) ≡ steps_after n (ends_of runs)
steps_then n [] = refl
steps_then n (run ∷ runs) = ap (λ ks. min n (end_of run) ∷ ks) (steps_then n runs)

-- ---- how many turns are left

abbrev pub steps_left : RunValue → ℕ
steps_left run = end_of run - run.steps

abbrev pub turns_of : List RunValue → ℕ
turns_of runs = turns_to_end (map steps_left runs)

none_done : (steps end : ℕ) → steps ≡ 0 → end - steps ≡ end
none_done steps end is = omega (arith, is)

all_left : (runs : List RunValue) → AreFresh runs → map steps_left runs ≡ ends_of runs
all_left [] fresh = refl
all_left (run ∷ runs) fresh =
    ap (λ n. n ∷ map steps_left runs) (none_done run.steps (end_of run) fresh.0.start) ∙ ap (λ ns. end_of run ∷ ns) (all_left runs fresh.1)

pub turns_at_start : (runs : List RunValue) → AreFresh runs → turns_of runs ≡ turns_to_end (ends_of runs)
turns_at_start runs fresh = ap turns_to_end (all_left runs fresh)

turns_less : (t end : ℕ) → (end - min (64 * t) end + 63) / 64 ≡ (end - 0 + 63) / 64 - t
turns_less t end = omega arith

pub max_less : (a b c d t : ℕ) → a ≡ c - t → b ≡ d - t → max a b ≡ max c d - t
max_less a b c d t one other = omega (arith, one, other)

pub turns_after : (t : ℕ) (runs : List RunValue) → AreFresh runs → turns_of (all_after (64 * t) runs) ≡ turns_of runs - t
unfolding turns_to_end
turns_after t [] fresh = omega arith
turns_after t (run ∷ runs) fresh =
    let here : turns_left (end_of run - min (64 * t) (end_of run)) ≡ turns_left (end_of run - run.steps) - t =
    turns_less t (end_of run) ∙ ap (λ k. turns_left (end_of run - k) - t) (sym fresh.0.start) in
    max_less (turns_left (end_of run - min (64 * t) (end_of run))) (turns_of (all_after (64 * t) runs)) (turns_left (end_of run - run.steps)) (turns_of runs) t
    here (turns_after t runs fresh.1)

-- either all have ended, or one has not
abbrev pub DoneOrLeft : ℕ → ℕ → ℕ → Type 0
DoneOrLeft live t turns = ((live ≡ 0) × (turns ≤ t)) ⊎ ((0 < live) × (t < turns))

turns_enough : (t end k : ℕ) → k ≡ 0 → end ≤ 64 * t → (end - k + 63) / 64 ≤ t
turns_enough t end k start le = omega (arith, start, le)

turns_short : (t end k : ℕ) → k ≡ 0 → 64 * t < end → t < (end - k + 63) / 64
turns_short t end k start lt = omega (arith, start, lt)

join_done : (live here rest t turn turns : ℕ) → live ≡ here + rest → here ≡ 0 → turn ≤ t → DoneOrLeft rest t turns → DoneOrLeft live t (max turn turns)
join_done live here rest t turn turns sum none le =
    ⊎_elim (λ done. inl (omega (arith, sum, none, done.0), omega (arith, le, done.1))) (λ left. inr (omega (arith, sum, left.0), omega (arith, left.1)))

join_left : (live here rest t turn turns : ℕ) → live ≡ here + rest → here ≡ 1 → t < turn → DoneOrLeft live t (max turn turns)
join_left live here rest t turn turns sum one lt = inr (omega (arith, sum, one), omega (arith, lt))

pub done_or_left : AreDecided → EndsOnce → (t : ℕ) (runs : List RunValue) → AreFresh runs
    → DoneOrLeft (count_by is_live (all_after (64 * t) runs)) t (turns_of runs)
unfolding turns_to_end
done_or_left decided once t [] fresh = inl (refl, omega arith)
done_or_left decided once t (run ∷ runs) fresh =
    let m = 64 * t in
    let live = λ (r : RunValue). one_if (is_live r) in
    let all : count_by is_live (all_after m (run ∷ runs)) ≡ one_if (is_live (advanced_run m run)) + count_by is_live (all_after m runs) =
    sum_by-cons live (advanced_run m run) (all_after m runs) in
    let rest = done_or_left decided once t runs fresh.1 in
    ⊎_elim
    (λ lt. join_left (count_by is_live (all_after m (run ∷ runs))) (one_if (is_live (advanced_run m run))) (count_by is_live (all_after m runs)) t
    (turns_left (end_of run - run.steps)) (turns_of runs) all
    (ap one_if (live_before_end decided once m run fresh.0 lt)) (turns_short t (end_of run) run.steps fresh.0.start lt))
    (λ le. join_done (count_by is_live (all_after m (run ∷ runs))) (one_if (is_live (advanced_run m run))) (count_by is_live (all_after m runs)) t
    (turns_left (end_of run - run.steps)) (turns_of runs) all
    (ap one_if (over_at_end decided m run fresh.0 le)) (turns_enough t (end_of run) run.steps fresh.0.start le) rest)
    (cases_lt m (end_of run))

still_or_done : AreDecided → EndsOnce → (t : ℕ) (runs now : List RunValue) (live : ℕ) → AreFresh runs → now ≡ all_after (64 * t) runs
    → live ≡ count_by is_live now → DoneOrLeft live t (turns_of runs)
still_or_done decided once t runs now live fresh is counted =
    subst (λ n. DoneOrLeft n t (turns_of runs)) (sym (counted ∙ ap (count_by is_live) is)) (done_or_left decided once t runs fresh)

pub still_left : AreDecided → EndsOnce → (t : ℕ) (runs now : List RunValue) (live : ℕ) → AreFresh runs → now ≡ all_after (64 * t) runs
    → live ≡ count_by is_live now → 0 < live → t < turns_of runs
still_left decided once t runs now live fresh is counted lt =
    ⊎_elim (λ done. absurd (omega (arith, done.0, lt))) (λ left. left.1) (still_or_done decided once t runs now live fresh is counted)

pub all_done : AreDecided → EndsOnce → (t : ℕ) (runs now : List RunValue) (live : ℕ) → AreFresh runs → now ≡ all_after (64 * t) runs
    → live ≡ count_by is_live now → live ≤ 0 → t ≤ turns_of runs → t ≡ turns_of runs
all_done decided once t runs now live fresh is counted none le = ⊎_elim (λ done. omega (arith, done.1, le)) (λ left. absurd (omega (arith, left.0, none)))
    (still_or_done decided once t runs now live fresh is counted)

turn_more : (t : ℕ) → 64 * t + 64 ≡ 64 * suc t
turn_more t = omega arith

pub next_turn : (t : ℕ) (runs now new : List RunValue) → AreFresh runs → now ≡ all_after (64 * t) runs → length new ≡ length now
    → ((i : ℕ) (d : RunValue) → i < length now → IsMoved (get_or now i d) 64 (get_or new i d)) → new ≡ all_after (64 * suc t) runs
next_turn t runs now new fresh is count moved =
    all_moved (64 * t) 64 runs new fresh (count ∙ ap length is)
    (λ i d lt. subst (λ xs. IsMoved (get_or xs i d) 64 (get_or new i d)) is (moved i d (subst (λ xs. i < length xs) (sym is) lt)))
    ∙ ap (λ n. all_after n runs) (turn_more t)

one_fewer : (t turns old new : ℕ) → old ≡ turns - t → new ≡ turns - suc t → t < turns → new < old
one_fewer t turns old new before after lt = omega (arith, before, after, lt)

pub fewer_left : (t : ℕ) (runs now new : List RunValue) → AreFresh runs → now ≡ all_after (64 * t) runs → new ≡ all_after (64 * suc t) runs → t < turns_of runs
    → turns_of new < turns_of now
fewer_left t runs now new fresh was is lt =
    one_fewer t (turns_of runs) (turns_of now) (turns_of new) (ap turns_of was ∙ turns_after t runs fresh) (ap turns_of is ∙ turns_after (suc t) runs fresh) lt

-- ---- what is observed

pub nothing_observed : (told : Option (List (List ℕ))) (ends : List ℕ) → told ≡ with_lists told (step_lists_in 0 ends)
unfolding step_lists_in
nothing_observed told ends = with_none told

pub observed_next : (told now new : Option (List (List ℕ))) (t : ℕ) (runs : List RunValue) → now ≡ with_lists told (step_lists_in t (ends_of runs))
    → new ≡ with_list now (steps_of (all_after (64 * suc t) runs)) → new ≡ with_lists told (step_lists_in (suc t) (ends_of runs))
unfolding step_lists_in
observed_next told now new t runs before seen =
    let more = steps_after (64 * suc t) (ends_of runs) in
    seen ∙ ap (λ list. with_list now list) (steps_then (64 * suc t) runs) ∙ ap (λ lists. with_list lists more) before
    ∙ with_more told (step_lists_in t (ends_of runs)) (more ∷ [])

-- the first turns give the first of all lists
pub observed_at_first : (t : ℕ) (ends : List ℕ) (told now : Option (List (List ℕ))) → t ≤ turns_to_end ends → now ≡ with_lists told (step_lists_in t ends)
    → HasSeenSome (step_lists_to_end ends) told now
unfolding step_lists_in
observed_at_first t ends told now few seen =
    first_of (λ n. step_lists_in n ends) (λ n. steps_after (64 * suc n) ends ∷ []) (λ n. refl) t (turns_to_end ends) told now few seen
