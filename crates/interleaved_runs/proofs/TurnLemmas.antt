-- Runs that move on, turn by turn.
use Rattle.std.proofs.Common.{◌≡◌, ◌≢◌, ℕ, ◌+◌, ◌<◌, ◌≤◌, List, [], ◌∷◌, ◌++◌, Option, Some, None, Bool, true, false, cond, refl, sym, ap, ◌∙◌, subst, arith}
use Rattle.std.proofs.Common.{rules, count_by, get_or, take, length, ⊎_elim, append-nil, get_or-set_same, get_or-set_other, tests}
use Rattle.std.proofs.Math.ListN.{set}
use Rattle.std.specs.Prelude.{min, ◌↔◌, ◌==◌, if◌then◌else◌}
use Rattle.std.specs.List.{sum}
use Rattle.std.proofs.lemmas.List.{take_more, take_more_set}
use Rattle.std.proofs.lemmas.List.Sums.{sum_by_push}
use Rattle.std.proofs.lemmas.Bool.{cases_eq}
use Rattle.environment_model.specs.Environment.{Environment}
use Rattle.code_model.specs.Code.{Code}
use Rattle.machine_model.specs.States.{State, End, Running, Ended}
use Rattle.machine_model.specs.Next.{state_after, course_of}
use Rattle.machine_model.specs.Runs.{After}
use Rattle.target_vars.specs.EnvValue.{EnvValue}
use Rattle.verified_runs.specs.RunValue.{RunValue, HasEnded, all_steps}
use Rattle.verified_runs.proofs.Ends.{ends_too}
use Rattle.interleaved_runs.specs.Turns.{continues, is_live, IsMoved, own_turns, IsPlayed}

-- the states after steps are decided
abbrev pub AreDecided : Type 0
AreDecided = (c : Code) (v : Environment) (k : ℕ) (s : State) → After c v k s ↔ (state_after c v k ≡ Some s)

-- ---- which runs continue

pub ended_is_over : AreDecided → (r : RunValue) → HasEnded r → is_live r ≡ false
ended_is_over decided r h = ap continues ((decided r.code r.env.entries r.steps (Ended h.0)).0 h.1)

unless_ended : (s : Option State) → ((e : End) → s ≡ Some (Ended e) → ⊥) → continues s ≡ true
unless_ended None never = refl
unless_ended (Some (Running f)) never = refl
unless_ended (Some (Ended e)) never = absurd (never e refl)

pub others_go_on : AreDecided → (r : RunValue) → (HasEnded r → ⊥) → is_live r ≡ true
others_go_on decided r never =
    unless_ended (state_after r.code r.env.entries r.steps) (λ e is. never (e, (decided r.code r.env.entries r.steps (Ended e)).1 is))

-- ---- one move after another

-- and its whole run has the same number of steps
all_alike : (old new : RunValue) → new.code ≡ old.code → new.env ≡ old.env → all_steps new ≡ all_steps old
all_alike old new code env = ap (λ c. (course_of c new.env.entries).steps) code ∙ ap (λ (e : EnvValue). (course_of old.code e.entries).steps) env

steps_join : (from m n mid to k : ℕ) → mid ≡ min (from + m) k → to ≡ min (mid + n) k → to ≡ min (from + (m + n)) k
steps_join from m n mid to k first second = omega (arith, first, second)

pub moves_join : (old mid new : RunValue) (m n : ℕ) → IsMoved old m mid → IsMoved mid n new → IsMoved old (m + n) new
moves_join old mid new m n first second = grind (arith, steps_join, all_alike, ends_too)

sum_one : (n : ℕ) → n ≡ n + 0
sum_one n = omega arith

-- one more turn of its own
pub plays_on : (old mid new : RunValue) (ns : List ℕ) (n : ℕ) → IsPlayed old ns mid → IsMoved mid n new → IsPlayed old (ns ++ n ∷ []) new
plays_on old mid new [] n played moved = subst (λ r. IsMoved r (n + 0) new) played (subst (λ m. IsMoved mid m new) (sum_one n) moved)
plays_on old mid new (m ∷ ns) n played moved =
    let pushed : sum (ns ++ n ∷ []) ≡ sum ns + n = sum_by_push (λ x. x) ns n in
    let all : m + sum ns + n ≡ m + sum (ns ++ n ∷ []) = omega (arith, pushed) in
    subst (λ t. IsMoved old t new) all (moves_join old mid new (m + sum ns) n played moved)

-- ---- the turns of one run

own_one_more : (i : ℕ) (turns : List (ℕ × ℕ)) (turn : ℕ × ℕ) → own_turns i (turns ++ turn ∷ []) ≡ own_turns i turns ++ own_turns i (turn ∷ [])
own_one_more i [] turn = refl
own_one_more i (t ∷ ts) turn = by_first (t.0 == i) (own_one_more i ts turn)
  where
    by_first : (own : Bool) → own_turns i (ts ++ turn ∷ []) ≡ own_turns i ts ++ own_turns i (turn ∷ [])
        → (if own then t.1 ∷ own_turns i (ts ++ turn ∷ []) else own_turns i (ts ++ turn ∷ [])) ≡ (if own then t.1 ∷ own_turns i ts else own_turns i ts)
        ++ own_turns i (turn ∷ [])
    by_first true rest = ap (λ ns. t.1 ∷ ns) rest
    by_first false rest = rest

pub own_next : (i : ℕ) (turns : List (ℕ × ℕ)) (at : ℕ) (d : ℕ × ℕ) → at < length turns → own_turns i (take (at + 1) turns) ≡ own_turns i (take at turns)
    ++ own_turns i (get_or turns at d ∷ [])
own_next i turns at d inside = ap (own_turns i) (take_more turns at d inside) ∙ own_one_more i (take at turns) (get_or turns at d)

own_yes : (i : ℕ) (turn : ℕ × ℕ) → i ≡ turn.0 → own_turns i (turn ∷ []) ≡ turn.1 ∷ []
own_yes i turn is = let yes : (turn.0 == i) ≡ true = search (rules, tests) in rw yes refl

own_no : (i : ℕ) (turn : ℕ × ℕ) → i ≢ turn.0 → own_turns i (turn ∷ []) ≡ []
own_no i turn isnt = let no : (turn.0 == i) ≡ false = search (rules, tests) in rw no refl

-- ---- one run of all has moved

module _ (old runs : List RunValue) (p n : ℕ) (new : RunValue) where
  -- the invariant of a loop over the runs
  pub moved_next : p < length runs → ((d : RunValue) → IsMoved (get_or runs p d) n new)
      → ((i : ℕ) (d : RunValue) → i < p → IsMoved (get_or old i d) n (get_or runs i d))
      → ((i : ℕ) (d : RunValue) → p ≤ i → get_or runs i d ≡ get_or old i d)
      → (i : ℕ) (d : RunValue) → i < p + 1 → IsMoved (get_or old i d) n (get_or (set runs p new) i d)
  moved_next inside here before others i d lt = ⊎_elim at_it elsewhere (cases_eq i p)
    where
      at_it : i ≡ p → IsMoved (get_or old i d) n (get_or (set runs p new) i d)
      at_it is =
          let written : get_or (set runs p new) p d ≡ new = get_or-set_same runs p new d inside in
          subst (λ m. IsMoved (get_or old m d) n (get_or (set runs p new) m d)) (sym is)
          (subst (λ r. IsMoved (get_or old p d) n r) (sym written) (subst (λ r. IsMoved r n new) (others p d (omega arith)) (here d)))

      elsewhere : i ≢ p → IsMoved (get_or old i d) n (get_or (set runs p new) i d)
      elsewhere isnt = subst (λ r. IsMoved (get_or old i d) n r) (sym (get_or-set_other runs p i new d isnt)) (before i d (omega arith))

  pub others_next : ((i : ℕ) (d : RunValue) → p ≤ i → get_or runs i d ≡ get_or old i d)
      → (i : ℕ) (d : RunValue) → p + 1 ≤ i → get_or (set runs p new) i d ≡ get_or old i d
  others_next others i d le = let isnt : i ≢ p = omega arith in get_or-set_other runs p i new d isnt ∙ others i d (omega arith)

  pub live_next : (live : Bool) → p < length runs → is_live new ≡ live → count_by is_live (take (p + 1) (set runs p new)) ≡ count_by is_live (take p runs)
      + cond live 1 0
  live_next live inside is =
      ap (count_by is_live) (take_more_set runs p new inside)
      ∙ sum_by_push (λ r. cond (is_live r) 1 0) (take p runs) new
      ∙ ap (λ b. count_by is_live (take p runs) + cond b 1 0) is

  -- the invariant of a loop over a schedule
  pub played_next : (turns : List (ℕ × ℕ)) (at : ℕ) (e : ℕ × ℕ) → at < length turns → get_or turns at e ≡ (p, n)
      → p < length runs → ((d : RunValue) → IsMoved (get_or runs p d) n new)
      → ((i : ℕ) (d : RunValue) → i < length old → IsPlayed (get_or old i d) (own_turns i (take at turns)) (get_or runs i d))
      → (i : ℕ) (d : RunValue) → i < length old → IsPlayed (get_or old i d) (own_turns i (take (at + 1) turns)) (get_or (set runs p new) i d)
  played_next turns at e more turn inside here before i d lt = ⊎_elim at_it elsewhere (cases_eq i p)
    where
      next : own_turns i (take (at + 1) turns) ≡ own_turns i (take at turns) ++ own_turns i ((p, n) ∷ [])
      next = own_next i turns at e more ∙ ap (λ t. own_turns i (take at turns) ++ own_turns i (t ∷ [])) turn

      at_it : i ≡ p → IsPlayed (get_or old i d) (own_turns i (take (at + 1) turns)) (get_or (set runs p new) i d)
      at_it is =
          let own : own_turns i (take (at + 1) turns) ≡ own_turns i (take at turns) ++ n ∷ [] =
          next ∙ ap (λ ns. own_turns i (take at turns) ++ ns) (own_yes i (p, n) is) in
          let written : get_or (set runs p new) i d ≡ new = ap (λ m. get_or (set runs p new) m d) is ∙ get_or-set_same runs p new d inside in
          let moved : IsMoved (get_or runs i d) n new = subst (λ m. IsMoved (get_or runs m d) n new) (sym is) (here d) in
          subst (λ ns. IsPlayed (get_or old i d) ns (get_or (set runs p new) i d)) (sym own)
          (subst (λ r. IsPlayed (get_or old i d) (own_turns i (take at turns) ++ n ∷ []) r) (sym written)
          (plays_on (get_or old i d) (get_or runs i d) new (own_turns i (take at turns)) n (before i d lt) moved))

      elsewhere : i ≢ p → IsPlayed (get_or old i d) (own_turns i (take (at + 1) turns)) (get_or (set runs p new) i d)
      elsewhere isnt = grind (arith, next, own_no, append-nil, set, get_or-set_other)
