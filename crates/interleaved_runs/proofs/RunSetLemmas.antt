-- Which runs are begun, and that they end.
use Rattle.std.proofs.Common.{◌≡◌, ℕ, ◌<◌, List, [], ◌∷◌, ◌++◌, Option, Some, None, true, false, refl, sym, ap, ◌∙◌, subst, arith, length, get_or, take, map}
use Rattle.std.specs.Prelude.{◌↔◌, ◌+◌, if◌then◌else◌, Bool, min}
use Rattle.std.specs.List.{cons_option, zip}
use Rattle.std.proofs.lemmas.Bool.{lt-ltb}
use Rattle.std.proofs.lemmas.List.{get_or_default, length-map, map-append, take_more, take_all}
use Rattle.std.proofs.lemmas.Slice.Zip.{get_or-zip, length-zip}
use Rattle.std.proofs.Math.ListN.{get_or-map}
use Rattle.std.proofs.lemmas.List.Elements.{filter_map-append}
use Rattle.environment_model.specs.Environment.{Environment}
use Rattle.code_model.specs.Code.{Code}
use Rattle.machine_model.specs.States.{End, Link, NoLink, Ended}
use Rattle.machine_model.specs.Runs.{After, EndsWith, EndsAfter, Outcome}
use Rattle.machine_model.specs.Runs as run
use Rattle.machine_model.specs.Next.{Course, course, course_of}
use Rattle.machine_model.specs.Safe.{IsSafe}
use Rattle.target_vars.specs.EnvValue.{EnvValue}
use Rattle.verified_runs.specs.RunValue.{RunValue, new_run, most_bytes}
use Rattle.verified_runs.specs.declared.run.TheConstants.{MAX_LINK_BYTES}
use Rattle.interleaved_runs.specs.Fates.{is_over_budget, run_of, runs_of}
use Rattle.interleaved_runs.specs.Private.Rounds.{IsFresh, AreFresh}
use Rattle.interleaved_runs.specs.Private.RunSets.{excess_of, IsRunSetOf}

-- the outcome of each run is the one that is computed
abbrev pub CoursesAreDecided : Type 0
CoursesAreDecided = (c : Code) (v : Environment) (k : ℕ) (o : Outcome) → EndsWith c v k o ↔ (course_of c v ≡ course k o)

-- ---- the budget

is_over : (c : Code) (e : EnvValue) (n : ℕ) → n ≡ most_bytes c e → MAX_LINK_BYTES < n → is_over_budget c e ≡ true
is_over c e n is over = lt-ltb MAX_LINK_BYTES (most_bytes c e) (subst (λ m. MAX_LINK_BYTES < m) is over)

module _ (c : Code) (e : EnvValue) (n : ℕ) where
  pub an_excess : n ≡ most_bytes c e → MAX_LINK_BYTES < n → excess_of (c, e) ≡ Some n
  an_excess is over = ap (λ b. if b then Some (most_bytes c e) else None) (is_over c e n is over) ∙ ap (λ m. Some m) (sym is)

  pub no_run : n ≡ most_bytes c e → MAX_LINK_BYTES < n → runs_of ((c, e) ∷ []) ≡ []
  no_run is over = ap (λ b. cons_option (if b then None else Some (new_run c e)) []) (is_over c e n is over)

-- ---- accepted code ends

reaches_its_end : (c : Code) (v : Environment) (k : ℕ) (e : End) → After c v k (Ended e) → (o : Outcome) × EndsWith c v k o
reaches_its_end c v k (Link text) after = (run.Link text, after)
reaches_its_end c v k NoLink after = (run.NoLink, after)

ends_there : CoursesAreDecided → (c : Code) (v : Environment) (k : ℕ) (e : End) → After c v k (Ended e) → EndsAfter c v (course_of c v).steps
ends_there decided c v k e after =
    let ended = reaches_its_end c v k e after in
    let is : course_of c v ≡ course k ended.0 = (decided c v k ended.0).0 ended.1 in
    subst (λ (w : Course). EndsAfter c v w.steps) (sym is) (e, after)

fresh_run : CoursesAreDecided → (c : Code) (e : EnvValue) → IsSafe c → IsFresh (new_run c e)
fresh_run decided c e safe =
    let ends = safe.ends e.entries in
    record { start = refl; ends = ends_there decided c e.entries ends.0 ends.1 ends.2 }

pub fresh_alone : CoursesAreDecided → (c : Code) (e : EnvValue) → IsSafe c → AreFresh (runs_of ((c, e) ∷ []))
fresh_alone decided c e safe = if_started (is_over_budget c e)
  where
    if_started : (b : Bool) → AreFresh (cons_option (if b then None else Some (new_run c e)) [])
    if_started true = tt
    if_started false = (fresh_run decided c e safe, tt)

-- ---- one more

all_fresh : (runs more : List RunValue) → AreFresh runs → AreFresh more → AreFresh (runs ++ more)
all_fresh [] more fresh other = other
all_fresh (run ∷ runs) more fresh other = (fresh.0, all_fresh runs more fresh.1 other)

module _ (pairs : List (Code × EnvValue)) (n : ℕ) (p : Code × EnvValue) (over_old over_new : List (Option ℕ)) (old new : List RunValue) where
  pub one_more : n < length pairs → ((d : Code × EnvValue) → p ≡ get_or pairs n d) → IsRunSetOf (take n pairs) over_old old
      → over_new ≡ over_old ++ excess_of p ∷ [] → new ≡ old ++ runs_of (p ∷ []) → AreFresh (runs_of (p ∷ []))
      → IsRunSetOf (take (n + 1) pairs) over_new new
  one_more inside here before excess runs fresh =
      let next : take (n + 1) pairs ≡ take n pairs ++ p ∷ [] = take_more pairs n p inside ∙ ap (λ q. take n pairs ++ q ∷ []) (sym (here p)) in
      subst (λ ps. IsRunSetOf ps over_new new) (sym next) (record {
        excesses = excess ∙ ap (λ os. os ++ excess_of p ∷ []) before.excesses ∙ sym (map-append excess_of (take n pairs) (p ∷ []));
        runs = runs ∙ ap (λ rs. rs ++ runs_of (p ∷ [])) before.runs ∙ sym (filter_map-append run_of (take n pairs) (p ∷ []));
        fresh = subst AreFresh (sym runs) (all_fresh old (runs_of (p ∷ [])) before.fresh fresh);
      })

-- ---- codes and environments as pairs

module _ {A B C : Type 0} (f : A → B) (xs : List A) (ys : List C) (n : ℕ) where
  pub pair_at : (x : A) (y : C) → n < length xs → n < length ys → ((d : A) → x ≡ get_or xs n d) → ((d : C) → y ≡ get_or ys n d)
      → (d : B × C) → (f x, y) ≡ get_or (zip (map f xs) ys) n d
  pair_at x y in_xs in_ys first second d =
      let inside : n < length (map f xs) = subst (λ m. n < m) (sym (length-map xs f)) in_xs in
      let here : get_or (map f xs) n d.0 ≡ f x = get_or_default (map f xs) n d.0 (f x) inside ∙ get_or-map f xs n x ∙ ap f (sym (first x)) in
      sym (get_or-zip (map f xs) ys n d inside in_ys ∙ ap (λ z. (z, get_or ys n d.1)) here ∙ ap (λ z. (f x, z)) (sym (second d.1)))

  pub pairs_inside : n < length xs → n < length ys → n < length (zip (map f xs) ys)
  pairs_inside in_xs in_ys =
      let long = length-zip (map f xs) ys in
      let same = length-map xs f in
      omega (arith, long, same, in_xs, in_ys)

  pub all_pairs : n ≡ min (length xs) (length ys) → take n (zip (map f xs) ys) ≡ zip (map f xs) ys
  all_pairs all =
      let long = length-zip (map f xs) ys in
      let same = length-map xs f in
      take_all n (zip (map f xs) ys) (omega (arith, long, same, all))
