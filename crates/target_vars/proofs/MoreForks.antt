-- Searches after one more fork.

use Rattle.std.proofs.Common.{◌≡◌, ℕ, ◌+◌, ◌<◌, ◌≤◌, ◌⊎◌, inl, inr, List, [], ◌∷◌, ◌++◌, length, get_or, slice_get, Some, All, refl, sym, ap}
use Rattle.std.proofs.lemmas.Grind.{common_steps}
use Rattle.std.proofs.Common.{◌∙◌, subst, arith, length-append, ⊎_elim}
use Rattle.std.specs.Prelude.{slice_range}
use Rattle.std.proofs.lemmas.Bool.{cases_lt}
use Rattle.std.proofs.lemmas.List.{length-map, map-append, drop_at, take_all}
use Rattle.std.proofs.lemmas.List.Elements.{All-push, All-weaker, All-head, All-tail}
use Rattle.std.proofs.lemmas.Option.{slice_get_within, get_or_from_slice_get}
use Rattle.text_model.specs.Texts.{Text}
use Rattle.target_vars.specs.Private.NamesValue.{placed_names, branch_of, branch_at, Passes, Leads, IsForward, AreForward, IsNamePlace, AreNames, IsGap}
use Rattle.target_vars.specs.Private.NamesValue.{Separates, IsForked}
use Rattle.target_vars.specs.declared.names.NamePlace.{NamePlace}
use Rattle.target_vars.specs.declared.names.forks.Fork.{Fork}
use Rattle.target_vars.specs.declared.names.forks.Branch.{Branch}
use Rattle.target_vars.specs.declared.names.forks.Branch.TheVariants.{Further, Ends}
use Rattle.target_vars.proofs.NameForks.{ends_there, fork_there, found, get-append, get-last}

-- a search that may get one more step
further : (path : List ℕ) (old new : List Fork) (text : Text) (from last number : ℕ)
    → ((at next : ℕ) → branch_at old text at ≡ Some (Further next) → branch_at new text at ≡ Some (Further next))
    → ((at : ℕ) → branch_at old text at ≡ Some (Ends number) → (branch_at new text at ≡ Some (Ends number))
    ⊎ ((branch_at new text at ≡ Some (Further (length old))) × (branch_at new text (length old) ≡ Some (Ends number))))
    → Passes path old text from last number → (path' : List ℕ) × (last' : ℕ) × Passes path' new text from last' number
further [] old new text from last number steps ends passes =
    ⊎_elim
    (λ stays. ([], from, (refl, stays)))
    (λ (step, end). (length old ∷ [], length old, (step, (refl, end))))
    (ends from (subst (λ a. branch_at old text a ≡ Some (Ends number)) (sym passes.0) passes.1))
further (next ∷ path) old new text from last number steps ends passes =
    let more = further path old new text next last number steps ends passes.1 in
    (next ∷ more.0, more.1, (steps from next passes.0, more.2))

-- the search for the new name gets one more step, and ends with its number
arrives : (path : List ℕ) (old new : List Fork) (name : Text) (from last number n : ℕ)
    → ((at next : ℕ) → branch_at old name at ≡ Some (Further next) → branch_at new name at ≡ Some (Further next))
    → branch_at new name last ≡ Some (Further (length old)) → branch_at new name (length old) ≡ Some (Ends n)
    → Passes path old name from last number → (path' : List ℕ) × Passes path' new name from (length old) n
arrives [] old new name from last number n steps step end passes =
    (length old ∷ [], (subst (λ a. branch_at new name a ≡ Some (Further (length old))) (sym passes.0) step, (refl, end)))
arrives (next ∷ path) old new name from last number n steps step end passes =
    let more = arrives path old new name next last number n steps step end passes.1 in
    (next ∷ more.0, (steps from next passes.0, more.1))

-- ---- one more name

-- the bytes of a name keep their place
same_name : (bytes more : Text) (p : NamePlace) → IsNamePlace bytes p → slice_range (bytes ++ more) p.start p.end ≡ slice_range bytes p.start p.end
same_name bytes more p is = grind (arith, common_steps)

same_names : (bytes more : Text) (places : List NamePlace) → All (IsNamePlace bytes) places → placed_names (bytes ++ more) places ≡ placed_names bytes places
same_names bytes more [] are = refl
same_names bytes more (p ∷ ps) are =
    ap (λ n. n ∷ placed_names (bytes ++ more) ps) (same_name bytes more p (All-head (IsNamePlace bytes) p ps are))
    ∙ ap (λ ns. slice_range bytes p.start p.end ∷ ns) (same_names bytes more ps (All-tail (IsNamePlace bytes) p ps are))

pub placed_names-push : (bytes name : Text) (places : List NamePlace) (p : NamePlace) → All (IsNamePlace bytes) places → p.start ≡ length bytes
    → p.end ≡ length bytes + length name → placed_names (bytes ++ name) (places ++ p ∷ []) ≡ placed_names bytes places ++ name ∷ []
placed_names-push bytes name places p placed start end = grind (arith, drop_at, take_all, map-append, same_names)

-- a branch that leads forward still does when there are more forks
more_forks : (n m at : ℕ) (branch : Branch) → n ≤ m → IsForward n at branch → IsForward m at branch
more_forks n m at branch le is = grind (arith, common_steps)

forward-push : (listed : List Text) (old new : List Fork) (name : Text) (gap : ℕ) (fork : Fork) → length listed ≡ length old → AreForward old
    → Separates (record { listed = listed; forks = old }) name gap fork → IsForked old name gap fork new → AreForward new
forward-push listed old new name gap fork each forward separates forked = λ text at branch is. by_cases text at branch is (cases_lt at (length old))
  where
    so_far : (text : Text) (at : ℕ) (branch : Branch) → at < length old → branch_at new text at ≡ Some branch
        → (branch_at new text at ≡ branch_at old text at)
        ⊎ ((at ≡ gap) × (branch_at new text at ≡ Some (Further (length old))) × (branch_at old text gap ≡ branch_at old name gap))
        → IsForward (length new) at branch
    so_far text at branch below is (inl same) = let longer =
        forked.longer in more_forks (length old) (length new) at branch (omega arith) (forward text at branch (sym same ∙ is))
    so_far text at branch below is (inr both) = grind (arith, common_steps)

    at_last : (text : Text) (branch : Branch) (number : ℕ) → number ≤ length old → branch_of fork text ≡ Ends number
        → branch_at new text (length old) ≡ Some branch → IsForward (length new) (length old) branch
    at_last text branch number within ends is = grind (arith, common_steps)

    by_cases : (text : Text) (at : ℕ) (branch : Branch) → branch_at new text at ≡ Some branch → (at < length old) ⊎ (length old ≤ at)
        → IsForward (length new) at branch
    by_cases text at branch is (inl below) = so_far text at branch below is (forked.others text at below)
    by_cases text at branch is (inr past) =
        let below = fork_there new text at branch is in
        let longer = forked.longer in
        let here : at ≡ length old = omega arith in
        let ends = separates.ends text in
        subst (λ a. IsForward (length new) a branch) (sym here)
        (at_last text branch ends.0 (let within = ends.1 in omega arith) ends.2 (subst (λ a. branch_at new text a ≡ Some branch) here is))

-- the search for an existing name still ends with its number
still_found : (listed : List Text) (old new : List Fork) (name text : Text) (gap : ℕ) (fork : Fork) (m number last : ℕ)
    → branch_at old name gap ≡ Some (Ends m) → branch_of fork (get_or listed m []) ≡ Ends m
    → IsForked old name gap fork new → slice_get listed number ≡ Some text → Leads old text last number → (last' : ℕ) × Leads new text last' number
still_found listed old new name text gap fork m number last gap_ends other forked named leads =
    let more = further leads.path old new text 0 last number steps ends leads.passes in
    (more.1, record { path = more.0; passes = more.2 })
  where
    at_gap : (at : ℕ) (branch : Branch) → branch_at old text at ≡ Some branch → at ≡ gap → branch_at old text gap ≡ branch_at old name gap → branch ≡ Ends m
    at_gap at branch is here alike = grind (arith, common_steps)

    steps : (at next : ℕ) → branch_at old text at ≡ Some (Further next) → branch_at new text at ≡ Some (Further next)
    steps at next is =
        ⊎_elim
        (λ same. same ∙ is)
        (λ both. let ends = at_gap at (Further next) is both.0 both.2 in absurd (cc))
        (forked.others text at (fork_there old text at (Further next) is))

    ends : (at : ℕ) → branch_at old text at ≡ Some (Ends number) → (branch_at new text at ≡ Some (Ends number))
        ⊎ ((branch_at new text at ≡ Some (Further (length old))) × (branch_at new text (length old) ≡ Some (Ends number)))
    ends at is =
        ⊎_elim
        (λ same. inl (same ∙ is))
        (λ both. inr (both.1, ended (at_gap at (Ends number) is both.0 both.2)))
        (forked.others text at (fork_there old text at (Ends number) is))
      where
        ended : Ends number ≡ Ends m → branch_at new text (length old) ≡ Some (Ends number)
        ended alike = grind (arith, get_or_from_slice_get)

-- the search for the new name ends with its number
new_found : (old new : List Fork) (name : Text) (gap : ℕ) (fork : Fork) (m n : ℕ) → Leads old name gap m → branch_of fork name ≡ Ends n
    → IsForked old name gap fork new → Leads new name (length old) n
new_found old new name gap fork m n leads own forked = grind (arith, ends_there, arrives, fork_there)

-- every name is found along the forks
abbrev FindsAll : List Text → List Fork → Type 0
FindsAll listed forks = (number : ℕ) (text : Text) → slice_get listed number ≡ Some text → (last : ℕ) × Leads forks text last number

all_found : (listed : List Text) (old new : List Fork) (name : Text) (gap : ℕ) (fork : Fork) → length listed ≡ length old → FindsAll listed old
    → IsGap (record { listed = listed; forks = old }) name gap
    → Separates (record { listed = listed; forks = old }) name gap fork → IsForked old name gap fork new → FindsAll (listed ++ name ∷ []) new
all_found listed old new name gap fork each found is separates forked = λ number text named. by_cases number text named (cases_lt number (length listed))
  where
    newest : (0 < length listed) ⊎ (length listed ≤ 0) → (last : ℕ) × Leads new name last (length listed)
    newest (inl some) = let ends = is.ends some in (length old, new_found old new name gap fork ends.0 (length listed) ends.2 separates.own forked)
    newest (inr none) = grind (arith, common_steps)

    by_cases : (number : ℕ) (text : Text) → slice_get (listed ++ name ∷ []) number ≡ Some text → (number < length listed) ⊎ (length listed ≤ number)
        → (last : ℕ) × Leads new text last number
    by_cases number text named (inl below) =
        let ends = is.ends (omega arith) in
        let gap_ends = ends_there ends.2.path old name 0 gap ends.0 ends.2.passes in
        let was = sym (get-append listed (name ∷ []) number below) ∙ named in
        let own = found number text was in
        still_found listed old new name text gap fork ends.0 number own.0 gap_ends (separates.other ends.0 gap_ends) forked was own.1
    by_cases number text named (inr past) =
        let within = slice_get_within (listed ++ name ∷ []) number text named in
        let long = length-append listed (name ∷ []) in
        let here : number ≡ length listed = omega arith in
        let last = get-last listed name in
        let named_here : slice_get (listed ++ name ∷ []) (length listed) ≡ Some text = subst (λ k. slice_get (listed ++ name ∷ []) k ≡ Some text) here named in
        let same : name ≡ text = cc in
        subst (λ k. (l : ℕ) × Leads new text l k) (sym here) (subst (λ t. (l : ℕ) × Leads new t l (length listed)) same (newest (cases_lt 0 (length listed))))

pub are_names-push : (bytes name : Text) (places : List NamePlace) (old new : List Fork) (p : NamePlace) (gap : ℕ) (fork : Fork) → AreNames bytes places old
    → IsGap (record { listed = placed_names bytes places; forks = old }) name gap
    → Separates (record { listed = placed_names bytes places; forks = old }) name gap fork → IsForked old name gap fork new → p.start ≡ length bytes
    → p.end ≡ length bytes + length name
    → AreNames (bytes ++ name) (places ++ p ∷ []) new
are_names-push bytes name places old new p gap fork are is separates forked start end =
    let names = placed_names bytes places in
    let each : length names ≡ length old = length-map places (λ (q : NamePlace). slice_range bytes q.start q.end) ∙ sym are.one_each in
    let long : length (places ++ p ∷ []) ≡ length places + 1 = length-append places (p ∷ []) in
    let longer = forked.longer in
    let one_each = are.one_each in
    let whole = length-append bytes name in
    record {
      placed = All-push (IsNamePlace (bytes ++ name)) places p
          (All-weaker (IsNamePlace bytes) (IsNamePlace (bytes ++ name)) (λ q at. record { start_le_end = at.start_le_end; inside = omega (arith, at.inside) })
          places are.placed) (record { start_le_end = omega arith; inside = omega arith });
      one_each = omega arith;
      forward = forward-push names old new name gap fork each are.forward separates forked;
      found = rw (placed_names-push bytes name places p are.placed start end) (all_found names old new name gap fork each are.found is separates forked);
    }
