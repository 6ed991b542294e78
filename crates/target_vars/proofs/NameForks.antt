-- The search for a name along forks.

use Rattle.std.proofs.Common.{◌≡◌, ℕ, suc, zero, ◌+◌, ◌<◌, ◌≤◌, ◌⊎◌, List, [], ◌∷◌, ◌++◌, Bool, true, false, length, get_or, set, slice_get}
use Rattle.std.proofs.lemmas.Grind.{common_steps}
use Rattle.std.proofs.Common.{Some, bytes_eq, refl, sym, ap, ◌∙◌, subst, arith, length-append}
use Rattle.std.specs.Prelude.{slice_range}
use Rattle.std.specs.Option.{option_map}
use Rattle.std.proofs.lemmas.Bool.{cases_eq}
use Rattle.std.proofs.lemmas.List.{length-map, length-set}
use Rattle.std.proofs.lemmas.List.Elements.{All-from_get_or}
use Rattle.std.proofs.lemmas.List.Folds.{list_any_none}
use Rattle.std.proofs.lemmas.Option.{slice_get-get_or, slice_get_within, slice_get_past}
use Rattle.std.proofs.lemmas.Slice.Eq.{bytes_eq-Decides}
use Rattle.text_model.specs.Texts.{Text}
use Rattle.environment_model.specs.Environment.{is_among}
use Rattle.target_vars.specs.Private.NamesValue.{placed_names, branch_of, branch_at, turned, Passes, Leads, AreNames, IsGap, IsForked}
use Rattle.target_vars.specs.declared.names.NamePlace.{NamePlace}
use Rattle.target_vars.specs.declared.names.forks.Fork.{Fork}
use Rattle.target_vars.specs.declared.names.forks.Branch.{Branch}
use Rattle.target_vars.specs.declared.names.forks.Branch.TheVariants.{Further, Ends}

-- ---- one search

-- there is a fork where a search continues
pub fork_there : (forks : List Fork) (text : Text) (at : ℕ) (branch : Branch) → branch_at forks text at ≡ Some branch → at < length forks
fork_there forks text at branch is = grind (arith, slice_get_past)

pub ends_there : (path : List ℕ) (forks : List Fork) (text : Text) (from last number : ℕ) → Passes path forks text from last number
    → branch_at forks text last ≡ Some (Ends number)
ends_there [] forks text from last number passes = passes.1
ends_there (next ∷ path) forks text from last number passes = ends_there path forks text next last number passes.1

same_end : (path path' : List ℕ) (forks : List Fork) (text : Text) (from last last' number number' : ℕ) → Passes path forks text from last number
    → Passes path' forks text from last' number' → number ≡ number'
same_end [] [] forks text from last last' number number' p p' = grind (arith, common_steps)
same_end [] (next ∷ path') forks text from last last' number number' p p' = grind (arith, common_steps)
same_end (next ∷ path) [] forks text from last last' number number' p p' = grind (arith, common_steps)
same_end (next ∷ path) (next' ∷ path') forks text from last last' number number' p p' =
    let same : next ≡ next' = cc in
    same_end path path' forks text next last last' number number' p.1 (subst (λ a. Passes path' forks text a last' number') (sym same) p'.1)

pub one_end : (forks : List Fork) (text : Text) (last last' number number' : ℕ) → Leads forks text last number → Leads forks text last' number'
    → number ≡ number'
one_end forks text last last' number number' leads leads' = same_end leads.path leads'.path forks text 0 last last' number number' leads.passes leads'.passes

-- ---- the name at the end

-- the search for a name ends with another name: then there is no such name
pub lacking : (bytes : Text) (places : List NamePlace) (forks : List Fork) (name : Text) (last number : ℕ) → AreNames bytes places forks
    → Leads forks name last number
    → bytes_eq (get_or (placed_names bytes places) number []) name ≡ false → is_among name (placed_names bytes places) ≡ false
lacking bytes places forks name last number are leads other =
    list_any_none (λ n. bytes_eq n name) names (All-from_get_or (λ n. bytes_eq n name ≡ false) names [] every)
  where
    names : List Text
    names = placed_names bytes places

    every : (i : ℕ) → i < length (placed_names bytes places) → bytes_eq (get_or (placed_names bytes places) i []) name ≡ false
    every i below = by_cases (bytes_eq (get_or (placed_names bytes places) i []) name) refl
      where
        by_cases : (r : Bool) → bytes_eq (get_or (placed_names bytes places) i []) name ≡ r → bytes_eq (get_or (placed_names bytes places) i []) name ≡ false
        by_cases false is = is
        by_cases true is =
            let same : get_or (placed_names bytes places) i [] ≡ name = (bytes_eq-Decides (get_or (placed_names bytes places) i []) name).0 is in
            let own = are.found i name (slice_get-get_or (placed_names bytes places) i [] below ∙ ap Some same) in
            let at : i ≡ number = one_end forks name own.0 last i number own.1 leads in
            subst (λ k. bytes_eq (get_or (placed_names bytes places) k []) name ≡ false) (sym at) other

-- the name with which the search for it ends
pub found : (bytes : Text) (places : List NamePlace) (forks : List Fork) (name : Text) (number : ℕ) → AreNames bytes places forks → number < length forks
    → bytes_eq (get_or (placed_names bytes places) number []) name ≡ true → slice_get (placed_names bytes places) number ≡ Some name
found bytes places forks name number are below same = grind (arith, length-map, slice_get-get_or, bytes_eq-Decides)

-- the search for a name ends with another one: its last fork is the gap of the name
pub gap_of : (bytes : Text) (places : List NamePlace) (forks : List Fork) (name : Text) (last number : ℕ) → AreNames bytes places forks → number < length forks
    → Leads forks name last number
    → bytes_eq (get_or (placed_names bytes places) number []) name ≡ false → IsGap (record { listed = placed_names bytes places; forks = forks }) name last
gap_of bytes places forks name last number are below leads other =
    let long = length-map places (λ (p : NamePlace). slice_range bytes p.start p.end) in
    let one_each = are.one_each in
    record { lacks = lacking bytes places forks name last number are leads other; ends = λ some. (number, omega arith, leads) }

-- ---- one more element

pub get-append : {X : Type 0} (xs more : List X) (i : ℕ) → i < length xs → slice_get (xs ++ more) i ≡ slice_get xs i
get-append [] more i below = absurd (omega arith)
get-append (x ∷ xs) more zero below = refl
get-append (x ∷ xs) more (suc i) below = get-append xs more i (omega arith)

pub get-last : {X : Type 0} (xs : List X) (x : X) → slice_get (xs ++ x ∷ []) (length xs) ≡ Some x
get-last [] x = refl
get-last (y ∷ xs) x = get-last xs x

get-set_same : {X : Type 0} (xs : List X) (i : ℕ) (x : X) → i < length xs → slice_get (set xs i x) i ≡ Some x
get-set_same [] i x below = absurd (omega arith)
get-set_same (y ∷ xs) zero x below = refl
get-set_same (y ∷ xs) (suc i) x below = get-set_same xs i x (omega arith)

get-set_other : {X : Type 0} (xs : List X) (i j : ℕ) (x : X) → (i ≡ j → ⊥) → slice_get (set xs i x) j ≡ slice_get xs j
get-set_other [] i j x differs = refl
get-set_other (y ∷ xs) zero zero x differs = absurd (differs refl)
get-set_other (y ∷ xs) zero (suc j) x differs = refl
get-set_other (y ∷ xs) (suc i) zero x differs = refl
get-set_other (y ∷ xs) (suc i) (suc j) x differs = get-set_other xs i j x (λ same. differs (ap suc same))

-- ---- one more fork

-- the fork of the first name
pub forked_first : (forks : List Fork) (name : Text) (gap : ℕ) (fork : Fork) → length forks ≤ gap → IsForked forks name gap fork (forks ++ fork ∷ [])
forked_first forks name gap fork past = grind (arith, length-append, get-last, get-append)

-- where a search continues from a fork with another branch for a name
turned-own : (fork : Fork) (name : Text) (branch : Branch) → branch_of (turned fork name branch) name ≡ branch
turned-own fork name branch = grind (arith, common_steps)

turned-of : (fork : Fork) (name text : Text) (branch : Branch) → (branch_of (turned fork name branch) text ≡ branch_of fork text)
    ⊎ ((branch_of (turned fork name branch) text ≡ branch) × (branch_of fork text ≡ branch_of fork name))
turned-of fork name text branch = grind (arith, common_steps)

-- the last fork of a search turns to the next fork, which comes after all others
forked_by : (forks changed : List Fork) (name : Text) (gap : ℕ) (fork last turn : Fork) → slice_get forks gap ≡ Some last → slice_get changed gap ≡ Some turn
    → length changed ≡ length forks
    → ((at : ℕ) → (gap ≡ at → ⊥) → slice_get changed at ≡ slice_get forks at) → branch_of turn name ≡ Further (length forks)
    → ((text : Text) → (branch_of turn text ≡ branch_of last text)
    ⊎ ((branch_of turn text ≡ Further (length forks)) × (branch_of last text ≡ branch_of last name)))
    → IsForked forks name gap fork (changed ++ fork ∷ [])
forked_by forks changed name gap fork last turn is turns long kept own of_text = record {
  longer = length-append changed (fork ∷ []) ∙ ap (λ n. n + 1) long;
  last = λ text. ap (option_map (λ (f : Fork). branch_of f text)) (subst (λ n. slice_get (changed ++ fork ∷ []) n ≡ Some fork) long (get-last changed fork));
  own = λ below. here name below ∙ ap Some own;
  others = λ text at below. by_cases text at below (cases_eq gap at);
}
  where
    before : (text : Text) (at : ℕ) → at < length forks → branch_at (changed ++ fork ∷ []) text at ≡ branch_at changed text at
    before text at below = ap (option_map (λ (f : Fork). branch_of f text)) (get-append changed (fork ∷ []) at (omega arith))

    here : (text : Text) → gap < length forks → branch_at (changed ++ fork ∷ []) text gap ≡ Some (branch_of turn text)
    here text below = before text gap below ∙ ap (option_map (λ (f : Fork). branch_of f text)) turns

    by_cases : (text : Text) (at : ℕ) → at < length forks → (gap ≡ at) ⊎ (gap ≡ at → ⊥)
        → (branch_at (changed ++ fork ∷ []) text at ≡ branch_at forks text at)
        ⊎ ((at ≡ gap) × (branch_at (changed ++ fork ∷ []) text at ≡ Some (Further (length forks))) × (branch_at forks text gap ≡ branch_at forks name gap))
    by_cases text at below h = grind (arith, before)

pub forked_at : (forks : List Fork) (name : Text) (gap : ℕ) (fork last : Fork) → slice_get forks gap ≡ Some last
    → IsForked forks name gap fork (set forks gap (turned last name (Further (length forks))) ++ fork ∷ [])
forked_at forks name gap fork last is =
    let turn = turned last name (Further (length forks)) in
    forked_by forks (set forks gap turn) name gap fork last turn is (get-set_same forks gap turn (slice_get_within forks gap last is))
    (length-set forks gap turn)
    (λ at other. get-set_other forks gap at turn other) (turned-own last name (Further (length forks)))
    (λ text. turned-of last name text (Further (length forks)))
