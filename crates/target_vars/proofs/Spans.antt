-- The spans of a list among those of all lists.
use Rattle.std.proofs.Common.{◌≡◌, ℕ, ◌<◌, ◌≤◌, List, [], ◌++◌, Bool, true, false, length, take, drop, get_or, insert, All, leb, ltb, refl, sym}
use Rattle.std.proofs.Common.{ap, ◌∙◌, subst, arith, length-drop, length-take-le, take-append-drop, append-nil, leb-true, ltb-true, ltb-false}
use Rattle.std.specs.Prelude.{◌==◌}
use Rattle.std.specs.List.{AllWithin, filter}
use Rattle.std.specs.List.Sorted.{IsNonDecreasingBy, IsPartitionPoint}
use Rattle.std.proofs.lemmas.Bool.{leb-false, ne_eqb}
use Rattle.std.proofs.lemmas.Bool.Decides.{Decides-eqb}
use Rattle.std.proofs.lemmas.List.{get_or-take, get_or-drop}
use Rattle.std.proofs.lemmas.List.Elements.{All-weaker, filter-append}
use Rattle.std.proofs.lemmas.List.Sorted.{IsNonDecreasingBy-insert}
use Rattle.std.proofs.lemmas.Grind.{common_steps}
use Rattle.text_model.proofs.Lists.{filter_all, filter_none}
use Rattle.target_vars.specs.Layout.{spans_of, AreAdjacent, IsPutLast}
use Rattle.target_vars.specs.declared.place.Span.{Span}

-- ---- filters

-- the elements before a place, and those from it on
before : {X : Type 0} (P : X → Type 0) (xs : List X) (i : ℕ) → i ≤ length xs → AllWithin P xs 0 i → All P (take i xs)
before P xs i within all k d below = grind (arith, length-take-le, get_or-take)

following : {X : Type 0} (P : X → Type 0) (xs : List X) (i : ℕ) → AllWithin P xs i (length xs) → All P (drop i xs)
following P xs i all k d below = grind (arith, length-drop, get_or-drop)

-- ---- the numbers of spans

is : (s : Span) (n : ℕ) → s.list ≡ n → (s.list == n) ≡ true
is s n same = (Decides-eqb s.list n).1 same

lower : (s : Span) (n : ℕ) → s.list < n → (s.list == n) ≡ false
lower s n below = ne_eqb s.list n (λ same. omega arith)

higher : (s : Span) (n : ℕ) → n < s.list → (s.list == n) ≡ false
higher s n above = ne_eqb s.list n (λ same. omega arith)

both : (s : Span) (n : ℕ) → ltb s.list n ≡ false → leb s.list n ≡ true → (s.list == n) ≡ true
both s n from upto = let ge = ltb-false s.list n from in let le = leb-true s.list n upto in is s n (omega arith)

-- ---- a list's spans

pub run_is : (xs : List Span) (n first count : ℕ) → first ≤ length xs → IsNonDecreasingBy (λ s. s.list) xs
    → IsPartitionPoint (λ s. ltb s.list n ≡ true) (λ s. ltb s.list n ≡ false) xs first
    → count ≤ length (drop first xs) → IsPartitionPoint (λ s. leb s.list n ≡ true) (λ s. leb s.list n ≡ false) (drop first xs) count
    → AreAdjacent xs n first count
run_is xs n first count in_first order firsts in_count counts =
    let size = length-drop first xs in
    let p : Span → Bool = λ s. s.list == n in
    let ys = drop first xs in
    let below : All (λ s. p s ≡ false) (take first xs) = All-weaker (λ s. ltb s.list n ≡ true) (λ s. p s ≡ false) (λ s h. lower s n (ltb-true s.list n h))
    (take first xs) (before (λ s. ltb s.list n ≡ true) xs first in_first firsts.0) in
    let from = following (λ s. ltb s.list n ≡ false) xs first firsts.1 in
    let sized = length-take-le count ys in_count in
    let at_least : (k : ℕ) (d : Span) → k < length (take count ys) → ltb (get_or (take count ys) k d).list n
    ≡ false = λ k d lt. subst (λ (x : Span). ltb x.list n ≡ false) (sym (get_or-take count ys k d (omega arith))) (from k d (omega arith)) in
    let upto = before (λ s. leb s.list n ≡ true) ys count in_count counts.0 in
    let own : All (λ s. p s ≡ true) (take count ys) = λ k d lt. both (get_or (take count ys) k d) n (at_least k d lt) (upto k d lt) in
    let above : All (λ s. p s ≡ false) (drop count ys) = All-weaker (λ s. leb s.list n ≡ false) (λ s. p s ≡ false) (λ s h. higher s n (leb-false s.list n h))
    (drop count ys) (following (λ s. leb s.list n ≡ false) ys count counts.1) in
    record {
      within = omega arith;
      is = sym (ap (filter p) (sym (take-append-drop first xs)) ∙ filter-append p (take first xs) ys
          ∙ ap (λ zs. zs ++ filter p ys) (filter_none p (take first xs) below)
          ∙ ap (filter p) (sym (take-append-drop count ys)) ∙ filter-append p (take count ys) (drop count ys)
          ∙ ap (λ zs. zs ++ filter p (drop count ys)) (filter_all p (take count ys) own)
          ∙ ap (λ zs. take count ys ++ zs) (filter_none p (drop count ys) above) ∙ append-nil (take count ys));
    }

pub put_last_is : (xs : List Span) (s : Span) (place : ℕ) → place ≤ length xs → IsNonDecreasingBy (λ x. x.list) xs
    → IsPartitionPoint (λ x. leb x.list s.list ≡ true) (λ x. leb x.list s.list ≡ false) xs place
    → IsPutLast xs s (insert xs place s)
put_last_is xs s place within order parted =
    let n = s.list in
    let front = take place xs in
    let back = drop place xs in
    let above : All (λ x. (x.list == n) ≡ false) back =
    All-weaker (λ x. leb x.list n ≡ false) (λ x. (x.list == n) ≡ false) (λ x h. higher x n (leb-false x.list n h)) back
    (following (λ x. leb x.list n ≡ false) xs place parted.1) in
    let whole = λ (m : ℕ). sym (filter-append (λ (x : Span). x.list == m) front back) ∙ ap (λ ys. spans_of ys m) (take-append-drop place xs) in
    record {
      place = place;
      within = within;
      is = refl;
      in_order = IsNonDecreasingBy-insert (λ x. x.list) xs place s order within
          (λ k d below. leb-true (get_or xs k d).list n (parted.0 k d (omega arith) below))
          (λ k d from below. let gt = leb-false (get_or xs k d).list n (parted.1 k d from below) in omega arith);
      own = grind (arith, filter-append, filter_none, above, append-nil);
      others = grind (arith, common_steps);
    }

-- a list whose number is greater than those of all spans has no spans
pub none_of : (xs : List Span) (n : ℕ) → All (λ s. s.list < n) xs → spans_of xs n ≡ []
none_of xs n below = filter_none (λ s. s.list == n) xs (All-weaker (λ s. s.list < n) (λ s. (s.list == n) ≡ false) (λ s. lower s n) xs below)
