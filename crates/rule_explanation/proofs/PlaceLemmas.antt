-- Items with their places: the first that passes a test, those before it, and one more.
use Rattle.std.proofs.Common.{◌≡◌, ◌<◌, ◌≤◌, ◌+◌, ℕ, zero, suc, List, [], ◌∷◌, ◌++◌, Bool, true, false, not, cond, Some, None, length, map, take, get_or}
use Rattle.std.proofs.Common.{refl, ap, sym, ◌∙◌, arith, add-zero, nat_lt}
use Rattle.std.specs.List.{before_first, enumerate_from, find, flat_map, position, position_or_len}
use Rattle.std.proofs.lemmas.List.{flat_map_more, length-map, length-take-le, take_more}
use Rattle.std.proofs.lemmas.List.Quantifiers.{position-Some}
use Rattle.std.proofs.lemmas.Option.{none-some, same_Some}
use Rattle.text_model.proofs.Lists.{before_first-none, position-none}

-- a numbered item passes if the item does
abbrev pub passes : {A : Type 0} → (A → Bool) → ℕ × A → Bool
passes test (place, item) = test item

-- ---- the first that passes

pub found_at : {A : Type 0} (test : A → Bool) (first : ℕ) (xs : List A) (i : ℕ) (x : A) → i < length xs → x ≡ get_or xs i x → test x ≡ true
    → ((k : ℕ) → k < i → test (get_or xs k x) ≡ false) → find (passes test) (enumerate_from first xs) ≡ Some (first + i, x)
found_at test first [] i x within is pass before = absurd (omega arith)
found_at test first (y ∷ ys) zero x within is pass before =
    let here : test y ≡ true = ap test (sym is) ∙ pass in
    rw here (ap (λ (p : ℕ × _). Some p) (ap (λ z. (first, z)) (sym is)) ∙ ap (λ n. Some (n, x)) (sym (add-zero first)))
found_at test first (y ∷ ys) (suc i) x within is pass before =
    let here : test y ≡ false = before 0 (omega arith) in
    rw here
    (found_at test (first + 1) ys i x (omega (arith, within)) is pass (λ k l. before (suc k) (omega (arith, l)))
    ∙ ap (λ n. Some (n, x)) (omega arith))

-- the first that passes, if a search found its index
pub found_numbered : {A : Type 0} (test : A → Bool) (first : ℕ) (xs : List A) (i : ℕ) (x : A) → position test xs ≡ Some i → x ≡ get_or xs i x
    → find (passes test) (enumerate_from first xs) ≡ Some (first + i, x)
found_numbered test first xs i x found is =
    let at = position-Some test xs i x found in
    found_at test first xs i x at.0 is (ap test is ∙ at.1) at.2

pub found_plain_at : {A : Type 0} (test : A → Bool) (xs : List A) (i : ℕ) (x : A) → i < length xs → x ≡ get_or xs i x → test x ≡ true
    → ((k : ℕ) → k < i → test (get_or xs k x) ≡ false) → find test xs ≡ Some x
found_plain_at test [] i x within is pass before = absurd (omega arith)
found_plain_at test (y ∷ ys) zero x within is pass before =
    let here : test y ≡ true = ap test (sym is) ∙ pass in
    rw here (ap (λ (z : _). Some z) (sym is))
found_plain_at test (y ∷ ys) (suc i) x within is pass before =
    let here : test y ≡ false = before 0 (omega arith) in
    rw here (found_plain_at test ys i x (omega (arith, within)) is pass (λ k l. before (suc k) (omega (arith, l))))

pub found_plain : {A : Type 0} (test : A → Bool) (xs : List A) (i : ℕ) (x : A) → position test xs ≡ Some i → x ≡ get_or xs i x → find test xs ≡ Some x
found_plain test xs i x found is =
    let at = position-Some test xs i x found in
    found_plain_at test xs i x at.0 is (ap test is ∙ at.1) at.2

pub found_first : {A : Type 0} (test : A → Bool) (xs : List A) (i : ℕ) (x : A) → position test xs ≡ Some i → x ≡ get_or xs i x
    → find (passes test) (enumerate_from 1 xs) ≡ Some (i + 1, x)
found_first test xs i x found is = found_numbered test 1 xs i x found is ∙ ap (λ n. Some (n, x)) (omega arith)

-- ---- none passes

none_found : {A : Type 0} (test : A → Bool) (first : ℕ) (xs : List A) → length xs ≤ position_or_len test xs
    → (find (passes test) (enumerate_from first xs) ≡ None) × (find test xs ≡ None)
none_found test first [] long = (refl, refl)
none_found test first (x ∷ xs) long = by_test (test x) (none_found test (first + 1) xs) long
  where
    by_test : (b : Bool) → (length xs ≤ position_or_len test xs → (find (passes test) (enumerate_from (first + 1) xs) ≡ None) × (find test xs ≡ None))
        → suc (length xs) ≤ cond (not b) (1 + position_or_len test xs) 0
        → (cond b (Some (first, x)) (find (passes test) (enumerate_from (first + 1) xs)) ≡ None) × (cond b (Some x) (find test xs) ≡ None)
    by_test true rest none = absurd (omega (arith, none))
    by_test false rest none = rest (omega (arith, none))

pub none_numbered : {A : Type 0} (test : A → Bool) (first : ℕ) (xs : List A) → position test xs ≡ None → find (passes test) (enumerate_from first xs) ≡ None
none_numbered test first xs none = (none_found test first xs (position-none test xs none)).0

pub none_plain : {A : Type 0} (test : A → Bool) (xs : List A) → position test xs ≡ None → find test xs ≡ None
none_plain test xs none = (none_found test 0 xs (position-none test xs none)).1

-- ---- those before the first that passes

same_place : {A : Type 0} (test : A → Bool) (first : ℕ) (xs : List A) → position_or_len (passes test) (enumerate_from first xs) ≡ position_or_len test xs
same_place test first [] = refl
same_place test first (x ∷ xs) = ap (λ n. cond (not (test x)) (1 + n) 0) (same_place test (first + 1) xs)

taken : {A : Type 0} (n first : ℕ) (xs : List A) → take n (enumerate_from first xs) ≡ enumerate_from first (take n xs)
taken zero first xs = refl
taken (suc n) first [] = refl
taken (suc n) first (x ∷ xs) = ap (λ ps. (first, x) ∷ ps) (taken n (first + 1) xs)

pub before_numbered : {A : Type 0} (test : A → Bool) (first : ℕ) (xs : List A)
    → before_first (passes test) (enumerate_from first xs) ≡ enumerate_from first (before_first test xs)
before_numbered test first xs =
    ap (λ n. take n (enumerate_from first xs)) (same_place test first xs) ∙ taken (position_or_len test xs) first xs

pub before_found : {A : Type 0} (test : A → Bool) (xs : List A) (i : ℕ) → position test xs ≡ Some i → before_first test xs ≡ take i xs
before_found test xs i found = by_test (nat_lt (position_or_len test xs) (length xs)) found
  where
    by_test : (b : Bool) → cond b (Some (position_or_len test xs)) None ≡ Some i → before_first test xs ≡ take i xs
    by_test true same = ap (λ n. take n xs) (same_Some _ _ same)
    by_test false none = absurd (none-some i none)

pub failing_found : {A : Type 0} (test : A → Bool) (xs : List A) (i : ℕ) → position test xs ≡ Some i
    → before_first (passes test) (enumerate_from 1 xs) ≡ enumerate_from 1 (take i xs)
failing_found test xs i found = before_numbered test 1 xs ∙ ap (enumerate_from 1) (before_found test xs i found)

pub failing_none : {A : Type 0} (test : A → Bool) (xs : List A) → position test xs ≡ None
    → before_first (passes test) (enumerate_from 1 xs) ≡ enumerate_from 1 xs
failing_none test xs none = before_numbered test 1 xs ∙ ap (enumerate_from 1) (before_first-none test xs none)

-- ---- one more

pub numbered-append : {A : Type 0} (first : ℕ) (xs ys : List A)
    → enumerate_from first (xs ++ ys) ≡ enumerate_from first xs ++ enumerate_from (first + length xs) ys
numbered-append first [] ys = ap (λ n. enumerate_from n ys) (sym (add-zero first))
numbered-append first (x ∷ xs) ys =
    ap (λ ps. (first, x) ∷ ps)
    (numbered-append (first + 1) xs ys ∙ ap (λ n. enumerate_from (first + 1) xs ++ enumerate_from n ys) (omega arith))

pub numbered_more : {A : Type 0} (xs : List A) (i : ℕ) (x : A) → i < length xs → x ≡ get_or xs i x
    → enumerate_from 1 (take (i + 1) xs) ≡ enumerate_from 1 (take i xs) ++ (i + 1, x) ∷ []
numbered_more xs i x within is =
    let place : 1 + length (take i xs) ≡ i + 1 = omega (arith, length-take-le i xs (omega (arith, within))) in
    ap (enumerate_from 1) (take_more xs i x within ∙ ap (λ y. take i xs ++ y ∷ []) (sym is)) ∙ numbered-append 1 (take i xs) (x ∷ [])
    ∙ ap (λ n. enumerate_from 1 (take i xs) ++ (n, x) ∷ []) place

pub pieces_more : {A : Type 0} (piece : ℕ × A → List ℕ) (start : List ℕ) (xs : List A) (i : ℕ) (x : A) (before after : List ℕ)
    → i < length xs → x ≡ get_or xs i x → before ≡ start ++ flat_map piece (enumerate_from 1 (take i xs)) → after ≡ before ++ piece (i + 1, x)
    → after ≡ start ++ flat_map piece (enumerate_from 1 (take (i + 1) xs))
pieces_more piece start xs i x before after within is so_far appended =
    appended ∙ ap (λ (t : List ℕ). t ++ piece (i + 1, x)) so_far ∙ flat_map_more piece start (enumerate_from 1 (take i xs)) (i + 1, x)
    ∙ ap (λ ps. start ++ flat_map piece ps) (sym (numbered_more xs i x within is))

-- ---- the items of a list that a function gives

same_index : {A B : Type 0} (test : B → Bool) (f : A → B) (xs : List A) → position_or_len test (map f xs) ≡ position_or_len (λ x. test (f x)) xs
same_index test f [] = refl
same_index test f (x ∷ xs) = ap (λ n. cond (not (test (f x))) (1 + n) 0) (same_index test f xs)

pub position_given : {A B : Type 0} (test : B → Bool) (f : A → B) (xs : List A) → position test (map f xs) ≡ position (λ x. test (f x)) xs
position_given test f xs =
    let n = position_or_len (λ x. test (f x)) xs in
    ap (λ (i : ℕ). cond (nat_lt i (length (map f xs))) (Some i) None) (same_index test f xs)
    ∙ ap (λ (l : ℕ). cond (nat_lt n l) (Some n) None) (length-map xs f)
