-- Lists with one more element, and searches in lists.
use Rattle.std.proofs.Common.{◌≡◌, ℕ, ◌+◌, ◌<◌, ◌≤◌, Bool, true, ◌||◌, ◌&&◌, List, [], ◌∷◌, ◌++◌, length, take, get_or, Bor}
use Rattle.std.proofs.Common.{refl, sym, ap, ◌∙◌, arith}
use Rattle.std.proofs.Common.{zero-add}
use Rattle.std.specs.List.{flat_map, list_any, list_all, find, enumerate_from}
use Rattle.std.proofs.lemmas.Grind.{flat_map-append}
use Rattle.std.proofs.lemmas.List.FromFn.{length-enumerate_from, get_or-enumerate_from}
use Rattle.std.proofs.lemmas.List.{take_all, append-nil, take_more}
use Rattle.std.proofs.lemmas.List.Folds.{list_all-append, find-append}
use Rattle.text_model.specs.Texts.{Text, texts_of}
use Rattle.environment_model.specs.Environment.{is_among}
use Rattle.std.specs.Option.{option_or}
use Rattle.std.specs.Str.{bytes_eq}

-- one more element, and its results
pub flat_map_more : {X A : Type 0} (f : X → List A) (xs : List X) (i : ℕ) (d : X) → i < length xs
    → flat_map f (take (i + 1) xs) ≡ flat_map f (take i xs) ++ f (get_or xs i d)
flat_map_more f xs i d h =
    ap (flat_map f) (take_more xs i d h) ∙ flat_map-append f (take i xs) (get_or xs i d ∷ [])
    ∙ ap (λ t. flat_map f (take i xs) ++ t) (append-nil (f (get_or xs i d)))

-- one more element that passes, and one that does not
pub all_more : {X : Type 0} (p : X → Bool) (xs : List X) (i : ℕ) (d : X) → i < length xs
    → list_all p (take i xs) ≡ true → p (get_or xs i d) ≡ true → list_all p (take (i + 1) xs) ≡ true
all_more p xs i d h before at =
    ap (list_all p) (take_more xs i d h) ∙ list_all-append p (take i xs) (get_or xs i d ∷ [])
    ∙ ap (λ b. b && (p (get_or xs i d) && true)) before ∙ ap (λ b. b && true) at

-- one text among borrowed ones
pub any_lent : (x : Text) (items : List (Bor Text)) → list_any (λ (y : Bor Text). bytes_eq y.now x) items ≡ is_among x (texts_of items)
any_lent x [] = refl
any_lent x (y ∷ items) = ap (λ b. bytes_eq y.now x || b) (any_lent x items)

-- the first of three lists
pub find_of_three : (p : Text → Bool) (xs ys zs : List Text) → find p (xs ++ (ys ++ zs)) ≡ option_or (find p xs) (option_or (find p ys) (find p zs))
find_of_three p xs ys zs = find-append p xs (ys ++ zs) ∙ ap (option_or (find p xs)) (find-append p ys zs)

-- an element with its number
pub numbered_at : {X : Type 0} (xs : List X) (i : ℕ) (d : X) → i < length xs → d ≡ get_or xs i d → get_or (enumerate_from 0 xs) i (0, d) ≡ (i, d)
numbered_at xs i d h e =
    get_or-enumerate_from 0 xs i (0, d) h ∙ (ap (λ n. (n, get_or xs i d)) (zero-add i) ∙ ap (λ y. (i, y)) (sym e))

-- all elements with their numbers
pub numbered_all : {X : Type 0} (xs : List X) (i : ℕ) → length xs ≤ i → take i (enumerate_from 0 xs) ≡ enumerate_from 0 xs
numbered_all xs i h = take_all i (enumerate_from 0 xs) (omega (arith, length-enumerate_from 0 xs))
