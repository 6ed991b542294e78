-- A list of pieces, one for each element of a list, which grows by one piece at a time.
use Rattle.std.proofs.Common.{◌≡◌, ℕ, ◌+◌, ◌<◌, List, [], ◌∷◌, ◌++◌, length, take, get_or, sym, ap, ◌∙◌}
use Rattle.std.specs.List.{flat_map}
use Rattle.std.proofs.lemmas.List.{flat_map_more, take_more}

-- the step of a loop that appends the piece of the next element
pub joined_more : {X A : Type 0} (piece : X → List A) (start : List A) (xs : List X) (i : ℕ) (x : X) (before after : List A)
    → i < length xs → x ≡ get_or xs i x → before ≡ start ++ flat_map piece (take i xs) → after ≡ before ++ piece x
    → after ≡ start ++ flat_map piece (take (i + 1) xs)
joined_more {X = X} {A = A} piece start xs i x before after within is so_far appended =
    appended ∙ ap (λ (t : List A). t ++ piece x) so_far ∙ flat_map_more piece start (take i xs) x
    ∙ ap (λ (ys : List X). start ++ flat_map piece ys) (ap (λ (y : X). take i xs ++ y ∷ []) is ∙ sym (take_more xs i x within))
