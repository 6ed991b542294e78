-- A prefix of a text that is not empty is not empty.
use Rattle.std.proofs.Common.{◌≡◌, ℕ, zero, suc, List, [], ◌∷◌, ◌++◌, Bool, true, false, refl, sym, ap, subst, arith}
use Rattle.std.specs.Prelude.{take, if◌then◌else◌}
use Rattle.std.proofs.lemmas.Grind.{common_steps}
use Rattle.text_model.specs.Texts.{Text}
use Rattle.text_model.specs.Cut.{with_byte, code_points, are_triplet, with_triplets, items, joined}
use Rattle.text_model.specs.declared.writing.Writing.{Writing}
use Rattle.text_model.specs.declared.writing.Writing.TheVariants.{U, UR}
use Rattle.uri_template.specs.Expansion.{prefix}

-- items the first of which begins with a byte
pub record BeginWith (b : ℕ) (points : List Text) : Type 0 where
  pub first : Text
  pub others : List Text
  pub whole : points ≡ (b ∷ first) ∷ others

byte_first : (b : ℕ) (points : List Text) → BeginWith b (with_byte b points)
byte_first b points = grind (arith, common_steps)

triplets_first : (b : ℕ) (first : Text) (others : List Text) → BeginWith b (with_triplets ((b ∷ first) ∷ others))
unfolding with_triplets
triplets_first b first [] = record { first = first; others = []; whole = refl }
triplets_first b first (q ∷ []) = record { first = first; others = q ∷ []; whole = refl }
triplets_first b first (q ∷ r ∷ others) = by_test (are_triplet (b ∷ first) q r)
  where
    by_test : (c : Bool) → BeginWith b (if c then (((b ∷ first) ++ q ++ r) ∷ with_triplets others) else ((b ∷ first) ∷ with_triplets (q ∷ r ∷ others)))
    by_test true = record { first = first ++ q ++ r; others = with_triplets others; whole = refl }
    by_test false = record { first = first; others = with_triplets (q ∷ r ∷ others); whole = refl }

points_first : (b : ℕ) (t : Text) → BeginWith b (code_points (b ∷ t))
unfolding code_points
points_first b t = byte_first b (code_points t)

items_first : (w : Writing) (b : ℕ) (t : Text) → BeginWith b (items w (b ∷ t))
items_first U b t = points_first b t
items_first UR b t =
    let p = points_first b t in
    subst (λ points. BeginWith b (with_triplets points)) (sym p.whole) (triplets_first b p.first p.others)

pub prefix_first : (w : Writing) (n b : ℕ) (t : Text) → (rest : Text) × (prefix w n (b ∷ t) ≡ b ∷ rest)
prefix_first w zero b t = (t, refl)
prefix_first w (suc n) b t =
    let i = items_first w b t in
    (i.first ++ joined (take n i.others), ap (λ x. joined (take (suc n) x)) i.whole)
