-- The places of the bytes of a text.
use Rattle.std.proofs.Common.{◌≡◌, ℕ, zero, suc, ◌-◌, ◌<◌, ◌≤◌, List, [], ◌∷◌, length, get_or, take, refl, sym, ap, ◌∙◌, arith}
use Rattle.std.proofs.lemmas.List.{length-take-le, take-take}
use Rattle.text_model.specs.Texts.{Text}
use Rattle.latex_text.specs.declared.places.Place.{Place}
use Rattle.latex_text.specs.declared.places.Place.TheVariants.{Start}
use Rattle.latex_text.specs.Places.{next, place_after, places}

pub length-places : (place : Place) (t : Text) → length (places place t) ≡ length t
length-places place [] = refl
length-places place (b ∷ t) = omega (arith, length-places (next place b) t)

pub place-at : (place : Place) (t : Text) (k : ℕ) (d : Place) → k < length t → get_or (places place t) k d ≡ place_after place (take k t)
place-at place [] k d h = absurd (omega (arith, h))
place-at place (b ∷ t) zero d h = refl
place-at place (b ∷ t) (suc k) d h = place-at (next place b) t k d (omega (arith, h))

-- the place of the last byte of a beginning of the text
pub place-before : (t r : Text) (all : List Place) (s : Place) → all ≡ places Start t → r ≡ take (length r) t → length r ≤ length t → 1 ≤ length r
    → s ≡ get_or all (length (take (length r - 1) r)) s → s ≡ place_after Start (take (length r - 1) r)
place-before t r all s are begins within some is =
    let k = length r - 1 in
    let count : length (take k r) ≡ k = length-take-le k r (omega arith) in
    let same : take k t ≡ take k r = sym (ap (take k) begins ∙ take-take k (length r) t (omega arith)) in
    is ∙ ap (λ list. get_or list (length (take k r)) s) are ∙ ap (λ n. get_or (places Start t) n s) count
    ∙ place-at Start t k s (omega (arith, within, some)) ∙ ap (place_after Start) same
