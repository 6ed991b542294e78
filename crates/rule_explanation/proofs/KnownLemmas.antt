-- What is known of a name that was looked up.
use Rattle.std.proofs.Common.{◌≡◌, ℕ, List, [], Some, get_or, map, sym, ap, ◌∙◌}
use Rattle.std.proofs.lemmas.List.{get_or-map}
use Rattle.std.proofs.lemmas.List.Quantifiers.{position-Some}
use Rattle.std.proofs.lemmas.Slice.Eq.{bytes_eq-Decides}
use Rattle.std.specs.List.{position}
use Rattle.std.specs.Str.{bytes_eq}
use Rattle.text_model.specs.Texts.{Text}

-- the item at the place of a name is what the function gives of the name
pub given_at : {K : Type 0} (f : Text → K) (names : List Text) (items : List K) (name : Text) (n : ℕ) (item : K) → items ≡ map f names
    → position (bytes_eq name) names ≡ Some n → item ≡ get_or items n item → item ≡ f name
given_at f names items name n item are found here =
    let at = position-Some (bytes_eq name) names n [] found in
    let same = (bytes_eq-Decides name (get_or names n [])).0 at.1 in
    here ∙ ap (λ (ks : List _). get_or ks n item) are ∙ get_or-map f names n [] item at.0 ∙ ap f (sym same)
