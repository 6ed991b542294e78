-- Values of lists, one after another.
use Rattle.std.proofs.Common.{◌≡◌, ◌<◌, ◌+◌, ◌++◌, ◌∷◌, [], ℕ, List, get_or, length, map, take, sym, ap, ◌∙◌}
use Rattle.std.proofs.lemmas.List.{map-append, take_more}
use Rattle.serde_json.specs.Data.{Data}
use Rattle.serde_json.specs.View.{view}
use Rattle.serde_json.specs.declared.value.Value.{Value}

-- the value of one element more
pub one_more : {A : Type 0} (f : A → Data) (xs : List A) (index : ℕ) (d item : A) (values old : List Value) (value : Value) → index < length xs
    → values ≡ old ++ value ∷ [] → map view old ≡ map f (take index xs) → view value ≡ f item → get_or xs index d ≡ item
    → map view values ≡ map f (take (index + 1) xs)
one_more f xs index d item values old value within pushed before is same =
    ap (map view) pushed ∙ map-append view old (value ∷ []) ∙ ap (λ vs. vs ++ view value ∷ []) before
    ∙ ap (λ v. map f (take index xs) ++ v ∷ []) (is ∙ ap f (sym same))
    ∙ sym (ap (map f) (take_more xs index d within) ∙ map-append f (take index xs) (get_or xs index d ∷ []))
