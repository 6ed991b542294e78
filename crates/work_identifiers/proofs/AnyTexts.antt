-- Whether a comparison holds of one of several texts, of which there are references.
use Rattle.std.proofs.Common.{◌≡◌, List, [], ◌∷◌, Bool, ◌||◌, refl, ap}
use Rattle.std.specs.Borrow.{Bor}
use Rattle.std.specs.List.{list_any}
use Rattle.text_model.specs.Texts.{Text, texts_of}

pub any-texts_of : (same : Text → Text → Bool) (text : Text) (texts : List (Bor Text))
    → list_any (λ one. same one.now text) texts ≡ list_any (λ one. same one text) (texts_of texts)
any-texts_of same text [] = refl
any-texts_of same text (one ∷ texts) = ap (λ b. same one.now text || b) (any-texts_of same text texts)
