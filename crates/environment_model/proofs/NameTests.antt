-- Whether two names are the same, and whether a name is defined.
use Rattle.std.proofs.Common.{◌≡◌, true, false, Option, Some, None, is_some, bytes_eq, refl, arith}
use Rattle.std.proofs.lemmas.Slice.Eq.{bytes_eq-Decides}
use Rattle.text_model.specs.Texts.{Text}
use Rattle.environment_model.specs.Environment.{Meaning}

pub itself : (name : Text) → bytes_eq name name ≡ true
itself name = (bytes_eq-Decides name name).1 refl

pub differs_back : (a b : Text) → bytes_eq a b ≡ false → bytes_eq b a ≡ false
differs_back a b differs = grind (arith, bytes_eq-Decides)

pub undefined : (found : Option Meaning) → is_some found ≡ false → found ≡ None
undefined None absent = refl
undefined (Some meaning) absent = absurd (cc)
