-- URI text: what a link may consist of (RFC 3986, sections 2.1 to 2.3).
use Rattle.std.specs.Prelude.{◌≡◌, ℕ, [], ◌∷◌, ◌++◌, true}
use Rattle.text_model.specs.Texts.{Text, percent, is_hexadecimal}
use Rattle.text_model.specs.Writing.{is_unreserved_or_reserved}

-- the least set with the empty text that is closed under one more character, or one more triplet, at the end
pub data IsUriText : Text → Type 0 where
  nothing : IsUriText []
  and_character : (t : Text) (b : ℕ) → IsUriText t → is_unreserved_or_reserved b ≡ true → IsUriText (t ++ b ∷ [])
  and_triplet : (t : Text) (high low : ℕ) → IsUriText t → is_hexadecimal high ≡ true → is_hexadecimal low ≡ true → IsUriText (t ++ percent ∷ high ∷ low ∷ [])
