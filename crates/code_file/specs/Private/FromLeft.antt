-- URI text as a test that reads from the left, for private contracts. It holds exactly for the set `IsUriText`.
use Rattle.std.specs.Prelude.{Bool, true, [], ◌∷◌, ◌&&◌, if◌then◌else◌}
use Rattle.text_model.specs.Texts.{Text, is_triplet}
use Rattle.text_model.specs.Writing.{is_unreserved_or_reserved}

-- from the left: a triplet or a character, and then more of the same
unfoldable pub is_uri_text : Text → Bool
is_uri_text [] = true
is_uri_text (b ∷ []) = is_unreserved_or_reserved b
is_uri_text (b ∷ c ∷ []) = is_unreserved_or_reserved b && is_unreserved_or_reserved c
is_uri_text (b ∷ high ∷ low ∷ t) =
    if is_triplet b high low then is_uri_text t else (is_unreserved_or_reserved b && is_uri_text (high ∷ low ∷ t))
