-- URI text is ASCII, and so UTF-8.
use Rattle.std.proofs.Common.{◌≡◌, ℕ, ◌<◌, [], ◌∷◌, ◌++◌, true, refl, subst, ◌∙◌, arith, append_assoc, lit<}
use Rattle.std.specs.Str.{IsAscii, IsUtf8}
use Rattle.std.proofs.lemmas.Str.{IsUtf8-from_ascii, IsAscii-append}
use Rattle.std.proofs.lemmas.Str.Ascii.{IsAscii-nil, IsAscii-push}
use Rattle.std.proofs.lemmas.Bool.Decides.{nat_tests}
use Rattle.text_model.specs.Texts.{Text, is_unreserved, is_reserved, is_hexadecimal}
use Rattle.text_model.specs.Writing.{is_unreserved_or_reserved}
use Rattle.text_model.specs.UriText.{IsUriText, nothing, and_character, and_triplet}

pub character_below : (b : ℕ) → is_unreserved_or_reserved b ≡ true → b < 128
unfolding is_unreserved is_reserved
character_below b e = grind (arith, nat_tests)

pub hexadecimal_below : (b : ℕ) → is_hexadecimal b ≡ true → b < 128
hexadecimal_below b e = grind (arith, nat_tests)

pub IsUriText-ascii : (t : Text) → IsUriText t → IsAscii t
IsUriText-ascii _ nothing = IsAscii-nil
IsUriText-ascii _ (and_character t b h e) = IsAscii-push t b (IsUriText-ascii t h) (character_below b e)
IsUriText-ascii _ (and_triplet t high low h e f) =
    subst IsAscii (append_assoc t (37 ∷ []) (high ∷ low ∷ []) ∙ refl)
    (IsAscii-append (t ++ 37 ∷ []) (high ∷ low ∷ []) (IsAscii-push t 37 (IsUriText-ascii t h) (lit< tt))
    (IsAscii-push (high ∷ []) low (IsAscii-push [] high IsAscii-nil (hexadecimal_below high e)) (hexadecimal_below low f)))

pub IsUriText-utf8 : (t : Text) → IsUriText t → IsUtf8 t
IsUriText-utf8 t h = IsUtf8-from_ascii t (IsUriText-ascii t h)
