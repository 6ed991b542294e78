-- URI texts joined are URI text, and encoded text is URI text.
use Rattle.std.proofs.Common.{◌≡◌, ℕ, ◌/◌, [], ◌∷◌, ◌++◌, Bool, true, false, ◌&&◌, ◌==◌, refl, sym, subst, arith, append_assoc, append-nil}
use Rattle.std.specs.Prelude.{if◌then◌else◌}
use Rattle.std.proofs.lemmas.Bool.{and_parts, eqb-true}
use Rattle.std.proofs.lemmas.Grind.{common_steps}
use Rattle.text_model.specs.Texts.{Text, is_unreserved, is_hexadecimal, is_triplet}
use Rattle.text_model.specs.Writing.{hexadecimal_digit, triplet_of, written_byte, is_unreserved_or_reserved, written_u, written_ur, written}
use Rattle.text_model.specs.UriText.{IsUriText, nothing, and_character, and_triplet}
use Rattle.text_model.specs.declared.writing.Writing.{Writing}
use Rattle.text_model.specs.declared.writing.Writing.TheVariants.{U, UR}

pub IsUriText-append : (a b : Text) → IsUriText a → IsUriText b → IsUriText (a ++ b)
IsUriText-append a _ h nothing = subst IsUriText (sym (append-nil a)) h
IsUriText-append a _ h (and_character t c i p) = subst IsUriText (append_assoc a t (c ∷ [])) (and_character (a ++ t) c (IsUriText-append a t h i) p)
IsUriText-append a _ h (and_triplet t c d i p q) =
    subst IsUriText (append_assoc a t (37 ∷ c ∷ d ∷ [])) (and_triplet (a ++ t) c d (IsUriText-append a t h i) p q)

-- one character that may be in a URI
pub IsUriText-character : (b : ℕ) → is_unreserved_or_reserved b ≡ true → IsUriText (b ∷ [])
IsUriText-character b p = and_character [] b nothing p

-- one whole triplet
pub IsUriText-triplet : (b high low : ℕ) → is_triplet b high low ≡ true → IsUriText (b ∷ high ∷ low ∷ [])
IsUriText-triplet b high low e =
    let percent = and_parts (b == 37) (is_hexadecimal high && is_hexadecimal low) e in
    let digits = and_parts (is_hexadecimal high) (is_hexadecimal low) percent.1 in
    subst (λ x. IsUriText (x ∷ high ∷ low ∷ [])) (sym (eqb-true b 37 percent.0)) (and_triplet [] high low nothing digits.0 digits.1)

hexadecimal_digit-hexadecimal : (n : ℕ) → is_hexadecimal (hexadecimal_digit n) ≡ true
hexadecimal_digit-hexadecimal n = grind (arith, common_steps)

pub triplet_of-uri : (b : ℕ) → IsUriText (triplet_of b)
triplet_of-uri b =
    and_triplet [] (hexadecimal_digit (b / 16)) (hexadecimal_digit b) nothing (hexadecimal_digit-hexadecimal (b / 16)) (hexadecimal_digit-hexadecimal b)

pub written_byte-uri : (stays : Bool) (b : ℕ) → (stays ≡ true → is_unreserved_or_reserved b ≡ true) → IsUriText (written_byte stays b)
written_byte-uri true b p = IsUriText-character b (p refl)
written_byte-uri false b p = triplet_of-uri b

pub unreserved_first : (b : ℕ) → is_unreserved b ≡ true → is_unreserved_or_reserved b ≡ true
unreserved_first b e = rw e refl

pub written_u-uri : (t : Text) → IsUriText (written_u t)
unfolding written_u
written_u-uri [] = nothing
written_u-uri (b ∷ t) = IsUriText-append (written_byte (is_unreserved b) b) (written_u t) (written_byte-uri (is_unreserved b) b (unreserved_first b))
    (written_u-uri t)

written_ur_byte-uri : (b : ℕ) → IsUriText (written_byte (is_unreserved_or_reserved b) b)
written_ur_byte-uri b = written_byte-uri (is_unreserved_or_reserved b) b (λ e. e)

pub written_ur-uri : (t : Text) → IsUriText (written_ur t)
unfolding written_ur
written_ur-uri [] = nothing
written_ur-uri (b ∷ []) = written_ur_byte-uri b
written_ur-uri (b ∷ c ∷ []) = IsUriText-append (written_byte (is_unreserved_or_reserved b) b) (written_byte (is_unreserved_or_reserved c) c)
    (written_ur_byte-uri b) (written_ur_byte-uri c)
written_ur-uri (b ∷ high ∷ low ∷ t) = by_test (is_triplet b high low) refl (written_ur-uri t) (written_ur-uri (high ∷ low ∷ t))
  where
    by_test : (x : Bool) → is_triplet b high low ≡ x → IsUriText (written_ur t) → IsUriText (written_ur (high ∷ low ∷ t))
        → IsUriText (if x then (b ∷ high ∷ low ∷ written_ur t) else (written_byte (is_unreserved_or_reserved b) b ++ written_ur (high ∷ low ∷ t)))
    by_test true e i j = IsUriText-append (b ∷ high ∷ low ∷ []) (written_ur t) (IsUriText-triplet b high low e) i
    by_test false e i j = IsUriText-append (written_byte (is_unreserved_or_reserved b) b) (written_ur (high ∷ low ∷ t)) (written_ur_byte-uri b) j

pub written-uri : (w : Writing) (t : Text) → IsUriText (written w t)
written-uri U t = written_u-uri t
written-uri UR t = written_ur-uri t
