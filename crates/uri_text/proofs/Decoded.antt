-- Percent-decoding an encoded text.
use Rattle.std.proofs.Common.{◌≡◌, ◌≢◌, ℕ, ◌<◌, [], ◌∷◌, ◌++◌, Bool, true, false, refl, sym, ap, ◌∙◌, arith, append-nil}
use Rattle.std.specs.Prelude.{All, if◌then◌else◌}
use Rattle.std.specs.Char.{digit_value}
use Rattle.std.proofs.lemmas.Bool.{eqb-true}
use Rattle.std.proofs.lemmas.List.Elements.{All-head, All-tail}
use Rattle.std.proofs.lemmas.Bool.Decides.{nat_tests}
use Rattle.percent_encoding.specs.Percent.{percent_decode}
use Rattle.percent_encoding.proofs.PercentLemmas.{percent_decode-nil, percent_decode_escape, percent_decode_not_percent, percent_decode-percent_encode_byte}
use Rattle.text_model.specs.Texts.{Text, is_unreserved, is_triplet, is_hexadecimal}
use Rattle.text_model.specs.Writing.{written_byte, is_unreserved_or_reserved, written_u, written_ur}
use Rattle.text_model.proofs.UriTexts.{unreserved_first}
use Rattle.text_model.proofs.Unchanged.{not_percent}
use Rattle.uri_text.proofs.PercentBytes.{percent_encode_byte_triplet}

abbrev AreBytes : Text → Type 0
AreBytes t = All (λ b. b < 256) t

first_byte : (b : ℕ) (t : Text) → AreBytes (b ∷ t) → b < 256
first_byte b t h = All-head (λ x. x < 256) b t h

later_bytes : (b : ℕ) (t : Text) → AreBytes (b ∷ t) → AreBytes t
later_bytes b t h = All-tail (λ x. x < 256) b t h

-- an encoded byte is decoded to the byte, unless it is a `%` that was copied
decoded_byte : (stays : Bool) (b : ℕ) (rest : Text) → b < 256 → (stays ≡ true → b ≢ 37) → percent_decode (written_byte stays b ++ rest)
    ≡ b ∷ percent_decode rest
decoded_byte true b rest small other = percent_decode_not_percent b rest (other refl)
decoded_byte false b rest small other =
    ap (λ x. percent_decode (x ++ rest)) (sym (percent_encode_byte_triplet b)) ∙ percent_decode-percent_encode_byte b rest small

pub decoded_u : (t : Text) → AreBytes t → percent_decode (written_u t) ≡ t
unfolding written_u
decoded_u [] h = percent_decode-nil
decoded_u (b ∷ t) h =
    decoded_byte (is_unreserved b) b (written_u t) (first_byte b t h) (λ e. not_percent b (unreserved_first b e))
    ∙ ap (λ x. b ∷ x) (decoded_u t (later_bytes b t h))

decoded_ur_byte : (b : ℕ) (rest : Text) → b < 256 → percent_decode (written_byte (is_unreserved_or_reserved b) b ++ rest) ≡ b ∷ percent_decode rest
decoded_ur_byte b rest small = decoded_byte (is_unreserved_or_reserved b) b rest small (not_percent b)

hexadecimal_value : (b : ℕ) → is_hexadecimal b ≡ true → digit_value b < 16
hexadecimal_value b h = grind (arith, nat_tests)

alone_ur : (b : ℕ) → b < 256 → percent_decode (written_byte (is_unreserved_or_reserved b) b) ≡ b ∷ []
unfolding percent_decode
alone_ur b small = ap percent_decode (sym (append-nil (written_byte (is_unreserved_or_reserved b) b))) ∙ decoded_ur_byte b [] small

-- bytes that are not a triplet are decoded byte by byte
kept_first : (b high low : ℕ) (t : Text) → is_triplet b high low ≡ false → percent_decode (b ∷ high ∷ low ∷ t) ≡ b ∷ percent_decode (high ∷ low ∷ t)
unfolding percent_decode
kept_first b high low t e = grind arith

pub decoded_ur : (t : Text) → AreBytes t → percent_decode (written_ur t) ≡ percent_decode t
unfolding written_ur percent_decode
decoded_ur [] h = refl
decoded_ur (b ∷ []) h = alone_ur b (first_byte b [] h)
decoded_ur (b ∷ c ∷ []) h =
    decoded_ur_byte b (written_byte (is_unreserved_or_reserved c) c) (first_byte b (c ∷ []) h)
    ∙ ap (λ x. b ∷ x) (alone_ur c (first_byte c [] (later_bytes b (c ∷ []) h)))
decoded_ur (b ∷ high ∷ low ∷ t) h =
    by_test (is_triplet b high low) refl (decoded_ur t (later_bytes low t (later_bytes high (low ∷ t) (later_bytes b (high ∷ low ∷ t) h))))
    (decoded_ur (high ∷ low ∷ t) (later_bytes b (high ∷ low ∷ t) h))
  where
    by_test : (x : Bool) → is_triplet b high low ≡ x → percent_decode (written_ur t) ≡ percent_decode t → percent_decode (written_ur (high ∷ low ∷ t))
        ≡ percent_decode (high ∷ low ∷ t)
        → percent_decode (if x then (b ∷ high ∷ low ∷ written_ur t) else (written_byte (is_unreserved_or_reserved b) b ++ written_ur (high ∷ low ∷ t)))
        ≡ percent_decode (b ∷ high ∷ low ∷ t)
    by_test true e i j = grind (arith, percent_decode_escape, eqb-true, hexadecimal_value)
    by_test false e i j = decoded_ur_byte b (written_ur (high ∷ low ∷ t)) (first_byte b (high ∷ low ∷ t) h)
        ∙ (ap (λ x. b ∷ x) j ∙ sym (kept_first b high low t e))
