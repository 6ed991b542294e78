-- A link and a name cannot break out of their places.
use Rattle.std.proofs.Common.{◌≡◌, ◌≢◌, ℕ, Bool, true, false, [], ◌∷◌, ◌++◌, ◌⊎◌, inl, inr, refl, ap, subst, arith}
use Rattle.std.specs.Prelude.{◌==◌, ◌||◌, if◌then◌else◌, All}
use Rattle.std.proofs.lemmas.Bool.{eqb-false}
use Rattle.std.proofs.lemmas.Bool.Decides.{nat_tests}
use Rattle.std.proofs.lemmas.List.Elements.{All-nil, All-cons, All-head, All-tail, All-append, All-push, All-weaker}
use Rattle.text_model.specs.Texts.{Text, percent, is_unreserved, is_reserved, is_hexadecimal}
use Rattle.text_model.specs.Writing.{is_unreserved_or_reserved}
use Rattle.text_model.specs.UriText.{IsUriText, nothing, and_character, and_triplet}
use Rattle.menu.specs.Contained.{is_delimiter, is_markup, BeginsWith, IsContained, is_target_name_character, IsTargetName}
use Rattle.menu.specs.Escaping.{ampersand, apostrophe, ampersand_reference, apostrophe_reference, escaped_byte, escaped}
use Rattle.menu.proofs.ReadingLemmas.{head_of, rest_of}

-- ---- delimiters

abbrev harmless : ℕ → Type 0
harmless b = is_delimiter b ≡ false

five : (a b c d e : ℕ) → harmless a → harmless b → harmless c → harmless d → harmless e → All harmless (a ∷ b ∷ c ∷ d ∷ e ∷ [])
five a b c d e f g h i j =
    All-cons harmless a (b ∷ c ∷ d ∷ e ∷ []) f (All-cons harmless b (c ∷ d ∷ e ∷ []) g
    (All-cons harmless c (d ∷ e ∷ []) h (All-cons harmless d (e ∷ []) i (All-cons harmless e [] j (All-nil harmless)))))

ampersand_harmless : All harmless ampersand_reference
ampersand_harmless = five ampersand 0x61 0x6D 0x70 0x3B refl refl refl refl refl

apostrophe_harmless : All harmless apostrophe_reference
apostrophe_harmless = five ampersand 0x23 0x33 0x39 0x3B refl refl refl refl refl

-- a byte of URI text
abbrev pub is_uri_byte : ℕ → Bool
is_uri_byte b = is_unreserved_or_reserved b || b == percent

character_is_uri : (b : ℕ) → is_unreserved_or_reserved b ≡ true → is_uri_byte b ≡ true
character_is_uri b e = rw e

hexadecimal_is_uri : (b : ℕ) → is_hexadecimal b ≡ true → is_uri_byte b ≡ true
unfolding is_unreserved is_reserved
hexadecimal_is_uri b e = grind (arith, nat_tests)

abbrev in_uri : ℕ → Type 0
in_uri b = is_uri_byte b ≡ true

uri_bytes : (t : Text) → IsUriText t → All in_uri t
unfolding is_unreserved is_reserved
uri_bytes _ nothing = All-nil in_uri
uri_bytes _ (and_character t b u e) = All-push in_uri t b (uri_bytes t u) (character_is_uri b e)
uri_bytes _ (and_triplet t high low u e f) =
    All-append in_uri t (percent ∷ high ∷ low ∷ []) (uri_bytes t u)
    (All-cons in_uri percent (high ∷ low ∷ []) refl (All-cons in_uri high (low ∷ []) (hexadecimal_is_uri high e)
    (All-cons in_uri low [] (hexadecimal_is_uri low f) (All-nil in_uri))))

-- a property that holds for the bytes of the two references, and for each byte that is written unchanged
module _ (P : ℕ → Type 0) (of_ampersand : All P ampersand_reference) (of_apostrophe : All P apostrophe_reference)
    (of_byte : (b : ℕ) → is_uri_byte b ≡ true → b ≢ apostrophe → P b) where
  one_byte : (b : ℕ) → is_uri_byte b ≡ true → All P (escaped_byte b)
  one_byte b u = by_tests (b == ampersand) (b == apostrophe) refl
    where
      by_tests : (x y : Bool) → (b == apostrophe) ≡ y
          → All P (if x then ampersand_reference else (if y then apostrophe_reference else (b ∷ [])))
      by_tests true y e = of_ampersand
      by_tests false true e = of_apostrophe
      by_tests false false e = All-cons P b [] (of_byte b u (eqb-false b apostrophe e)) (All-nil P)

  each_byte : (t : Text) → All in_uri t → All P (escaped t)
  each_byte [] all = All-nil P
  each_byte (b ∷ t) all =
      All-append P (escaped_byte b) (escaped t) (one_byte b (All-head in_uri b t all)) (each_byte t (All-tail in_uri b t all))

  pub All-escaped : (t : Text) → IsUriText t → All P (escaped t)
  All-escaped t u = each_byte t (uri_bytes t u)

byte_harmless : (b : ℕ) → is_uri_byte b ≡ true → b ≢ apostrophe → is_delimiter b ≡ false
unfolding is_unreserved is_reserved
byte_harmless b e n = grind (arith, nat_tests)

no_delimiter : (t : Text) → IsUriText t → All harmless (escaped t)
no_delimiter t u = All-escaped harmless ampersand_harmless apostrophe_harmless byte_harmless t u

-- ---- ampersands

is_reference : Text → Type 0
is_reference t = BeginsWith ampersand_reference t ⊎ BeginsWith apostrophe_reference t

-- each ampersand of the text begins a reference
are_references : Text → Type 0
are_references t = (before following : Text) → t ≡ before ++ (ampersand ∷ following) → is_reference (ampersand ∷ following)

after_other : (b : ℕ) (t : Text) → b ≢ ampersand → are_references t → are_references (b ∷ t)
unfolding are_references head_of rest_of
after_other b t n h [] following e = absurd (n (ap head_of e))
after_other b t n h (x ∷ before) following e = h before following (ap rest_of e)

after_ampersand : (t : Text) → is_reference (ampersand ∷ t) → are_references t → are_references (ampersand ∷ t)
unfolding are_references rest_of
after_ampersand t r h [] following e = subst is_reference e r
after_ampersand t r h (x ∷ before) following e = h before following (ap rest_of e)

none_in_nothing : are_references []
unfolding are_references head_of
none_in_nothing [] following e = absurd (omega (arith, ap head_of e))
none_in_nothing (x ∷ before) following e = absurd (cc)

references_only : (t : Text) → are_references (escaped t)
unfolding is_reference
references_only [] = none_in_nothing
references_only (b ∷ t) = by_tests (b == ampersand) (b == apostrophe) refl (references_only t)
  where
    by_tests : (x y : Bool) → (b == ampersand) ≡ x → are_references (escaped t)
        → are_references ((if x then ampersand_reference else (if y then apostrophe_reference else (b ∷ []))) ++ escaped t)
    by_tests true y e h =
        after_ampersand _ (inl (escaped t, refl))
        (after_other _ _ (λ q. omega (arith, q))
        (after_other _ _ (λ q. omega (arith, q)) (after_other _ _ (λ q. omega (arith, q)) (after_other _ _ (λ q. omega (arith, q)) h))))
    by_tests false true e h =
        after_ampersand _ (inr (escaped t, refl))
        (after_other _ _ (λ q. omega (arith, q))
        (after_other _ _ (λ q. omega (arith, q)) (after_other _ _ (λ q. omega (arith, q)) (after_other _ _ (λ q. omega (arith, q)) h))))
    by_tests false false e h = after_other b _ (eqb-false b ampersand e) h

pub escaped-contained : (link : Text) → IsUriText link → IsContained (escaped link)
unfolding is_reference are_references
escaped-contained link u = record { no_delimiter = no_delimiter link u; references = references_only link }

-- ---- names

name_character : (b : ℕ) → is_target_name_character b ≡ true → is_markup b ≡ false
name_character b e = grind (arith, nat_tests)

pub name-plain : (name : Text) → IsTargetName name → All (λ b. is_markup b ≡ false) name
name-plain name h = All-weaker (λ b. is_target_name_character b ≡ true) (λ b. is_markup b ≡ false) name_character name h.characters
