-- A link written part by part.
use Rattle.std.proofs.Common.{◌≡◌, ◌≢◌, ℕ, ◌<◌, zero, suc, [], ◌∷◌, ◌++◌, get_or, length, refl, subst, sym, ap, ◌∙◌, append_assoc, arith}
use Rattle.std.proofs.lemmas.Bool.{ne_eqb}
use Rattle.std.proofs.lemmas.Grind.{flat_map-append}
use Rattle.text_model.specs.Texts.{Text}
use Rattle.menu.specs.Escaping.{HasNone, ampersand, ampersand_reference, apostrophe, apostrophe_reference, escaped_byte, escaped}

pub other_stays : (b : ℕ) → b ≢ ampersand → b ≢ apostrophe → escaped_byte b ≡ b ∷ []
other_stays b h k = rw (ne_eqb b ampersand h, ne_eqb b apostrophe k) refl

-- a text with nothing to escape
pub stays_escaped : (t : Text) → HasNone ampersand t → HasNone apostrophe t → escaped t ≡ t
stays_escaped [] no_ampersand no_apostrophe = refl
stays_escaped (b ∷ t) no_ampersand no_apostrophe =
    ap (λ x. x ++ escaped t) (other_stays b (no_ampersand zero (omega arith)) (no_apostrophe zero (omega arith)))
    ∙ ap (λ x. b ∷ x) (stays_escaped t (λ i h. no_ampersand (suc i) (omega (arith, h))) (λ i h. no_apostrophe (suc i) (omega (arith, h))))

pub none_before : (byte : ℕ) (t u : Text) → HasNone byte (t ++ u) → HasNone byte t
none_before byte [] u none = λ i h. absurd (omega (arith, h))
none_before byte (b ∷ t) u none = by_index (none_before byte t u (λ i h. none (suc i) (omega (arith, h))))
  where
    by_index : HasNone byte t → (i : ℕ) → i < length (b ∷ t) → get_or (b ∷ t) i 0 ≢ byte
    by_index others zero h = none zero (omega arith)
    by_index others (suc i) h = others i (omega (arith, h))

pub none_after : (byte : ℕ) (t u : Text) → HasNone byte (t ++ u) → HasNone byte u
none_after byte [] u none = none
none_after byte (b ∷ t) u none = none_after byte t u (λ i h. none (suc i) (omega (arith, h)))

-- a part, a byte and the rest
pub escaped_parts : (part : Text) (byte : ℕ) (after : Text) → escaped (part ++ (byte ∷ after)) ≡ escaped part ++ (escaped_byte byte ++ escaped after)
escaped_parts part byte after = flat_map-append escaped_byte part (byte ∷ after)

-- a part before an apostrophe
pub apostrophe_parts : (rest plain after : Text) → HasNone ampersand rest → rest ≡ plain ++ (apostrophe ∷ after) → HasNone apostrophe plain
    → escaped rest ≡ plain ++ (apostrophe_reference ++ escaped after)
apostrophe_parts rest plain after no_ampersand is no_apostrophe =
    let none : HasNone ampersand plain = none_before ampersand plain (apostrophe ∷ after) (subst (HasNone ampersand) is no_ampersand) in
    let plain_stays : escaped plain ≡ plain = stays_escaped plain none no_apostrophe in
    ap (λ x. escaped x) is ∙ (escaped_parts plain apostrophe after ∙ ap (λ x. x ++ (apostrophe_reference ++ escaped after)) plain_stays)

-- what follows the apostrophe
pub none_after_apostrophe : (rest plain after : Text) → HasNone ampersand rest → rest ≡ plain ++ (apostrophe ∷ after) → HasNone ampersand after
none_after_apostrophe rest plain after none is =
    none_after ampersand (apostrophe ∷ []) after (none_after ampersand plain (apostrophe ∷ after) (subst (HasNone ampersand) is none))

-- a part before an ampersand
pub ampersand_parts : (rest part after : Text) → rest ≡ part ++ (ampersand ∷ after) → escaped rest ≡ escaped part ++ (ampersand_reference ++ escaped after)
ampersand_parts rest part after is = ap (λ x. escaped x) is ∙ escaped_parts part ampersand after

-- the step of a loop: what has been written, with what is still to write, stays the same
pub two_pieces : (whole before rest a b c first second : Text) → before ++ rest ≡ whole → rest ≡ a ++ (b ++ c) → first ≡ before ++ a
    → second ≡ first ++ b → second ++ c ≡ whole
two_pieces whole before rest a b c first second whole_is rest_is first_is second_is =
    ap (λ x. x ++ c) (second_is ∙ ap (λ x. x ++ b) first_is)
    ∙ (append_assoc (before ++ a) b c ∙ (append_assoc before a (b ++ c) ∙ (ap (λ x. before ++ x) (sym rest_is) ∙ whole_is)))
