-- Everything in the buffer keeps its place when a text is appended to it.
use Rattle.std.proofs.Common.{◌≡◌, ℕ, ◌+◌, List, [], ◌∷◌, ◌++◌, map, length, take, All, IsUtf8, IsCharBoundary, refl, sym, ap, ◌∙◌, subst, arith}
use Rattle.std.proofs.Common.{drop_at, length-append, take_all, ◌≤◌}
use Rattle.std.proofs.lemmas.List.{take-append-le}
use Rattle.std.proofs.lemmas.List.Elements.{All-head, All-tail, All-weaker}
use Rattle.std.proofs.lemmas.Str.{IsUtf8-append, IsUtf8-take, IsCharBoundary-from_take, IsCharBoundary-at_seam, IsCharBoundary-end}
use Rattle.std.proofs.lemmas.Grind.{common_steps}
use Rattle.text_model.specs.Texts.{Text}
use Rattle.target_vars.specs.Layout.{part_bytes, span_bytes, IsPart, IsPiece, IsPlace}
use Rattle.target_vars.specs.declared.place.Part.{Part}
use Rattle.target_vars.specs.declared.place.Span.{Span}
use Rattle.target_vars.specs.declared.place.Place.{Place}
use Rattle.target_vars.specs.EnvValue.{piece_at}

pub boundary_stays : (b t : Text) (i : ℕ) → IsUtf8 b → IsUtf8 (b ++ t) → IsCharBoundary b i → IsCharBoundary (b ++ t) i
boundary_stays b t i utf8 both at =
    let longer = length-append b t in
    IsCharBoundary-from_take (b ++ t) i both (omega (arith, at.0)) (rw (take-append-le i b t at.0) (IsUtf8-take b i utf8 at))

part_stays : (b t : Text) (p : Part) → IsUtf8 b → IsUtf8 t → IsPart b p → IsPart (b ++ t) p
part_stays b t p ub ut is =
    let both = IsUtf8-append b t ub ut in
    record { begins = boundary_stays b t p.start ub both is.begins; ends = boundary_stays b t (p.start + p.len) ub both is.ends }

place_stays : (b t : Text) (p : Place) → IsUtf8 b → IsUtf8 t → IsPlace b p → IsPlace (b ++ t) p
place_stays b t p ub ut is = grind (arith, part_stays)

pub pieces_stay : (b t : Text) (spans : List Span) → IsUtf8 b → IsUtf8 t → All (IsPiece b) spans → All (IsPiece (b ++ t)) spans
pieces_stay b t spans ub ut = All-weaker (IsPiece b) (IsPiece (b ++ t)) (λ s. part_stays b t s.part ub ut) spans

pub places_stay : (b t : Text) (places : List Place) → IsUtf8 b → IsUtf8 t → All (IsPlace b) places → All (IsPlace (b ++ t)) places
places_stay b t places ub ut = All-weaker (IsPlace b) (IsPlace (b ++ t)) (λ p. place_stays b t p ub ut) places

-- a piece of a text stays the same if another text comes after it
pub front_piece : (b t : Text) (at : ℕ × ℕ) → at.0 + at.1 ≤ length b → piece_at (b ++ t) at ≡ piece_at b at
front_piece b t at within = grind (arith, common_steps)

pub same_part : (b t : Text) (p : Part) → IsPart b p → part_bytes (b ++ t) p ≡ part_bytes b p
same_part b t p is = front_piece b t (p.start, p.len) is.ends.0

pub same_pieces : (b t : Text) (spans : List Span) → All (IsPiece b) spans → map (span_bytes (b ++ t)) spans ≡ map (span_bytes b) spans
same_pieces b t [] are = refl
same_pieces b t (s ∷ ss) are =
    ap (λ x. x ∷ map (span_bytes (b ++ t)) ss) (same_part b t s.part (All-head (IsPiece b) s ss are))
    ∙ ap (λ xs. span_bytes b s ∷ xs) (same_pieces b t ss (All-tail (IsPiece b) s ss are))

-- ---- the text at the end

pub last_part : (b t : Text) (p : Part) → p.start ≡ length b → p.len ≡ length t → part_bytes (b ++ t) p ≡ t
last_part b t p start len = ap (take p.len) (drop_at b t p.start (sym start)) ∙ take_all p.len t (omega arith)

pub last_is_part : (b t : Text) (p : Part) → IsUtf8 t → p.start ≡ length b → p.len ≡ length t → IsPart (b ++ t) p
last_is_part b t p ut start len =
    let whole = length-append b t in
    let end : length (b ++ t) ≡ p.start + p.len = omega arith in
    record {
      begins = subst (IsCharBoundary (b ++ t)) (sym start) (IsCharBoundary-at_seam (b ++ t) b t refl ut);
      ends = subst (IsCharBoundary (b ++ t)) end (IsCharBoundary-end (b ++ t));
    }
