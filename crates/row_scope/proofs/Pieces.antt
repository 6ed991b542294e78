-- Pieces of a request's values, and of a row's line after them.
use Rattle.std.proofs.Common.{◌≡◌, ℕ, ◌+◌, ◌-◌, ◌≤◌, List, [], ◌∷◌, ◌++◌, All, length, map, take, drop, sum_by, refl, sym, ap, ◌∙◌, arith, length-drop}
use Rattle.std.proofs.Math.Seq.{drop-append-add}
use Rattle.std.proofs.lemmas.List.{length-take-le}
use Rattle.std.proofs.lemmas.List.Elements.{All-head, All-tail}
use Rattle.std.proofs.lemmas.List.Sums.{sum_by-cons}
use Rattle.text_model.specs.Texts.{Text}
use Rattle.target_vars.specs.EnvValue.{piece_at}
use Rattle.target_vars.proofs.Growth.{front_piece}

pub piece_length : (text : Text) (at : ℕ × ℕ) → at.0 + at.1 ≤ length text → length (piece_at text at) ≡ at.1
piece_length text at within = length-take-le at.1 (drop at.0 text) (omega (arith, length-drop at.0 text, within))

-- a piece of the line is after the values
pub line_piece : (values line : Text) (start len : ℕ) → piece_at (values ++ line) (length values + start, len) ≡ piece_at line (start, len)
line_piece values line start len = ap (take len) (drop-append-add values line start)

pub piece_after : (values line bytes : Text) (seam start end : ℕ) → bytes ≡ line → seam ≡ length values → seam ≤ start → start ≤ end
    → take (end - seam - (start - seam)) (drop (start - seam) bytes) ≡ piece_at (values ++ line) (start, end - start)
piece_after values line bytes seam start end same size from forward =
    let past = start - seam in
    let len : end - seam - past ≡ end - start = omega (arith, from, forward) in
    let at : length values + past ≡ start = omega (arith, size, from) in
    ap (λ (t : Text). take (end - seam - past) (drop past t)) same
    ∙ ap (λ n. take n (drop past line)) len
    ∙ sym (line_piece values line past (end - start))
    ∙ ap (λ n. piece_at (values ++ line) (n, end - start)) at

pub front_pieces : (values line : Text) (spans : List (ℕ × ℕ)) → All (λ at. at.0 + at.1 ≤ length values) spans
    → map (piece_at (values ++ line)) spans ≡ map (piece_at values) spans
front_pieces values line [] within = refl
front_pieces values line (at ∷ spans) within =
    let P = λ (a : ℕ × ℕ). a.0 + a.1 ≤ length values in
    rw (front_piece values line at (All-head P at spans within))
    (ap (λ ts. piece_at values at ∷ ts) (front_pieces values line spans (All-tail P at spans within)))

-- the lengths of pieces
pub piece_lengths : (text : Text) (spans : List (ℕ × ℕ)) → All (λ at. at.0 + at.1 ≤ length text) spans
    → sum_by length (map (piece_at text) spans) ≡ sum_by (λ span. span.1) spans
piece_lengths text [] within = refl
piece_lengths text (at ∷ spans) within =
    let P = λ (a : ℕ × ℕ). a.0 + a.1 ≤ length text in
    let first = piece_length text at (All-head P at spans within) in
    let others = piece_lengths text spans (All-tail P at spans within) in
    sum_by-cons length (piece_at text at) (map (piece_at text) spans) ∙ rw (first, others) (sym (sum_by-cons (λ (span : ℕ × ℕ). span.1) at spans))
