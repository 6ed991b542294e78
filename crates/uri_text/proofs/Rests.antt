-- A loop that writes a text piece by piece: the bytes so far, and the capacity for the next.
use Rattle.std.proofs.Common.{◌≡◌, ℕ, ◌+◌, ◌≤◌, List, ◌++◌, length, sym, ap, ◌∙◌, arith, append_assoc, length-append}

-- after a piece is written, the rest is still to write
pub bytes_left : (before piece whole rest all after : List ℕ) → after ≡ before ++ piece → whole ≡ piece ++ rest → before ++ whole ≡ all → after ++ rest ≡ all
bytes_left before piece whole rest all after e f g = rw e (append_assoc before piece rest ∙ (ap (λ x. before ++ x) (sym f) ∙ g))

pub len_left : (used used_after all : ℕ) (piece whole rest : List ℕ) → used_after ≡ used + length piece → whole ≡ piece ++ rest → used + length whole ≡ all
    → used_after + length rest ≡ all
len_left used used_after all piece whole rest e f g = omega (arith, ap length f, length-append piece rest)

-- there is capacity for the piece
pub room_for : (used room : ℕ) (piece whole rest : List ℕ) → whole ≡ piece ++ rest → used + length whole ≤ room → used + length piece ≤ room
room_for used room piece whole rest f g = omega (arith, ap length f, length-append piece rest)
