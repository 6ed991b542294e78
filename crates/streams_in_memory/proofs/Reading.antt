-- Bytes that are copied to a buffer, and those that are left.
use Rattle.std.proofs.Common.{◌≡◌, ℕ, ◌+◌, List, ◌++◌, take, drop, sym, ap, ◌∙◌}
use Rattle.std.proofs.lemmas.List.{drop-drop, take-append-drop}

-- what was left before is the beginning of the buffer now, followed by what is left now
pub rest-read : (bytes room : List ℕ) (read n : ℕ) → take n room ≡ take n (drop read bytes)
    → drop read bytes ≡ take n room ++ drop (read + n) bytes
rest-read bytes room read n copied =
    sym (take-append-drop n (drop read bytes)) ∙ ap (λ (l : List ℕ). l ++ drop n (drop read bytes)) (sym copied)
    ∙ ap (λ (l : List ℕ). take n room ++ l) (drop-drop n read bytes)
