-- A line for each entry of a table.
use Rattle.std.proofs.Common.{◌≡◌, ◌<◌, ◌+◌, ℕ, List, [], ◌∷◌, ◌++◌, length, take, get_or, sym, ◌∙◌, ap, append_assoc, arith}
use Rattle.std.proofs.lemmas.List.{append-nil, length-take-le, take_more}
use Rattle.text_model.specs.Texts.{Text}
use Rattle.code_file.specs.Listing.{lines_from}

lines_from-push : {X : Type 0} (line : ℕ → X → Text) (n : ℕ) (xs : List X) (x : X)
    → lines_from line n (xs ++ x ∷ []) ≡ lines_from line n xs ++ line (n + length xs) x
lines_from-push line n [] x =
    let same : n ≡ n + 0 = omega arith in append-nil (line n x) ∙ ap (λ (k : ℕ). line k x) same
lines_from-push line n (y ∷ ys) x =
    let same : n + 1 + length ys ≡ n + length (y ∷ ys) = omega arith in
    ap (λ (t : Text). line n y ++ t) (lines_from-push line (n + 1) ys x)
    ∙ sym (append_assoc (line n y) (lines_from line (n + 1) ys) (line (n + 1 + length ys) x))
    ∙ ap (λ (k : ℕ). (line n y ++ lines_from line (n + 1) ys) ++ line k x) same

-- the step of a loop that writes them
pub line_step : {X : Type 0} (line : ℕ → X → Text) (start : Text) (xs : List X) (i : ℕ) (d : X) (before after : Text)
    → i < length xs → before ≡ start ++ lines_from line 0 (take i xs) → after ≡ before ++ line i (get_or xs i d)
    → after ≡ start ++ lines_from line 0 (take (i + 1) xs)
line_step line start xs i d before after within h g =
    let len : 0 + length (take i xs) ≡ i = omega (arith, length-take-le i xs (omega arith)) in
    g ∙ ap (λ (t : Text). t ++ line i (get_or xs i d)) h
    ∙ append_assoc start (lines_from line 0 (take i xs)) (line i (get_or xs i d))
    ∙ ap (λ (t : Text). start ++ t)
    (sym (ap (lines_from line 0) (take_more xs i d within)
    ∙ lines_from-push line 0 (take i xs) (get_or xs i d)
    ∙ ap (λ (k : ℕ). lines_from line 0 (take i xs) ++ line k (get_or xs i d)) len))
