-- The step of a loop that pushes the lines of one block after another.
use Rattle.std.proofs.Common.{◌≡◌, ℕ, ◌+◌, ◌<◌, List, ◌∷◌, ◌++◌, length, drop, get_or, sym, ap, ◌∙◌, append_assoc}
use Rattle.std.proofs.lemmas.List.{drop_more}
use Rattle.compiler_model.specs.declared.lines.Line.{Line}
use Rattle.compiler_model.specs.Blocks.{Block, lines}

-- what has been pushed, with the lines of the elements that are left, is the whole
pub block_step : {X : Type 0} (all : List X → Block) (one : X → Block) → ((x : X) (xs : List X) → lines (all (x ∷ xs)) ≡ lines (one x) ++ lines (all xs))
    → (xs : List X) (i : ℕ) (x : X) (before after whole : List Line) → i < length xs → x ≡ get_or xs i x
    → before ++ lines (all (drop i xs)) ≡ whole → after ≡ before ++ lines (one x) → after ++ lines (all (drop (i + 1) xs)) ≡ whole
block_step {X = X} all one in_turn xs i x before after whole within is so_far pushed =
    ap (λ (ls : List Line). ls ++ lines (all (drop (i + 1) xs))) pushed
    ∙ append_assoc before (lines (one x)) (lines (all (drop (i + 1) xs)))
    ∙ ap (λ (ls : List Line). before ++ ls) (sym (in_turn x (drop (i + 1) xs)))
    ∙ ap (λ (ys : List X). before ++ lines (all ys)) (ap (λ (y : X). y ∷ drop (i + 1) xs) is ∙ sym (drop_more xs i x within))
    ∙ so_far
