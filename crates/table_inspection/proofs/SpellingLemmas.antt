-- Spelling a name byte by byte.
use Rattle.std.proofs.Common.{◌≡◌, ℕ, ◌+◌, ◌<◌, ◌≤◌, ◌++◌, Bool, not, ◌∷◌, length, drop, get_or}
use Rattle.std.proofs.lemmas.Grind.{common_steps}
use Rattle.std.proofs.Common.{arith}
use Rattle.std.specs.Char.{is_ascii_alphabetic}
use Rattle.std.proofs.lemmas.List.{drop_more}
use Rattle.text_model.specs.Texts.{Text}
use Rattle.table_inspection.specs.Columns.{spelled, spelling}
use Rattle.table_inspection.specs.Private.Spelling.{continued, next_name}

pub spelled_step : (name : Text) (after : Bool) (b : ℕ) (rest : Text)
    → name ++ continued name after (spelled (b ∷ rest)) ≡ next_name name after b
    ++ continued (next_name name after b) (not (is_ascii_alphabetic b)) (spelled rest)
unfolding spelled
spelled_step name after b rest = grind (arith, common_steps)

pub spelled_next : (text : Text) (i : ℕ) (name new : Text) (after new_after : Bool) (b : ℕ) → i < length text → b ≡ get_or text i 0
    → name ++ continued name after (spelled (drop i text)) ≡ spelling text → new ≡ next_name name after b → new_after ≡ not (is_ascii_alphabetic b)
    → new ++ continued new new_after (spelled (drop (i + 1) text)) ≡ spelling text
spelled_next text i name new after new_after b inside b_is old new_is after_is = grind (arith, spelled_step, drop_more)

pub spelled_all : (text : Text) (i : ℕ) (name : Text) (after : Bool) → length text ≤ i → name ++ continued name after (spelled (drop i text)) ≡ spelling text
    → name ≡ spelling text
unfolding spelled
spelled_all text i name after end old = grind (arith, common_steps)
