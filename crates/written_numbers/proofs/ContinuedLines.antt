-- The lines that continue an identifier.
use Rattle.std.proofs.Common.{◌≡◌, true, false, List, [], ◌∷◌, ◌++◌, sym, ap, ◌∙◌, append-nil, append_assoc}
use Rattle.std.proofs.lemmas.Bool.{cond-false, cond-true}
use Rattle.text_model.specs.Texts.{Text}
use Rattle.written_numbers.specs.Identifiers.{begins_identifier, continued}

pub line_ends : (front line : Text) (lines : List Text) → begins_identifier line ≡ true → front ++ continued (line ∷ lines) ≡ front
line_ends front line lines h =
    ap (λ u. front ++ u) (cond-true (begins_identifier line) [] (line ++ continued lines) h) ∙ append-nil front

pub line_continues : (front line : Text) (lines : List Text) → begins_identifier line ≡ false
    → front ++ continued (line ∷ lines) ≡ (front ++ line) ++ continued lines
line_continues front line lines h =
    ap (λ u. front ++ u) (cond-false (begins_identifier line) [] (line ++ continued lines) h) ∙ sym (append_assoc front line (continued lines))
