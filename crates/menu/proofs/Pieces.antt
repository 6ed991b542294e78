-- Texts that are appended one after another.
use Rattle.std.proofs.Common.{◌≡◌, ◌++◌, ap, ◌∙◌, append_assoc}
use Rattle.text_model.specs.Texts.{Text}

pub three_pieces : (start a b c first second third : Text) → first ≡ start ++ a → second ≡ first ++ b → third ≡ second ++ c
    → third ≡ start ++ (a ++ (b ++ c))
three_pieces start a b c first second third e f g =
    g ∙ (ap (λ (t : Text). t ++ c) (f ∙ ap (λ (t : Text). t ++ b) e)
    ∙ (append_assoc (start ++ a) b c ∙ append_assoc start a (b ++ c)))
