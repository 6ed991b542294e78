-- The pieces of a reply, appended one after another.
use Rattle.std.proofs.Common.{◌≡◌, ◌∙◌, ◌++◌, ap}
use Rattle.text_model.specs.Texts.{Text}

-- one more piece after those before it
pub piece_more : (before after whole piece same : Text) → after ≡ before ++ piece → piece ≡ same → before ≡ whole → after ≡ whole ++ same
piece_more before after whole piece same e f g = e ∙ (ap (λ (t : Text). before ++ t) f ∙ ap (λ (t : Text). t ++ same) g)
