-- The lines of a rule that holds.
use Rattle.std.proofs.Common.{◌≡◌, ◌++◌, ℕ, false, ap, ◌∙◌, codes, append_assoc}
use Rattle.std.specs.Fmt.{decimal}
use Rattle.text_model.specs.Texts.{Text}
use Rattle.menu.specs.WebLink.{is_web_link}
use Rattle.rule_explanation.specs.Explanation.{link_lines}

pub other_lines : (out middle after : Text) (place : ℕ) (link : Text) → is_web_link link ≡ false
    → middle ≡ out ++ (codes "  rule " ++ (decimal place ++ (codes " holds: " ++ (link ++ codes "\n")))) → after ≡ middle ++ codes "  not a web link\n"
    → after ≡ out ++ link_lines place link
other_lines out middle after place link other e f =
    rw other
    (f ∙ ap (λ (t : Text). t ++ codes "  not a web link\n") e
    ∙ append_assoc out (codes "  rule " ++ (decimal place ++ (codes " holds: " ++ (link ++ codes "\n")))) (codes "  not a web link\n")
    ∙ ap (λ t. out ++ (codes "  rule " ++ t))
    (append_assoc (decimal place) (codes " holds: " ++ (link ++ codes "\n")) (codes "  not a web link\n")
    ∙ ap (λ t. decimal place ++ (codes " holds: " ++ t)) (append_assoc link (codes "\n") (codes "  not a web link\n"))))
