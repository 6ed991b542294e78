-- Lines of findings that are added one after the other.
use Rattle.std.proofs.Common.{◌≡◌, ◌||◌, ◌++◌, Bool, List, [], ◌∷◌, sym, ap, ◌∙◌, append-nil, append_assoc}
use Rattle.std.specs.Prelude.{string_bytes}
use Rattle.std.specs.List.{flat_map, list_any}
use Rattle.std.proofs.Math.Bool.{or-false, or_assoc}
use Rattle.std.proofs.lemmas.Grind.{flat_map-append}
use Rattle.std.proofs.lemmas.List.Folds.{list_any-append}
use Rattle.text_model.specs.Texts.{Text}
use Rattle.printed_text.specs.Adding.{AddsLines}
use Rattle.printed_text.specs.declared.findings.Findings.{Findings}

module _ {F : Type 0} {line_of : F → Text} {warns : F → Bool} where
  pub adds_none : (a : Findings) → AddsLines line_of warns a a []
  adds_none a = record { text = sym (append-nil (string_bytes a.text)); warned = sym (or-false a.warned) }

  pub adds_line : (a b : Findings) (finding : F) → string_bytes b.text ≡ string_bytes a.text ++ line_of finding → b.warned ≡ (a.warned || warns finding)
      → AddsLines line_of warns a b (finding ∷ [])
  adds_line a b finding text warned = record {
    text = text ∙ ap (λ line. string_bytes a.text ++ line) (sym (append-nil (line_of finding)));
    warned = warned ∙ ap (λ warned. a.warned || warned) (sym (or-false (warns finding)));
  }

  pub adds_both : (a b c : Findings) (xs ys : List F) → AddsLines line_of warns a b xs → AddsLines line_of warns b c ys → AddsLines line_of warns a c (xs ++ ys)
  adds_both a b c xs ys first second = record {
    text = second.text ∙ ap (λ text. text ++ flat_map line_of ys) first.text
        ∙ append_assoc (string_bytes a.text) (flat_map line_of xs) (flat_map line_of ys)
        ∙ ap (λ text. string_bytes a.text ++ text) (sym (flat_map-append line_of xs ys));
    warned = second.warned ∙ ap (λ warned. warned || list_any warns ys) first.warned ∙ or_assoc a.warned (list_any warns xs) (list_any warns ys)
        ∙ ap (λ warned. a.warned || warned) (sym (list_any-append warns xs ys));
  }
