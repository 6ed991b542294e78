use Rattle.std.proofs.Common.{Bor, take, ap, sym, ◌∙◌}
use Rattle.std.proofs.lemmas.List.{take-map}
use Rattle.text_model.specs.Texts.{Text, texts_of}
use Rattle.standard_names.proofs.columns.column_names.Goals as goal

pub returns : goal.returns
returns c =
    ap texts_of c.split_at.ensures.front ∙ (sym (take-map (λ (name : Bor Text). name.now) 25 c.known_columns.result.now) ∙ ap (take 25) c.known_columns.ensures)
