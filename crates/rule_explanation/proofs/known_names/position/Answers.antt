-- The texts are those of the names.
use Rattle.std.proofs.Common.{List, string_bytes, sym, ap, ◌∙◌}
use Rattle.std.specs.List.{position}
use Rattle.std.specs.Str.{bytes_eq}
use Rattle.text_model.specs.Texts.{Text}
use Rattle.rule_explanation.proofs.PlaceLemmas.{position_given}
use Rattle.rule_explanation.proofs.known_names.position.Goals as goal

pub returns-else-len-gt-FEW_NAMES : goal.returns-else-len-gt-FEW_NAMES
returns-else-len-gt-FEW_NAMES c =
    let test = bytes_eq c.args.name.now in
    c.first_equal.ensures ∙ sym (position_given test string_bytes c.as_slice.result.now)
    ∙ ap (λ (names : List Text). position test names) c.as_slice.ensures
