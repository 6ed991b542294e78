use Rattle.std.proofs.Common.{◌≡◌, ◌&&◌, None, Some, sym, ap, ◌∙◌}
use Rattle.std.specs.List.{find}
use Rattle.std.specs.Option.{option_copied}
use Rattle.std.specs.Str.{bytes_eq}
use Rattle.text_model.specs.Texts.{Text}
use Rattle.standard_names.specs.Columns.{known_columns}
use Rattle.table_inspection.specs.Columns.{is_missing, meant}
use Rattle.table_inspection.specs.Findings.{UnknownColumn, MisspelledColumn}
use Rattle.table_inspection.proofs.AddingLemmas.{adds_one}
use Rattle.table_inspection.proofs.NameLemmas.{meant_is}
use Rattle.table_inspection.proofs.columns.add_unknown.Goals as goal

pub returns-in_default : goal.returns-in_default
returns-in_default c =
    let header = c.args.table.now.header in
    let text = c.args.text.now in
    let spelled = c.as_str.ensures.value ∙ c.in_ok-spelled.ensures in
    let found = c.meant-found.ensures ∙ ap (λ (spelled : Text). find (λ name. is_missing header name && bytes_eq spelled name) known_columns) spelled
    ∙ sym (meant_is header text) in
    let none : meant header text ≡ None = sym found ∙ ap option_copied c.in_default.is in
    rw none (adds_one _ _ (UnknownColumn text) c.in_ok-add_text.ensures)

pub returns : goal.returns
returns c =
    let header = c.args.table.now.header in
    let text = c.args.text.now in
    let spelled = c.as_str.ensures.value ∙ c.in_ok-spelled.ensures in
    let found = c.meant-found.ensures ∙ ap (λ (spelled : Text). find (λ name. is_missing header name && bytes_eq spelled name) known_columns) spelled
    ∙ sym (meant_is header text) in
    let some : meant header text ≡ Some c.in-Some.name.now = sym found ∙ ap option_copied c.in-Some.is in
    rw some (adds_one _ _ (MisspelledColumn text c.in-Some.name.now) c.in_ok-add_misspelled.ensures)
