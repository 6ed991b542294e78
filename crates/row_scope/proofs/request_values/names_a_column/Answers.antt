use Rattle.std.proofs.Common.{◌==◌, not, length, string_bytes, ap, ◌∙◌, rules, tests}
use Rattle.std.proofs.lemmas.Iterator.{YieldsList-from_slice}
use Rattle.std.proofs.lemmas.Iterator.Search.{any_from_yields_List}
use Rattle.std.specs.List.{list_any}
use Rattle.text_model.specs.Texts.{Text}
use Rattle.environment_model.specs.Environment.{members_of}
use Rattle.kbart_rows.proofs.NameSetLemmas.{any_text}
use Rattle.row_scope.proofs.ColumnLemmas.{found_by_columns}
use Rattle.row_scope.proofs.request_values.names_a_column.Goals as goal

pub returns-then-len-pairs : goal.returns-then-len-pairs
returns-then-len-pairs c =
    let columns = c.args.columns.now.names in
    let names = c.as_slice.result.now in
    let values = members_of c.args.values.now.entries in
    let is_key = λ (name : Text). not (length (values name) == 0) in
    let any = any_from_yields_List (λ n. is_key (string_bytes n)) _ _ _ c.any.ensures.ran (YieldsList-from_slice names cc)
    (λ x b q k. search (rules, tests)) in
    any ∙ any_text is_key names ∙ ap (list_any is_key) c.as_slice.ensures ∙ found_by_columns columns c.args.request.now.pairs values c.requires
