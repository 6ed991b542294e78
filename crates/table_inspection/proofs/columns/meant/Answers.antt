use Rattle.std.proofs.Common.{◌&&◌, Bool, sym, ap, ◌∙◌}
use Rattle.std.specs.List.{find}
use Rattle.std.specs.Str.{bytes_eq}
use Rattle.text_model.specs.Texts.{Text}
use Rattle.text_model.proofs.Lists.{find_here, find_later}
use Rattle.table_inspection.specs.Columns.{is_missing}
use Rattle.table_inspection.proofs.columns.meant.Goals as goal

pub returns-then-is_meant : goal.returns-then-is_meant
returns-then-is_meant c =
    let test : Text → Bool = λ name. is_missing c.args.table.now.header name && bytes_eq c.args.spelling.now name in
    sym (find_here test c.known_columns-name-items.result.now c.loop-name.name-index _ c.loop-name-test.true c.loop-name.invariant
    (sym c.is_meant.ensures ∙ c.if-is_meant.true)) ∙ ap (find test) c.known_columns-name-items.ensures

pub loop-name-preserved : goal.loop-name-preserved
loop-name-preserved c =
    let test : Text → Bool = λ name. is_missing c.args.table.now.header name && bytes_eq c.args.spelling.now name in
    find_later test c.known_columns-name-items.result.now c.loop-name.name-index _ c.loop-name-test.true c.loop-name.invariant
    (sym c.is_meant.ensures ∙ c.if-is_meant.false)
