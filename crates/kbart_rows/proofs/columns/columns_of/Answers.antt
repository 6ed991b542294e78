use Rattle.std.proofs.Common.{sym, ap, ◌∙◌, arith, rules, Some, if◌then◌else◌}
use Rattle.std.specs.HashMap.{get_by_text}
use Rattle.std.specs.Option.{unwrap_or}
use Rattle.std.specs.Str.{bytes_eq}
use Rattle.kbart_rows.specs.Lines.{cells_in}
use Rattle.kbart_rows.proofs.FirstColumns.{item_at, all_passed, column_entered}
use Rattle.kbart_rows.proofs.columns.columns_of.Goals as goal

pub loop-name-preserved : goal.loop-name-preserved
loop-name-preserved c =
    let header = cells_in c.args.header.now in
    let column = c.loop-name.column in
    let inv = c.loop-name.invariant in
    let at = item_at header column c.in-Some.name.now (cells_in c.in-Some.others.now) (sym c.in-Some.ensures.cell ∙ inv.1) in
    let shorter = c.in-Some.ensures.shorter in (
      search rules,
      at.after,
      omega arith,
      omega (arith, inv.3),
      c.in_ok-add_name.ensures.keyed ∙ inv.4,
      λ name. c.in_ok-add_name.ensures.added name ∙ ap (λ (text : _). if bytes_eq name text then Some (unwrap_or (get_by_text c.loop-name.columns name) column)
          else get_by_text c.loop-name.columns name) c.in_ok-from_str.ensures.ok
          ∙ column_entered header column c.in-Some.name.now name (cells_in c.in-Some.others.now) (get_by_text c.loop-name.columns name) at (inv.5 name),
    )

pub returns-clause-columns : goal.returns-clause-columns
returns-clause-columns c = grind (arith, all_passed, c.in_default.ensures.none)
