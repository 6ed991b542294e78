use Rattle.std.proofs.Common.{sym, ap, ◌∙◌}
use Rattle.std.specs.List.{list_any}
use Rattle.std.specs.Str.{bytes_eq}
use Rattle.table_inspection.proofs.NameLemmas.{any_here, any_step}
use Rattle.table_inspection.proofs.columns.is_known.Goals as goal

pub returns-then-is_same : goal.returns-then-is_same
returns-then-is_same c =
    sym (sym (ap (list_any (bytes_eq c.args.name.now)) c.known_columns-other-items.ensures)
    ∙ any_here (bytes_eq c.args.name.now) c.known_columns-other-items.result.now c.loop-other.other-index _ c.loop-other-test.true
    (sym c.is_same.ensures ∙ c.if-is_same.true))

pub loop-other-preserved : goal.loop-other-preserved
loop-other-preserved c =
    any_step (bytes_eq c.args.name.now) c.known_columns-other-items.result.now c.loop-other.other-index _ c.loop-other-test.true c.loop-other.invariant
    (sym c.is_same.ensures ∙ c.if-is_same.false)
