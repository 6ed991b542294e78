use Rattle.std.proofs.Common.{◌||◌, ap, sym, ◌∙◌}
use Rattle.std.specs.Prelude.{slice_index}
use Rattle.work_identifiers.specs.Ends.{is_after, is_unopened}
use Rattle.work_identifiers.proofs.ends.ends_loosely.Goals as goal

pub returns-then-is_after : goal.returns-then-is_after
returns-then-is_after c =
    let text = c.args.text.now in
    let last = c.byte_at-last.result in
    c.if-is_after.true ∙ ap (λ b. b || is_unopened last text) (sym c.if-is_after.true ∙ c.is_after.ensures)
    ∙ ap (λ b. is_after b || is_unopened b text) (c.byte_at-last.ensures ∙ ap (slice_index text) c.saturating_sub.ensures)

pub returns-else-is_after : goal.returns-else-is_after
returns-else-is_after c =
    let text = c.args.text.now in
    let last = c.byte_at-last.result in
    c.is_unopened.ensures ∙ ap (λ b. b || is_unopened last text) (sym c.if-is_after.false ∙ c.is_after.ensures)
    ∙ ap (λ b. is_after b || is_unopened b text) (c.byte_at-last.ensures ∙ ap (slice_index text) c.saturating_sub.ensures)
