use Rattle.std.proofs.Common.{sym, ap, ◌∙◌}
use Rattle.journal_references.specs.References.{is_inside}
use Rattle.journal_references.proofs.Steps.{match_later}
use Rattle.journal_references.proofs.places.match_at.Goals as goal

pub returns-else-is_inside : goal.returns-else-is_inside
returns-else-is_inside c =
    match_later c.args.text.now c.split_at.result.0.now c.split_at.result.1.now c.args.count _ c.split_at.ensures.front c.split_at.ensures.back
    (ap (λ b. is_inside b) (sym c.last.ensures) ∙ sym c.is_inside.ensures ∙ c.if-is_inside.false) c.match_form.ensures
