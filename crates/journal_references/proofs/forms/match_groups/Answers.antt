use Rattle.std.proofs.Common.{ap, ◌∙◌}
use Rattle.journal_references.specs.Parts.{match_of, match_parts}
use Rattle.journal_references.proofs.Steps.{group_more}
use Rattle.journal_references.proofs.forms.match_groups.Goals as goal

pub loop-group-preserved : goal.loop-group-preserved
loop-group-preserved c =
    group_more c.args.groups.now c.loop-group.group-index _ (match_of c.loop-group.found) _ _ c.loop-group-test.true
    (c.in_ok-found.ensures ∙ ap (λ ps. match_parts ps (match_of c.loop-group.found)) c.parts.ensures) c.loop-group.invariant
