use Rattle.std.proofs.Common.{◌≡◌, ◌++◌, ap, ◌∙◌}
use Rattle.text_model.specs.Texts.{texts_of}
use Rattle.query_repair.specs.Pieces.{cleaned, opened, pieces_of}
use Rattle.query_repair.proofs.Steps.{written_more, all_written}
use Rattle.query_repair.proofs.pieces.pieces.Goals as goal

pub loop-part-preserved : goal.loop-part-preserved
loop-part-preserved c =
    written_more (λ part. opened (cleaned part)) c.deref-part-items.result.now c.loop-part.part-index _ (texts_of c.loop-part.pieces.items) _
    c.loop-part-test.true c.loop-part.invariant
    (c.in_ok-push_opened.ensures ∙ ap (λ s. texts_of c.loop-part.pieces.items ++ opened s) c.cleaned.ensures)

pub returns : goal.returns
returns c =
    c.loop-part.invariant
    ∙ all_written (λ part. opened (cleaned part)) c.deref-part-items.result.now c.loop-part.part-index c.loop-part-test.false
    ∙ ap (λ s. pieces_of (texts_of s)) c.deref-part-items.ensures.value ∙ ap pieces_of c.in_ok-parts.ensures
