use Rattle.std.proofs.Common.{sym, ◌∙◌}
use Rattle.budget.proofs.Steps.{after_outside, after_inside, after_element}
use Rattle.budget.proofs.Limits.{small_after}
use Rattle.budget.proofs.sums.add_place.Goals as goal

pub add_outside-requires : goal.add_outside-requires
add_outside-requires c =
    small_after c.args.code.now c.requires.is_code c.args.place _ c.requires.place
    (after_outside _ _ _ c.requires.sums _ c.reading-instruction.ensures _ c.share_of-share.ensures (sym c.in-None.is ∙ c.requires.running))

pub returns-in-None : goal.returns-in-None
returns-in-None c =
    c.add_outside.ensures
    ∙ after_outside _ _ _ c.requires.sums _ c.reading-instruction.ensures _ c.share_of-share.ensures (sym c.in-None.is ∙ c.requires.running)

pub add_element-requires : goal.add_element-requires
add_element-requires c =
    small_after c.args.code.now c.requires.is_code c.args.place _ c.requires.place
    (after_element _ _ _ c.requires.sums _ c.reading-instruction.ensures _ c.share_of-share.ensures _ (sym c.in-Some.is ∙ c.requires.running)
    (sym c.prints_element.ensures ∙ c.if-prints_element.true))

pub returns-then-prints_element : goal.returns-then-prints_element
returns-then-prints_element c =
    c.add_element.ensures
    ∙ after_element _ _ _ c.requires.sums _ c.reading-instruction.ensures _ c.share_of-share.ensures _ (sym c.in-Some.is ∙ c.requires.running)
    (sym c.prints_element.ensures ∙ c.if-prints_element.true)

pub add_inside-requires : goal.add_inside-requires
add_inside-requires c =
    small_after c.args.code.now c.requires.is_code c.args.place _ c.requires.place
    (after_inside _ _ _ c.requires.sums _ c.reading-instruction.ensures _ c.share_of-share.ensures _ (sym c.in-Some.is ∙ c.requires.running)
    (sym c.prints_element.ensures ∙ c.if-prints_element.false))

pub returns-else-prints_element : goal.returns-else-prints_element
returns-else-prints_element c =
    c.add_inside.ensures
    ∙ after_inside _ _ _ c.requires.sums _ c.reading-instruction.ensures _ c.share_of-share.ensures _ (sym c.in-Some.is ∙ c.requires.running)
    (sym c.prints_element.ensures ∙ c.if-prints_element.false)
