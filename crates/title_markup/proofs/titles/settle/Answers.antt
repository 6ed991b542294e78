use Rattle.std.proofs.Common.{◌∙◌, sym}
use Rattle.title_markup.proofs.Settling.{step_some, step_none}
use Rattle.title_markup.proofs.titles.settle.Goals as goal

pub loop-smaller : goal.loop-smaller
loop-smaller c =
    (step_some c.loop.text.items c.shorten.new.text.items (sym c.in_ok-shorten.ensures.value ∙ c.if-branch.true) c.in_ok-shorten.ensures.after).shorter

pub loop-preserved : goal.loop-preserved
loop-preserved c =
    (step_some c.loop.text.items c.shorten.new.text.items (sym c.in_ok-shorten.ensures.value ∙ c.if-branch.true) c.in_ok-shorten.ensures.after).same
    ∙ c.loop.invariant

pub returns : goal.returns
returns c =
    step_none c.loop.text.items c.shorten.new.text.items (sym c.in_ok-shorten.ensures.value ∙ c.if-branch.false) c.in_ok-shorten.ensures.after
    ∙ c.loop.invariant
