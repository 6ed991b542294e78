use Rattle.std.proofs.Common.{sym, ◌∙◌}
use Rattle.journal_references.specs.References as spec
use Rattle.journal_references.proofs.Steps.{place_here, place_later, place_last}
use Rattle.journal_references.proofs.places.first_place.Goals as goal

pub returns-in-Some : goal.returns-in-Some
returns-in-Some c =
    sym (place_here c.args.text.now (spec.place_of c.in-Some.place) c.loop-count.count c.loop-count-test.true c.in-Some.ensures)
    ∙ c.loop-count.invariant

pub loop-count-preserved : goal.loop-count-preserved
loop-count-preserved c =
    place_later c.args.text.now c.loop-count.count c.loop-count-test.true c.in_default.ensures ∙ c.loop-count.invariant

pub returns : goal.returns
returns c = sym (place_last c.args.text.now c.loop-count.count c.loop-count-test.false) ∙ c.loop-count.invariant
