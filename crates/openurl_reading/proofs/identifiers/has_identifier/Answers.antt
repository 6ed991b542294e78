use Rattle.std.proofs.Common.{ap, sym, ◌∙◌}
use Rattle.openurl_reading.specs.Identifiers.{has_one_of}
use Rattle.openurl_reading.proofs.AsIdentifiers.{one_later, one_here, one_nowhere}
use Rattle.openurl_reading.proofs.identifiers.has_identifier.Goals as goal

pub loop-namespace-preserved : goal.loop-namespace-preserved
loop-namespace-preserved c =
    one_later c.args.text.now _ _ _ _ c.loop-namespace-test.true (sym c.in_ok-has.ensures ∙ c.if-branch.false) c.loop-namespace.invariant

pub returns-then-branch : goal.returns-then-branch
returns-then-branch c =
    one_here c.args.text.now _ _ _ _ c.loop-namespace-test.true (sym c.in_ok-has.ensures ∙ c.if-branch.true) c.loop-namespace.invariant
    ∙ ap (λ all. has_one_of all c.args.text.now) c.all_namespaces-namespace-items.ensures

pub returns : goal.returns
returns c =
    one_nowhere c.args.text.now _ _ _ c.loop-namespace-test.false c.loop-namespace.invariant
    ∙ ap (λ all. has_one_of all c.args.text.now) c.all_namespaces-namespace-items.ensures
