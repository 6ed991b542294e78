use Rattle.std.proofs.Common.{arith}
use Rattle.verifier.proofs.Pushes.{first_follows, first_rises, more_follows, more_rises, written_same, written_on, kept_follows, kept_join, risen}
use Rattle.verifier.proofs.walk.push.Goals as goal

pub returns-in_default-clause-follows : goal.returns-in_default-clause-follows
returns-in_default-clause-follows c = first_follows c.args.table.now c.args.edge.to c.args.edge.row c.requires c.in_default.is

pub returns-in_default-clause-same : goal.returns-in_default-clause-same
returns-in_default-clause-same c = written_same c.args.table.now c.args.edge.to c.args.edge.row _ (omega (arith, c.earlier.ensures))

pub returns-in_default-clause-on : goal.returns-in_default-clause-on
returns-in_default-clause-on c =
    written_on c.args.table.now c.args.edge.to c.args.edge.row _ _ c.requires
    (first_rises c.args.table.now c.args.edge.to c.args.edge.row c.in_default.is (omega arith)) (omega (arith, c.earlier.ensures))

pub returns-then-not-raise-clause-follows : goal.returns-then-not-raise-clause-follows
returns-then-not-raise-clause-follows c = kept_follows c.args.table.now c.args.edge.to c.in-Some.row c.args.edge.row c.in-Some.is
    (kept_join _ _ _ _ c.if-not-raise.true c.raise.ensures.rises c.raise.ensures.joined)

pub returns-clause-follows : goal.returns-clause-follows
returns-clause-follows c = more_follows c.args.table.now c.args.edge.to _ c.in-Some.row c.args.edge.row c.requires c.in-Some.is c.raise.ensures.joined

pub returns-clause-same : goal.returns-clause-same
returns-clause-same c = written_same c.args.table.now c.args.edge.to _ _ (omega (arith, c.earlier-2.ensures))

pub returns-clause-on : goal.returns-clause-on
returns-clause-on c =
    written_on c.args.table.now c.args.edge.to _ _ _ c.requires
    (more_rises c.args.table.now c.args.edge.to _ c.in-Some.row c.in-Some.is (risen _ _ _ c.if-not-raise.false c.raise.ensures.rises))
    (omega (arith, c.earlier-2.ensures))
