use Rattle.std.proofs.Common.{sym, ◌∙◌}
use Rattle.journal_references.specs.Pieces.{is_byte}
use Rattle.journal_references.proofs.Prefixes.{prefix_more, prefix_at}
use Rattle.journal_references.proofs.pieces.Piece.run.Goals as goal

pub returns-then-not-is_byte-clause-value : goal.returns-then-not-is_byte-clause-value
returns-then-not-is_byte-clause-value c =
    prefix_at (is_byte c.args.self) c.args.text.now c.loop-at.at c.loop-at-test.true (sym c.is_byte.ensures ∙ c.if-not-is_byte.true) c.loop-at.invariant

pub loop-at-preserved : goal.loop-at-preserved
loop-at-preserved c =
    prefix_more (is_byte c.args.self) c.args.text.now c.loop-at.at c.loop-at-test.true (sym c.is_byte.ensures ∙ c.if-not-is_byte.false) c.loop-at.invariant
