use Rattle.std.proofs.Common.{sym}
use Rattle.publication_dates.proofs.NthParts.{nth_at, nth_past}
use Rattle.publication_dates.proofs.parts.nth.Goals as goal

pub returns-then-index-parts : goal.returns-then-index-parts
returns-then-index-parts c = nth_at c.args.parts.now c.args.index _ c.if-index-parts.true

pub returns-else-index-parts : goal.returns-else-index-parts
returns-else-index-parts c = sym (nth_past c.args.parts.now c.args.index c.if-index-parts.false)
