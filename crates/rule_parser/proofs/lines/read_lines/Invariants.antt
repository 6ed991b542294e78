-- The lines before the index were read.
use Rattle.std.proofs.Common.{map}
use Rattle.rule_parser.proofs.LineLemmas.{AreRead}
use Rattle.rule_parser.proofs.lines.read_lines.Given as goal

abbrev pub invariant-loop-i : goal.invariant-loop-i
invariant-loop-i l = AreRead (map (λ line. line.now) l.lines) l.i l.reader
