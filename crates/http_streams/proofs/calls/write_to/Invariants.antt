use Rattle.std.specs.Io.KnownBytes.{Keeps}
use Rattle.http_streams.proofs.calls.write_to.Given as goal

-- a call that was interrupted wrote nothing
abbrev pub invariant-loop-attempt : goal.invariant-loop-attempt
invariant-loop-attempt g l = Keeps (g.W.Write.contents l.fn.writer) (g.W.Write.contents l.writer)
