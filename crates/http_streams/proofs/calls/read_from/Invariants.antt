use Rattle.std.specs.Io.KnownBytes.{Keeps}
use Rattle.http_streams.proofs.calls.read_from.Given as goal

-- a call that was interrupted read nothing
abbrev pub invariant-loop-attempt : goal.invariant-loop-attempt
invariant-loop-attempt g l = Keeps (g.R.Read.remaining l.fn.reader) (g.R.Read.remaining l.reader)
