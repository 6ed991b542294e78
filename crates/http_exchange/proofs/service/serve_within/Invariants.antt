use Rattle.std.proofs.Common.{◌≡◌, ◌≤◌, List, length}
use Rattle.std.specs.Duration.{as_nanos}
use Rattle.http_exchange.specs.Connections.{AreServed, Connection, counts_of}
use Rattle.http_exchange.proofs.service.serve_within.Given as goal

-- the number of connections served so far is that of the turn, and each is counted by how it ended
abbrev pub invariant-loop-served : goal.invariant-loop-served
invariant-loop-served g l =
    ((all : List (Connection g.row.L-In.Denot g.row.L-Out.Denot))
    × AreServed (g.S.MenuSource.menus l.source) g.L.Listener.gives g.L.Listener.closes g.L.In.Input.input_state g.L.Out.Output.output_state (as_nanos l.wait)
    l.fn.listener all l.listener
    × (length all ≡ l._served) × (l.counts ≡ counts_of all))
    × (l._served ≤ l.count)
