use Rattle.std.proofs.Common.{refl}
use Rattle.http_exchange.specs.Connections.{Exchanged, Unread}
use Rattle.http_exchange.proofs.service.serve_next.Goals as goal

-- the time-out could not be set for the connection
pub returns-in_default-clause-served : goal.returns-in_default-clause-served
returns-in_default-clause-served g c = (Unread, rw c.in_default.is at c.in_ok-input.ensures.gives, tt, refl)

pub returns-in_default-clause-stopped : goal.returns-in_default-clause-stopped
returns-in_default-clause-stopped g c = tt

-- the connection had an exchange
pub returns-clause-served : goal.returns-clause-served
returns-clause-served g c =
    let gives = rw c.in-Some.is at c.in_ok-input.ensures.gives in
    let fresh = rw c.in-Some.is at c.in_ok-input.ensures.fresh in (
      Exchanged c.in-Some.input c.in-Some.output c.serve_one-served.result c.serve_one-served.new.input c.serve_one-served.new.output,
      (c.accept.new.self, gives, assumption),
      (fresh, c.serve_one-served.ensures.exchange),
      refl,
    )

pub returns-clause-stopped : goal.returns-clause-stopped
returns-clause-stopped g c = tt
