use Rattle.http_exchange.proofs.service.serve_on.Goals as goal

pub returns-clause-served : goal.returns-clause-served
returns-clause-served g c = rw c.from_secs.ensures at c.serve_within.ensures.served

pub returns-clause-stopped : goal.returns-clause-stopped
returns-clause-stopped g c = rw c.from_secs.ensures at c.serve_within.ensures.stopped
