use Rattle.http_streams.proofs.StreamLemmas.{Sends-both, SendsInPart-second}
use Rattle.http_streams.proofs.write.write_both.Goals as goal

pub returns-in-Ok-clause-all : goal.returns-in-Ok-clause-all
returns-in-Ok-clause-all g c = Sends-both _ _ _ _ _ c.in_ok-write_all.ensures.all c.in-Ok.ensures.all

pub returns-in-Err-clause-front : goal.returns-in-Err-clause-front
returns-in-Err-clause-front g c = SendsInPart-second _ _ _ _ _ _ c.in_ok-write_all.ensures.all c.in-Err.ensures.first
