use Rattle.written_texts.specs.Readings.{written}
use Rattle.openurl_reading.proofs.Walks.{texts_pushed}
use Rattle.openurl_reading.proofs.texts.texts.Goals as goal

pub loop-value-preserved : goal.loop-value-preserved
loop-value-preserved c =
    texts_pushed (written c.args.role) _ _ _ _ _ _ c.loop-value-test.true c.in_ok-push.ensures.items c.in_ok-read.ensures c.loop-value.invariant
