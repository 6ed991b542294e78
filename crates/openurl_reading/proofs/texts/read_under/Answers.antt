use Rattle.std.specs.Borrow.{Bor}
use Rattle.text_model.specs.Texts.{Text}
use Rattle.openurl_reading.specs.Texts.{texting}
use Rattle.openurl_reading.proofs.Walks.{steps_more}
use Rattle.openurl_reading.proofs.texts.read_under.Goals as goal

pub loop-key-preserved : goal.loop-key-preserved
loop-key-preserved c =
    steps_more (λ (key : Bor Text). key.now) (texting c.args.role) _ _ _ _ _ _ c.loop-key-test.true c.in_ok-pairs.ensures c.loop-key.invariant
