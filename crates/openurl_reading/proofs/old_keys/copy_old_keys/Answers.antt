use Rattle.std.specs.Borrow.{Bor}
use Rattle.text_model.specs.Texts.{Text}
use Rattle.openurl_reading.specs.OldKeys.{OldKey, copy}
use Rattle.openurl_reading.proofs.Walks.{steps_more}
use Rattle.openurl_reading.proofs.old_keys.copy_old_keys.Goals as goal

abbrev old_key : Bor Text × Bor Text → OldKey
old_key key = record { old = key.0.now; new = key.1.now }

pub loop-key-preserved : goal.loop-key-preserved
loop-key-preserved c = steps_more old_key copy _ _ _ _ _ _ c.loop-key-test.true c.in_ok-pairs.ensures c.loop-key.invariant
