use Rattle.std.proofs.Common.{◌≡◌, drop}
use Rattle.text_model.specs.Texts.{texts_of}
use Rattle.query_repair.specs.Repair.{has_pair}
use Rattle.query_repair.proofs.repair.has_pair.Given as goal

abbrev pub invariant-loop-part : goal.invariant-loop-part
invariant-loop-part l = has_pair (texts_of (drop l.part-index l.parts)) ≡ has_pair (texts_of l.parts)
