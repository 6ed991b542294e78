use Rattle.std.proofs.Common.{◌≡◌, ◌++◌, take}
use Rattle.text_model.specs.Texts.{texts_of}
use Rattle.query_repair.specs.Repair.{after_first}
use Rattle.query_repair.proofs.repair.push_others.Given as goal

abbrev pub invariant-loop-part : goal.invariant-loop-part
invariant-loop-part l = l.text.items ≡ l.initial.text.items ++ after_first (texts_of (take l.part-index l.others))
