use Rattle.std.proofs.Common.{◌≡◌, drop}
use Rattle.text_model.specs.Texts.{texts_of}
use Rattle.query_repair.specs.Keys.{is_one_of}
use Rattle.query_repair.proofs.keys.is_one_of.Given as goal

abbrev pub invariant-loop-name : goal.invariant-loop-name
invariant-loop-name l = is_one_of (texts_of (drop l.name-index l.names)) l.key ≡ is_one_of (texts_of l.names) l.key
