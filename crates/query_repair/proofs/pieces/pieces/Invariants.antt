use Rattle.std.proofs.Common.{◌≡◌, take}
use Rattle.text_model.specs.Texts.{texts_of}
use Rattle.query_repair.specs.Pieces.{pieces_of}
use Rattle.query_repair.proofs.pieces.pieces.Given as goal

abbrev pub invariant-loop-part : goal.invariant-loop-part
invariant-loop-part l = texts_of l.pieces.items ≡ pieces_of (texts_of (take l.part-index l.part-items))
