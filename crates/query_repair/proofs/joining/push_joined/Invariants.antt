use Rattle.std.proofs.Common.{◌≡◌, ◌++◌, drop}
use Rattle.text_model.specs.Texts.{texts_of}
use Rattle.query_repair.specs.Joining.{joined_after}
use Rattle.query_repair.proofs.joining.push_joined.Given as goal

abbrev pub invariant-loop-piece : goal.invariant-loop-piece
invariant-loop-piece l =
    l.text.items ++ joined_after l.pair (texts_of (drop l.piece-index l.others))
    ≡ l.initial.text.items ++ joined_after l.first (texts_of l.others)
