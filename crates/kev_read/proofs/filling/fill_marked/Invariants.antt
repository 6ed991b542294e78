use Rattle.std.proofs.Common.{◌≡◌, take}
use Rattle.kev_read.specs.Filling.{filled}
use Rattle.text_model.specs.Texts.{texts_of}
use Rattle.kev_read.proofs.filling.fill_marked.Given as goal

-- the pairs so far were added
abbrev pub invariant-loop-index : goal.invariant-loop-index
invariant-loop-index l = l.env.entries ≡ filled (texts_of l.lists) l.fn.env.entries (take l.index l.pairs)
