use Rattle.std.proofs.Common.{◌≡◌, ◌≤◌, ◌++◌, length, take, drop}
use Rattle.text_model.specs.Cut.{cut}
use Rattle.uri_text.specs.Prefix.{writing_of}
use Rattle.uri_text.proofs.items.cut.Given as goal

-- the items so far, with those that are still missing, are the cut
abbrev pub invariant-loop-left : goal.invariant-loop-left
invariant-loop-left l = record {
  within : l.end ≤ length l.text;
  taken : cut (writing_of l.triplets) l.text l.n ≡ take l.end l.text ++ cut (writing_of l.triplets) (drop l.end l.text) l.left;
}

abbrev pub decreases-loop-left : goal.decreases-loop-left
decreases-loop-left l = l.left
