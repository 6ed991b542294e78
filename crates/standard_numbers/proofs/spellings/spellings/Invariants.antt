use Rattle.std.proofs.Common.{◌≡◌, ◌++◌, drop}
use Rattle.text_model.specs.Texts.{texts_of}
use Rattle.standard_numbers.specs.Spellings as spec
use Rattle.standard_numbers.specs.Private.Kinds.{length_at}
use Rattle.standard_numbers.proofs.spellings.spellings.Given as goal

abbrev pub invariant-loop-at : goal.invariant-loop-at
invariant-loop-at l =
    texts_of l.found.items ++ spec.spellings_from (length_at l.kind) l.left l.before (drop l.at l.text) ≡ spec.spellings (length_at l.kind) l.text
