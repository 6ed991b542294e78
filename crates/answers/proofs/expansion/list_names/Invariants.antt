use Rattle.text_model.specs.Texts.{texts_of}
use Rattle.std.proofs.Common.{◌≡◌, ◌++◌, length}
use Rattle.answers.specs.Expansion.{names_of}
use Rattle.answers.proofs.expansion.list_names.Given as goal

abbrev pub invariant-loop-rest : goal.invariant-loop-rest
invariant-loop-rest l = names_of (texts_of l.options) ≡ texts_of l.names.items ++ names_of (texts_of l.rest)

abbrev pub decreases-loop-rest : goal.decreases-loop-rest
decreases-loop-rest l = length l.rest
