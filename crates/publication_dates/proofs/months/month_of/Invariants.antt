use Rattle.std.proofs.Common.{◌≡◌, ◌+◌, drop}
use Rattle.text_model.specs.Texts.{texts_of}
use Rattle.publication_dates.specs.Months as spec
use Rattle.publication_dates.proofs.months.month_of.Given as goal

abbrev pub invariant-loop-index : goal.invariant-loop-index
invariant-loop-index l = spec.number_from l.word (l.index + 1) (texts_of (drop l.index l.names)) ≡ spec.number_from l.word 1 (texts_of l.names)
