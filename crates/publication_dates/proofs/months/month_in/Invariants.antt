use Rattle.std.proofs.Common.{◌≡◌, drop}
use Rattle.text_model.specs.Texts.{texts_of}
use Rattle.publication_dates.specs.Months as spec
use Rattle.publication_dates.proofs.months.month_in.Given as goal

abbrev pub invariant-loop-word : goal.invariant-loop-word
invariant-loop-word l = spec.first_month (texts_of (drop l.word-index l.word-items)) ≡ spec.first_month (texts_of l.word-items)
