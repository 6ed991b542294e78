use Rattle.std.proofs.Common.{◌≡◌, drop}
use Rattle.text_model.specs.Texts.{texts_of}
use Rattle.publication_dates.specs.Dates as spec
use Rattle.publication_dates.proofs.dates.some_year.Given as goal

abbrev pub invariant-loop-part : goal.invariant-loop-part
invariant-loop-part l = spec.some_year (texts_of (drop l.part-index l.parts)) ≡ spec.some_year (texts_of l.parts)
