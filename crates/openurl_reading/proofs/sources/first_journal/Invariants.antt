use Rattle.std.proofs.Common.{◌≡◌, drop}
use Rattle.text_model.specs.Texts.{texts_of}
use Rattle.openurl_reading.specs.Sources.{journal_in}
use Rattle.openurl_reading.proofs.Identified.{first_found}
use Rattle.openurl_reading.proofs.sources.first_journal.Given as goal

abbrev pub invariant-loop-source : goal.invariant-loop-source
invariant-loop-source l =
    first_found journal_in (texts_of (drop l.source-index l.source-items)) ≡ first_found journal_in (texts_of l.source-items)
