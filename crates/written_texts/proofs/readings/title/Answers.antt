use Rattle.std.proofs.Common.{ap, ◌∙◌}
use Rattle.retraction_remarks.specs.Titles.{without_remarks}
use Rattle.written_texts.specs.declared.readings.Role.TheVariants.{Title}
use Rattle.written_texts.proofs.Plain.{title_once, text_read}
use Rattle.written_texts.proofs.readings.title.Goals as goal

pub returns : goal.returns
returns c =
    text_read Title c.args.text.now _ _
    (c.without_remarks.ensures ∙ title_once c.args.text.now _ (c.deref.ensures.value ∙ c.in_ok-plain.ensures)) c.in_ok-title.ensures.ok
    (c.readings_are_utf8.ensures Title) c.utf8.text
