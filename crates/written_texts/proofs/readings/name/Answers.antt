use Rattle.std.proofs.Common.{◌∙◌}
use Rattle.written_texts.specs.declared.readings.Role.TheVariants.{Other}
use Rattle.written_texts.proofs.Plain.{name_once, text_read}
use Rattle.written_texts.proofs.readings.name.Goals as goal

pub returns : goal.returns
returns c =
    text_read Other c.args.text.now _ _ (name_once c.args.text.now _ (c.deref.ensures.value ∙ c.in_ok-plain.ensures)) c.in_ok-name.ensures.ok
    (c.readings_are_utf8.ensures Other) c.utf8.text
