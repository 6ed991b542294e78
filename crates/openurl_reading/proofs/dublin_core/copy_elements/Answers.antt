use Rattle.std.proofs.Common.{ap, ◌∙◌}
use Rattle.openurl_reading.specs.DublinCore.{is_typed, core_type, core_source, core_parts, core_titles}
use Rattle.openurl_reading.specs.OldKeys.{copying}
use Rattle.openurl_reading.specs.Steps.{taken, after}
use Rattle.openurl_reading.proofs.dublin_core.copy_elements.Goals as goal

pub returns : goal.returns
returns c =
    c.in_ok-pairs-5.ensures
    ∙ ap (after core_titles) (c.in_ok-pairs-4.ensures ∙ ap (after core_parts) (c.in_ok-pairs-3.ensures ∙ ap (λ p. taken p core_source)
    (c.in_ok-pairs-2.ensures ∙ ap (λ p. taken p (copying is_typed core_type)) c.in_ok-pairs.ensures)))
