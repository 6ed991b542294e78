use Rattle.std.proofs.Common.{ap, subst, ◌∙◌}
use Rattle.std.proofs.Math.Logic.{⊎_elim}
use Rattle.source_requests.specs.Requests.{IsTooLong, reading_of_source}
use Rattle.source_answers.specs.Printed.{reading_text}
use Rattle.answers.specs.Source.{IsReadingOf}
use Rattle.answers.proofs.RefusalLemmas.{is_err}
use Rattle.answers.proofs.source.reading_text_of.Goals as goal

pub returns-in_err-reading_text-in-Ok : goal.returns-in_err-reading_text-in-Ok
returns-in_err-reading_text-in-Ok c = rw (is_err _ _ c.from_residual.ensures.1) IsReadingOf.no_memory

pub returns-in_ok-reading_text-in-Ok : goal.returns-in_ok-reading_text-in-Ok
returns-in_ok-reading_text-in-Ok c =
    IsReadingOf.printed _
    (c.in_ok-reading_text-in-Ok.ensures ∙ ap reading_text (c.in-Ok.ensures.ok ∙ ap reading_of_source c.as_bytes.ensures.value))

pub returns-in-Err : goal.returns-in-Err
returns-in-Err c =
    rw c.refusal_of.ensures
    (⊎_elim (λ memory. rw memory IsReadingOf.no_memory)
    (λ long. rw long.0 (IsReadingOf.too_long (subst IsTooLong c.as_bytes.ensures.value long.1))) c.in-Err.ensures.err)
