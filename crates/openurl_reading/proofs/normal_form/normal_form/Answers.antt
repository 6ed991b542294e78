use Rattle.std.proofs.Common.{◌≡◌, List, ap, sym, ◌∙◌}
use Rattle.std.specs.Prelude.{IfOk, Result, Ok, Err}
use Rattle.std.specs.Result.{IsErrAnd}
use Rattle.kev_read.specs.Pairs.{KeyValue}
use Rattle.openurl_reading.specs.Steps.{taken, after}
use Rattle.openurl_reading.specs.Versions.{versions}
use Rattle.openurl_reading.specs.Fields.{fields}
use Rattle.openurl_reading.specs.OldKeys.{copies}
use Rattle.openurl_reading.specs.DublinCore.{core_steps}
use Rattle.openurl_reading.specs.Formats.{format_step}
use Rattle.openurl_reading.specs.Citations.{citing_steps}
use Rattle.openurl_reading.specs.Texts.{text_steps}
use Rattle.openurl_reading.specs.Titles.{titlings}
use Rattle.openurl_reading.specs.Numbers.{issn_step, eissn_step, isbn_step}
use Rattle.openurl_reading.specs.Dates.{date_step}
use Rattle.openurl_reading.specs.Identifiers.{namings}
use Rattle.openurl_reading.specs.Pages.{page_steps}
use Rattle.openurl_reading.specs.Volumes.{volume_steps}
use Rattle.openurl_reading.specs.Reading.{normal_form}
use Rattle.openurl_reading.proofs.Stages.{kind_steps, led_steps, with_fields, normal_form-led}
use Rattle.openurl_reading.proofs.normal_form.normal_form.Goals as goal

in_order : (pairs corrected fielded copied kinds cited texts after_all : List KeyValue)
    → corrected ≡ after versions pairs → fielded ≡ after fields corrected
    → copied ≡ after copies fielded → kinds ≡ after kind_steps copied
    → cited ≡ after citing_steps kinds → texts ≡ after text_steps cited
    → after_all ≡ after led_steps texts → after_all ≡ normal_form pairs
in_order pairs corrected fielded copied kinds cited texts after_all a c d e g t f =
    let first : fielded ≡ with_fields pairs = c ∙ ap (after fields) a in
    f
    ∙ ap (after led_steps) (t ∙ ap (after text_steps) (g ∙ ap (after citing_steps) (e ∙ ap (after kind_steps) (d ∙ ap (after copies) first))))
    ∙ sym (normal_form-led pairs)

pub returns : goal.returns
returns c =
    let kinds = c.in_ok-pairs-7.ensures
    ∙ ap (λ p. taken p format_step) (c.in_ok-pairs-6.ensures
    ∙ ap (after titlings) (c.in_ok-pairs-5.ensures ∙ ap (after core_steps) c.in_ok-pairs-4.ensures)) in
    let last = c.in_ok-pairs-17.ensures
    ∙ ap (after namings) (c.in_ok-pairs-16.ensures
    ∙ ap (after page_steps) (c.in_ok-pairs-15.ensures
    ∙ ap (after volume_steps) (c.in_ok-pairs-14.ensures
    ∙ ap (λ p. taken p date_step) (c.in_ok-pairs-13.ensures
    ∙ ap (λ p. taken p isbn_step) (c.in_ok-pairs-12.ensures
    ∙ ap (λ p. taken p eissn_step) (c.in_ok-pairs-11.ensures ∙ ap (λ p. taken p issn_step) c.in_ok-pairs-10.ensures)))))) in
    in_order c.args.pairs c.in_ok-pairs.pairs c.in_ok-pairs-2.pairs c.in_ok-pairs-3.pairs c.in_ok-pairs-7.pairs c.in_ok-pairs-8.pairs c.in_ok-pairs-9.pairs
    c.in_ok-pairs-17.pairs c.in_ok-pairs.ensures c.in_ok-pairs-2.ensures c.in_ok-pairs-3.ensures kinds
    c.in_ok-pairs-8.ensures c.in_ok-pairs-9.ensures last

is_err : {T : Type 0} {E : Type 0} (result : Result T E) (made : E) (P : T → Type 0) → IsErrAnd result (λ e. e ≡ made) → IfOk result P
is_err (Err e) made P h = tt
is_err (Ok x) made P h = absurd h

pub returns-in_err-pairs-5 : goal.returns-in_err-pairs-5
returns-in_err-pairs-5 c = is_err _ _ _ c.from_residual-in_err-pairs-5.ensures.1

pub returns-in_err-pairs-6 : goal.returns-in_err-pairs-6
returns-in_err-pairs-6 c = is_err _ _ _ c.from_residual-in_err-pairs-6.ensures.1

pub returns-in_err-pairs-7 : goal.returns-in_err-pairs-7
returns-in_err-pairs-7 c = is_err _ _ _ c.from_residual-in_err-pairs-7.ensures.1
