-- The steps in seven parts: versions and encoding, the fields of a form, old keys, those that ask for the kind of the request, a reference in a
-- title, texts, and the others.
use Rattle.std.proofs.Common.{◌≡◌, List, [], ◌∷◌, ◌++◌, ◌∙◌}
use Rattle.std.proofs.lemmas.List.Sums.{fold-append}
use Rattle.kev_read.specs.Pairs.{KeyValue}
use Rattle.openurl_reading.specs.Steps.{Step, taken, after}
use Rattle.openurl_reading.specs.Versions.{versions}
use Rattle.openurl_reading.specs.Fields.{fields}
use Rattle.openurl_reading.specs.OldKeys.{copies}
use Rattle.openurl_reading.specs.IdentifiedNumbers.{identified_steps}
use Rattle.openurl_reading.specs.DublinCore.{core_steps}
use Rattle.openurl_reading.specs.Titles.{titlings}
use Rattle.openurl_reading.specs.Formats.{format_step}
use Rattle.openurl_reading.specs.Citations.{citing_steps}
use Rattle.openurl_reading.specs.Texts.{text_steps}
use Rattle.openurl_reading.specs.Referrers.{referrer_step}
use Rattle.openurl_reading.specs.Numbers.{issn_step, eissn_step, isbn_step}
use Rattle.openurl_reading.specs.Dates.{date_step}
use Rattle.openurl_reading.specs.Identifiers.{namings}
use Rattle.openurl_reading.specs.Pages.{page_steps}
use Rattle.openurl_reading.specs.Volumes.{volume_steps}
use Rattle.openurl_reading.specs.Reading.{steps, normal_form}

-- those after volume and issue, and those after the date
abbrev pub after_volumes : List Step
after_volumes = page_steps ++ namings

abbrev pub after_dates : List Step
after_dates = volume_steps ++ after_volumes

-- those after the texts
abbrev pub led_steps : List Step
led_steps = referrer_step ∷ issn_step ∷ eissn_step ∷ isbn_step ∷ date_step ∷ after_dates

abbrev pub last_steps : List Step
last_steps = citing_steps ++ text_steps ++ led_steps

-- those that ask for the kind or the format
abbrev pub titled_steps : List Step
titled_steps = core_steps ++ titlings ++ format_step ∷ []

-- with those before them, which may say what the kind is
abbrev pub kind_steps : List Step
kind_steps = identified_steps ++ titled_steps

abbrev pub with_versions : List KeyValue → List KeyValue
with_versions pairs = after versions pairs

abbrev pub with_fields : List KeyValue → List KeyValue
with_fields pairs = after fields (with_versions pairs)

pub normal_form-is : (pairs : List KeyValue) → normal_form pairs ≡ after last_steps (after kind_steps (after copies (with_fields pairs)))
unfolding steps
normal_form-is pairs = fold-append taken (with_fields pairs) copies (kind_steps ++ last_steps)

pub last-is : (pairs : List KeyValue) → after last_steps pairs ≡ after led_steps (after text_steps (after citing_steps pairs))
last-is pairs = fold-append taken pairs citing_steps (text_steps ++ led_steps) ∙ fold-append taken (after citing_steps pairs) text_steps led_steps

pub normal_form-led : (pairs : List KeyValue)
    → normal_form pairs ≡ after led_steps (after text_steps (after citing_steps (after kind_steps (after copies (with_fields pairs)))))
normal_form-led pairs = normal_form-is pairs ∙ last-is (after kind_steps (after copies (with_fields pairs)))
