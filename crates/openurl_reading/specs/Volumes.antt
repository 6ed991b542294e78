-- The volume and the issue of a request.
use Rattle.std.specs.Prelude.{Bool, false, List, [], ◌∷◌, ◌++◌, codes, nat_le, length, Option, Some, None, if◌then◌else◌}
use Rattle.std.specs.Option.{option_and_then, option_or}
use Rattle.std.specs.Str.{bytes_eq}
use Rattle.text_model.specs.Texts.{Text}
use Rattle.kev_read.specs.Pairs.{KeyValue, all_of, first_of}
use Rattle.article_places.specs.Enumerations.{Numbers, numbers_in, short_supplement}
use Rattle.openurl_reading.specs.Steps.{Step}
use Rattle.openurl_reading.specs.Values.{most_bytes, in_ascii, led}

-- the numbers in a text; a longer one is not read, since a part of it might end within a number
abbrev pub numbers_of : Text → Option Numbers
numbers_of text = if nat_le (length text) most_bytes then numbers_in text else None

-- the numbers in a value
abbrev pub read_numbers : Text → Option Numbers
read_numbers value = numbers_of (in_ascii value)

-- an issue, a supplement, or both, as one text: `3`, `Suppl 1`, `3 Suppl 1`
abbrev pub issue_text : Option Text → Option Text → Option Text
issue_text None None = None
issue_text None (Some mark) = Some (short_supplement mark)
issue_text (Some issue) None = Some issue
issue_text (Some issue) (Some mark) = Some (issue ++ 0x20 ∷ short_supplement mark)

-- ---- in one value

-- the volume: the first number, or a supplement without one
abbrev pub volume_of : Numbers → Option Text
volume_of numbers = option_or numbers.first (issue_text None numbers.supplement)

abbrev pub volume_in : Text → Option Text
volume_in value = option_and_then volume_of (read_numbers value)

-- the issue after the first number, as in `12(3)` and `12 Suppl 1`
abbrev pub issue_after : Option Text → Option Text → Option Text
issue_after None issue = None
issue_after (Some first) issue = issue

abbrev pub issue_after_volume : Text → Option Text
issue_after_volume value =
    option_and_then (λ numbers. issue_after numbers.first (issue_text numbers.issue numbers.supplement)) (read_numbers value)

-- the first number, if an issue is after it
abbrev pub number_before : Option Text → Option Text → Option Text
number_before first None = None
number_before first (Some issue) = first

abbrev pub volume_before_issue : Text → Option Text
volume_before_issue value =
    option_and_then (λ numbers. number_before numbers.first (issue_text numbers.issue numbers.supplement)) (read_numbers value)

-- the number is that of the volume
abbrev pub is_volume : Option Text → Text → Bool
is_volume None number = false
is_volume (Some volume) number = bytes_eq volume number

-- the issue, by cases on the first number, the issue and the supplement, if the volume is known: a first number that is not
-- that of the volume is the issue of a supplement, as in `3 Suppl 1`, and before an issue it is not read, as in `13(3)`
abbrev pub issue_by : Option Text → Option Text → Option Text → Option Text → Option Text
issue_by volume None issue mark = issue_text None mark
issue_by volume (Some first) None None = Some first
issue_by volume (Some first) (Some issue) None = if is_volume volume first then Some issue else None
issue_by volume (Some first) None (Some mark) = issue_text (if is_volume volume first then None else Some first) (Some mark)
issue_by volume (Some first) (Some issue) (Some mark) =
    if is_volume volume first then issue_text (if bytes_eq first issue then None else Some issue) (Some mark) else None

abbrev pub issue_in : Option Text → Text → Option Text
issue_in volume value = option_and_then (λ numbers. issue_by volume numbers.first numbers.issue numbers.supplement) (read_numbers value)

-- ---- of a request

-- what is found elsewhere, for a key without a value
abbrev pub without_own : List Text → Option Text → Option Text
without_own [] found = found
without_own (value ∷ values) found = None

abbrev pub filling : Text → (List KeyValue → Option Text) → Step
filling key find = record { key = key; change = λ pairs. led (without_own (all_of pairs key) (find pairs)) (first_of pairs key) }

-- without a value of its own, the issue is that after the number of the volume
abbrev pub added_issue : List KeyValue → Option Text
added_issue pairs = without_own (all_of pairs (codes "rft.issue")) (option_and_then issue_after_volume (first_of pairs (codes "rft.volume")))

-- without a value of its own, the volume is the number before that of the issue
abbrev pub volume_among : List Text → Option Text → Option Text
volume_among [] found = found
volume_among (value ∷ values) found = volume_in value

abbrev pub volume : List KeyValue → Option Text
volume pairs =
    volume_among (all_of pairs (codes "rft.volume")) (option_and_then volume_before_issue (first_of pairs (codes "rft.issue")))

abbrev pub issue : List KeyValue → Option Text
issue pairs = option_and_then (issue_in (first_of pairs (codes "rft.volume"))) (first_of pairs (codes "rft.issue"))

abbrev pub added_issue_step : Step
added_issue_step = record { key = codes "rft.issue"; change = λ pairs. led (added_issue pairs) (first_of pairs (codes "rft.issue")) }

abbrev pub volume_step : Step
volume_step = record { key = codes "rft.volume"; change = λ pairs. led (volume pairs) (first_of pairs (codes "rft.volume")) }

abbrev pub issue_step : Step
issue_step = record { key = codes "rft.issue"; change = λ pairs. led (issue pairs) (first_of pairs (codes "rft.issue")) }

-- an issue is read under the key of the volume before the number of the volume takes its place
abbrev pub volume_steps : List Step
volume_steps = added_issue_step ∷ volume_step ∷ issue_step ∷ []
