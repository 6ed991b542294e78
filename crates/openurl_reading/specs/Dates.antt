-- The date of a request: the first one that can be read leads; if none can, `rft.date` goes.
use Rattle.std.specs.Prelude.{List, [], ◌∷◌, codes, Option, Some, None}
use Rattle.std.specs.Option.{option_and_then, option_or}
use Rattle.text_model.specs.Texts.{Text}
use Rattle.kev_read.specs.Pairs.{KeyValue, first_of}
use Rattle.publication_dates.specs.Dates.{date_in}
use Rattle.openurl_reading.specs.Steps.{Change, Step, replacing}
use Rattle.openurl_reading.specs.Values.{searched, led}

-- the keys of dates, the key of OpenURL 1.0 first
abbrev pub date_keys : List Text
date_keys = codes "rft.date" ∷ codes "rft.year" ∷ codes "date" ∷ codes "year" ∷ []

-- the date in the first value of a key
abbrev pub date_under : List KeyValue → Text → Option Text
date_under pairs key = option_and_then (λ value. date_in (searched value)) (first_of pairs key)

abbrev pub first_date : List Text → List KeyValue → Option Text
first_date [] pairs = None
first_date (key ∷ keys) pairs = option_or (date_under pairs key) (first_date keys pairs)

abbrev pub led_or_none : Option Text → Option Text → Change
led_or_none None first = replacing []
led_or_none (Some date) first = led (Some date) first

abbrev pub date_step : Step
date_step =
    record { key = codes "rft.date"; change = λ pairs. led_or_none (first_date date_keys pairs) (first_of pairs (codes "rft.date")) }
