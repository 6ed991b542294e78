-- The date that leads is read again.
use Rattle.std.proofs.Common.{◌≡◌, List, [], ◌∷◌, Bool, true, false, cond, Option, Some, None, refl, ap, ◌∙◌, inl, inr}
use Rattle.std.specs.Prelude.{codes, slice_get}
use Rattle.std.specs.Option.{option_and_then, option_or}
use Rattle.std.specs.Str.{bytes_eq}
use Rattle.text_model.specs.Texts.{Text}
use Rattle.kev_read.specs.Pairs.{KeyValue, all_of}
use Rattle.publication_dates.specs.Dates.{date_in}
use Rattle.openurl_reading.specs.Steps.{unchanged, leading}
use Rattle.openurl_reading.specs.Values.{searched, led}
use Rattle.openurl_reading.specs.Dates.{date_keys, first_date, led_or_none}
use Rattle.openurl_reading.proofs.Settled.{IsDateSettled, led-same}
use Rattle.openurl_reading.proofs.Values.{values_after}

abbrev pub date_of_first : List Text → Option Text
date_of_first values = option_and_then (λ value. date_in (searched value)) (slice_get values 0)

-- the first date of values of `rft.date`, if the date of the other keys is known
abbrev pub date_among : Option Text → List Text → Option Text
date_among rest values = option_or (date_of_first values) rest

abbrev pub rest_of : List Text → List Text → List Text → Option Text
rest_of years dates old_years =
    option_or (date_of_first years) (option_or (date_of_first dates) (option_or (date_of_first old_years) None))

-- a date is read as it is
abbrev pub IsReadAgain : Text → Type 0
IsReadAgain date = date_in (searched date) ≡ Some date

abbrev pub IsSettledAmong : Option Text → List Text → Type 0
IsSettledAmong rest values = IsDateSettled (led_or_none (date_among rest values) (slice_get values 0)) values

rest_none : (a b : Option Text) → option_or a b ≡ None → b ≡ None
rest_none None b h = h
rest_none (Some t) b h = cc

date_leads : (rest : Option Text) (values : List Text) (d : Text) → IsReadAgain d → IsSettledAmong rest (d ∷ values)
date_leads rest values d h = inl (ap (λ o. led_or_none (option_or o rest) (Some d)) h ∙ led-same (Some d))

pub date_settles : (rest : Option Text) (values : List Text) → ((d : Text) → date_among rest values ≡ Some d → IsReadAgain d)
    → IsSettledAmong rest (values_after (led_or_none (date_among rest values) (slice_get values 0)) values)
date_settles rest values again = by_found (date_among rest values) (slice_get values 0) refl refl again
  where
    by_found : (found first : Option Text) → date_among rest values ≡ found → slice_get values 0 ≡ first
        → ((d : Text) → found ≡ Some d → IsReadAgain d) → IsSettledAmong rest (values_after (led_or_none found first) values)
    by_found None first e g h = inr (ap (λ o. led_or_none o None) (rest_none (date_of_first values) rest e), refl)
    by_found (Some d) None e g h = date_leads rest values d (h d refl)
    by_found (Some d) (Some v) e g h = by_test (bytes_eq v d) refl
      where
        by_test : (b : Bool) → bytes_eq v d ≡ b → IsSettledAmong rest (values_after (cond b unchanged (leading (d ∷ []))) values)
        by_test true t =
            inl (ap (λ o. led_or_none o (slice_get values 0)) e ∙ ap (λ m. led (Some d) m) g ∙ ap (λ b. cond b unchanged (leading (d ∷ []))) t)
        by_test false t = date_leads rest values d (h d refl)

-- ---- every date that is found is read again, if each that one value gives is

abbrev AreReadAgain : Option Text → Type 0
AreReadAgain found = (d : Text) → found ≡ Some d → IsReadAgain d

none_again : AreReadAgain None
none_again d h = cc

or_again : (a b : Option Text) → AreReadAgain a → AreReadAgain b → AreReadAgain (option_or a b)
or_again None b p q = q
or_again (Some t) b p q = p

first_again : ((value d : Text) → date_in (searched value) ≡ Some d → IsReadAgain d) → (values : List Text) → AreReadAgain (date_of_first values)
first_again each [] = none_again
first_again each (v ∷ vs) = each v

pub found_again : ((value d : Text) → date_in (searched value) ≡ Some d → IsReadAgain d) → (pairs : List KeyValue)
    → AreReadAgain (first_date date_keys pairs)
found_again each pairs =
    let again : (key : Text) → AreReadAgain (date_of_first (all_of pairs key)) = λ key. first_again each (all_of pairs key) in
    or_again _ _ (again (codes "rft.date"))
    (or_again _ _ (again (codes "rft.year")) (or_again _ _ (again (codes "date")) (or_again _ _ (again (codes "year")) none_again)))
