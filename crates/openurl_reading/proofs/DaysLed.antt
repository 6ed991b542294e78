-- The days that are derived are those of a date in one value of the request.
use Rattle.std.proofs.Common.{◌≡◌, List, [], ◌∷◌, Bool, true, false, cond, not, Option, Some, None, refl, ap, sym, ◌∙◌, subst, arith}
use Rattle.std.specs.Prelude.{codes, slice_get, Contains}
use Rattle.std.specs.List.{All, list_all}
use Rattle.std.specs.Option.{option_and_then}
use Rattle.std.specs.Str.{bytes_eq}
use Rattle.text_model.specs.Texts.{Text}
use Rattle.kev_read.specs.Pairs.{KeyValue, all_of}
use Rattle.publication_dates.specs.Dates.{date_in}
use Rattle.publication_dates.specs.Days.{first_day, last_day}
use Rattle.openurl_reading.specs.Steps.{unchanged, leading, taken, after}
use Rattle.openurl_reading.specs.Values.{searched}
use Rattle.openurl_reading.specs.Numbers.{issn_step, eissn_step, isbn_step}
use Rattle.openurl_reading.specs.Dates.{date_keys, first_date, date_under, led_or_none, date_step}
use Rattle.openurl_reading.specs.Referrers.{referrer_step}
use Rattle.openurl_reading.specs.Origins.{HasOrigin, first_day_of, last_day_of}
use Rattle.openurl_reading.proofs.Additions.{AreDaysAll}
use Rattle.openurl_reading.proofs.DateLed.{IsReadAgain, date_of_first, found_again}
use Rattle.openurl_reading.proofs.FoundAgain.{AreFoundAgain}
use Rattle.openurl_reading.proofs.FoundAre.{IsAll, none_is, or_is}
use Rattle.openurl_reading.proofs.KeysSettle.{same_after}
use Rattle.openurl_reading.proofs.Sent.{IsUnread, AreKept}
use Rattle.openurl_reading.proofs.Stages.{after_dates, led_steps}
use Rattle.openurl_reading.proofs.Values.{all_of-taken-own, same_key, values_after}

-- the date that leads after the step is the one that was found
date_found : (found : Option Text) (values : List Text) → ((d : Text) → found ≡ Some d → IsReadAgain d)
    → date_of_first (values_after (led_or_none found (slice_get values 0)) values) ≡ found
date_found None values again = refl
date_found (Some d) values again = by_first (slice_get values 0) refl (again d refl)
  where
    by_first : (first : Option Text) → slice_get values 0 ≡ first → IsReadAgain d
        → date_of_first (values_after (led_or_none (Some d) first) values) ≡ Some d
    by_first None g h = h
    by_first (Some v) g h = by_test (bytes_eq v d) refl
      where
        by_test : (b : Bool) → bytes_eq v d ≡ b → date_of_first (values_after (cond b unchanged (leading (d ∷ []))) values) ≡ Some d
        by_test true t = ap (option_and_then (λ value. date_in (searched value))) g ∙ ap (λ value. date_in (searched value)) (same_key v d t) ∙ h
        by_test false t = h

-- of each date that one value of the request has
abbrev AreEach : (Text → Type 0) → List Text → Type 0
AreEach P sent = (value d : Text) → Contains sent value → date_in (searched value) ≡ Some d → P d

date_sent : (P : Text → Type 0) (sent : List Text) → AreEach P sent → (values : List Text) → All (Contains sent) values → IsAll P (date_of_first values)
date_sent P sent each [] all = none_is P
date_sent P sent each (v ∷ vs) all = λ d e. each v d (all 0 v (omega arith)) e

-- the date that the step finds
found_sent : (P : Text → Type 0) (sent : List Text) → AreEach P sent → (copied : List KeyValue) → AreKept sent copied
    → IsAll P (first_date date_keys (after (referrer_step ∷ issn_step ∷ eissn_step ∷ isbn_step ∷ []) copied))
found_sent P sent each copied is =
    let steps = referrer_step ∷ issn_step ∷ eissn_step ∷ isbn_step ∷ [] in
    let one : (key : Text) → IsUnread key → list_all (λ step. not (bytes_eq step.key key)) steps ≡ true
    → IsAll P (date_of_first (all_of (after steps copied) key)) =
    λ key other h. date_sent P sent each (all_of (after steps copied) key)
    (subst (All (Contains sent)) (sym (same_after steps copied key h)) (is key other)) in
    or_is P _ _ (one (codes "rft.date") (refl, refl) refl)
    (or_is P _ _ (one (codes "rft.year") (refl, refl) refl)
    (or_is P _ _ (one (codes "date") (refl, refl) refl) (or_is P _ _ (one (codes "year") (refl, refl) refl) (none_is P))))

-- the date of a reading
date_is_sent : AreFoundAgain → (P : Text → Type 0) (sent : List Text) → AreEach P sent → (copied : List KeyValue) → AreKept sent copied
    → IsAll P (date_under (after led_steps copied) (codes "rft.date"))
date_is_sent laws P sent each copied is date e =
    let before = after (referrer_step ∷ issn_step ∷ eissn_step ∷ isbn_step ∷ []) copied in
    let dated = taken before date_step in
    let same = same_after after_dates dated (codes "rft.date") refl in
    let led = all_of-taken-own date_step before in
    let found : date_of_first (all_of (after after_dates dated) (codes "rft.date")) ≡ first_date date_keys before =
    ap date_of_first (same ∙ led)
    ∙ date_found (first_date date_keys before) (all_of before (codes "rft.date")) (found_again (λ value d. laws.dates (searched value) d) before) in
    found_sent P sent each copied is date (sym found ∙ e)

pub days_have : AreFoundAgain → (sent : List Text) (copied : List KeyValue) → AreKept sent copied
    → AreDaysAll (HasOrigin sent) (after led_steps copied)
days_have laws sent copied is =
    date_is_sent laws (λ d. HasOrigin sent (first_day d) × HasOrigin sent (last_day d)) sent
    (λ value d contained e. (first_day_of value d contained e, last_day_of value d contained e)) copied is
