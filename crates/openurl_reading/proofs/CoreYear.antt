-- The year of a reference in a source is put once: afterwards the request has a date.
use Rattle.std.proofs.Common.{◌≡◌, List, [], ◌∷◌, ◌++◌, Bool, true, false, cond, not, Option, Some, None, refl, sym, ap, ◌∙◌, subst, get_or}
use Rattle.std.specs.Prelude.{codes, slice_get}
use Rattle.std.specs.List.{All, list_all}
use Rattle.std.specs.Option.{option_and_then, option_or, is_some}
use Rattle.std.specs.Str.{bytes_eq}
use Rattle.std.proofs.lemmas.Bool.{and_parts, not-true}
use Rattle.std.proofs.lemmas.List.Elements.{All-append, All-cons, All-head, All-tail}
use Rattle.std.proofs.lemmas.List.Sums.{AllPass-from_list_all}
use Rattle.std.proofs.lemmas.Option.{same_Some}
use Rattle.text_model.specs.Texts.{Text}
use Rattle.kev_read.specs.Pairs.{KeyValue, all_of, first_of}
use Rattle.publication_dates.specs.Dates.{date_in}
use Rattle.openurl_reading.specs.Citations.{cited, without_date, citing_year, citing_name}
use Rattle.openurl_reading.specs.Dates.{date_keys, first_date, led_or_none, date_step}
use Rattle.openurl_reading.specs.DublinCore.{core_part, dated, core_year, year_step, core_titles}
use Rattle.openurl_reading.specs.Formats.{format_step}
use Rattle.openurl_reading.specs.Numbers.{issn_step, eissn_step, isbn_step}
use Rattle.openurl_reading.specs.Referrers.{referrer_step}
use Rattle.openurl_reading.specs.Steps.{Change, Step, unchanged, leading, taken, after}
use Rattle.openurl_reading.specs.Texts.{text_steps}
use Rattle.openurl_reading.specs.Titles.{titlings}
use Rattle.openurl_reading.specs.Values.{searched, led}
use Rattle.openurl_reading.proofs.CitingKeeps.{of_volume, of_issue, of_pages}
use Rattle.openurl_reading.proofs.CoreParts.{year-none}
use Rattle.openurl_reading.proofs.DateLed.{date_among, rest_of, IsReadAgain, found_again}
use Rattle.openurl_reading.proofs.FoundAgain.{AreFoundAgain}
use Rattle.openurl_reading.proofs.Settled.{stays-unchanged}
use Rattle.openurl_reading.proofs.Stages.{after_dates, last_steps}
use Rattle.openurl_reading.proofs.Values.{same_key, values_after, all_of-taken, all_of-taken-own}

abbrev pub HasDate : List KeyValue → Type 0
HasDate pairs = is_some (first_date date_keys pairs) ≡ true

-- a step leaves a date if there is one
abbrev pub KeepsDate : Step → Type 0
KeepsDate step = (pairs : List KeyValue) → HasDate pairs → HasDate (taken pairs step)

all_keep : (steps : List Step) → All KeepsDate steps → (pairs : List KeyValue) → HasDate pairs → HasDate (after steps pairs)
all_keep [] all pairs has = has
all_keep (step ∷ steps) all pairs has =
    all_keep steps (All-tail KeepsDate step steps all) (taken pairs step) (All-head KeepsDate step steps all pairs has)

-- ---- steps of other keys

same_dates : (a a' b b' c c' d d' : List Text) → a ≡ a' → b ≡ b' → c ≡ c' → d ≡ d'
    → is_some (date_among (rest_of b c d) a) ≡ is_some (date_among (rest_of b' c' d') a')
same_dates a a' b b' c c' d d' e f g h = rw (e, f, g, h) refl

abbrev is_of_no_date : Step → Bool
is_of_no_date step = list_all (λ key. not (bytes_eq step.key key)) date_keys

other_keeps : (step : Step) → is_of_no_date step ≡ true → KeepsDate step
other_keeps step h pairs has =
    let one = and_parts _ _ h in
    let two = and_parts _ _ one.1 in
    let three = and_parts _ _ two.1 in
    let four = and_parts _ _ three.1 in
    same_dates _ _ _ _ _ _ _ _ (all_of-taken step pairs (codes "rft.date") (not-true _ one.0)) (all_of-taken step pairs (codes "rft.year") (not-true _ two.0))
    (all_of-taken step pairs (codes "date") (not-true _ three.0)) (all_of-taken step pairs (codes "year") (not-true _ four.0))
    ∙ has

others_keep : (steps : List Step) → list_all is_of_no_date steps ≡ true → All KeepsDate steps
others_keep steps h k d g = other_keeps (get_or steps k d) (AllPass-from_list_all is_of_no_date steps h k d g)

-- ---- the steps of dates

citing_year_keeps : KeepsDate citing_year
citing_year_keeps pairs has = by_found (first_date date_keys pairs) refl has
  where
    by_found : (found : Option Text) → first_date date_keys pairs ≡ found → is_some found ≡ true → HasDate (taken pairs citing_year)
    by_found None e h = cc
    by_found (Some d) e h =
        subst HasDate (sym (stays-unchanged citing_year pairs
        (ap (λ date. led (without_date date (cited (λ found. found.year) pairs)) (first_of pairs (codes "rft.date"))) e))) has

-- a date that leads is one
leads : (rest : Option Text) (values : List Text) (d : Text) → is_some (date_in (searched d)) ≡ true → is_some (date_among rest (d ∷ values)) ≡ true
leads rest values d h = by_date (date_in (searched d)) h
  where
    by_date : (found : Option Text) → is_some found ≡ true → is_some (option_or found rest) ≡ true
    by_date None g = cc
    by_date (Some t) g = refl

led_has : (rest : Option Text) (values : List Text) (d : Text) → is_some (date_in (searched d)) ≡ true
    → is_some (date_among rest (values_after (led (Some d) (slice_get values 0)) values)) ≡ true
led_has rest [] d h = leads rest [] d h
led_has rest (v ∷ vs) d h = by_test (bytes_eq v d) refl
  where
    by_test : (b : Bool) → bytes_eq v d ≡ b
        → is_some (date_among rest (values_after (cond b unchanged (leading (d ∷ []))) (v ∷ vs))) ≡ true
    by_test true e = leads rest vs v (subst (λ t. is_some (date_in (searched t)) ≡ true) (sym (same_key v d e)) h)
    by_test false e = leads rest (v ∷ vs) d h

abbrev rest_among : List KeyValue → Option Text
rest_among pairs = rest_of (all_of pairs (codes "rft.year")) (all_of pairs (codes "date")) (all_of pairs (codes "year"))

same_rest : (a b b' c c' d d' : List Text) → b ≡ b' → c ≡ c' → d ≡ d' → is_some (date_among (rest_of b c d) a) ≡ is_some (date_among (rest_of b' c' d') a)
same_rest a b b' c c' d d' e f g = rw (e, f, g) refl

-- after a step of `rft.date` by which a date leads
dates_after : (change : List KeyValue → Change) (pairs : List KeyValue) (found : Text) → let step : Step = record { key = codes "rft.date"; change = change } in
    change pairs ≡ led (Some found) (first_of pairs (codes "rft.date")) → is_some (date_in (searched found)) ≡ true
    → HasDate (taken pairs step)
dates_after change pairs found e h =
    let step : Step = record { key = codes "rft.date"; change = change } in
    let values = all_of pairs (codes "rft.date") in
    let own : all_of (taken pairs step) (codes "rft.date") ≡ values_after (led (Some found) (slice_get values 0)) values =
    all_of-taken-own step pairs ∙ ap (λ c. values_after c values) e in
    same_rest _ _ _ _ _ _ _ (all_of-taken step pairs (codes "rft.year") refl) (all_of-taken step pairs (codes "date") refl)
    (all_of-taken step pairs (codes "year") refl)
    ∙ ap (λ vs. is_some (date_among (rest_among pairs) vs)) own
    ∙ led_has (rest_among pairs) values found h

date_step_keeps : AreFoundAgain → KeepsDate date_step
date_step_keeps laws pairs has = by_found (first_date date_keys pairs) refl has
  where
    again : (d : Text) → first_date date_keys pairs ≡ Some d → IsReadAgain d
    again = found_again (λ value d h. laws.dates (searched value) d h) pairs

    by_found : (found : Option Text) → first_date date_keys pairs ≡ found → is_some found ≡ true → HasDate (taken pairs date_step)
    by_found None e h = cc
    by_found (Some d) e h =
        dates_after date_step.change pairs d (ap (λ o. led_or_none o (first_of pairs (codes "rft.date"))) e) (ap is_some (again d e))

-- those after the steps of references in sources
abbrev pub after_parts : List Step
after_parts = core_titles ++ titlings ++ format_step ∷ last_steps

parts_keep_dates : AreFoundAgain → All KeepsDate after_parts
parts_keep_dates laws =
    let first : List Step = core_titles ++ titlings ++ format_step ∷ of_volume ∷ of_issue ∷ of_pages ∷ [] in
    let second : List Step = citing_name ∷ text_steps ++ referrer_step ∷ issn_step ∷ eissn_step ∷ isbn_step ∷ [] in
    All-append KeepsDate first (citing_year ∷ second ++ date_step ∷ after_dates) (others_keep first refl)
    (All-cons KeepsDate citing_year (second ++ date_step ∷ after_dates) citing_year_keeps
    (All-append KeepsDate second (date_step ∷ after_dates) (others_keep second refl)
    (All-cons KeepsDate date_step after_dates (date_step_keeps laws) (others_keep after_dates refl))))

-- ---- the year

-- a year that is found is a date
dated-date : (o : Option Text) (y : Text) → option_and_then dated o ≡ Some y → is_some (date_in (searched y)) ≡ true
dated-date None y e = cc
dated-date (Some t) y e = by_test (is_some (date_in (searched t))) refl e
  where
    by_test : (b : Bool) → is_some (date_in (searched t)) ≡ b → cond b (Some t) None ≡ Some y → is_some (date_in (searched y)) ≡ true
    by_test true h g = subst (λ u. is_some (date_in (searched u)) ≡ true) (same_Some t y g) h
    by_test false h g = cc

-- if a year is found, the request has a date afterwards
year_dates : (before : List KeyValue) (y : Text) → core_year before ≡ Some y → HasDate (taken before year_step)
year_dates before y e = by_found (first_date date_keys before) refl
  where
    by_found : (found : Option Text) → first_date date_keys before ≡ found → HasDate (taken before year_step)
    by_found None g =
        dates_after year_step.change before y
        (ap (λ date. led (without_date date (core_year before)) (first_of before (codes "rft.date"))) g
        ∙ ap (λ o. led o (first_of before (codes "rft.date"))) e)
        (dated-date (core_part (λ found. found.year) before) y e)
    by_found (Some d) g =
        subst HasDate (sym (stays-unchanged year_step before
        (ap (λ date. led (without_date date (core_year before)) (first_of before (codes "rft.date"))) g))) (ap is_some g)

pub year_settles : AreFoundAgain → (before now : List KeyValue) → now ≡ after after_parts (taken before year_step)
    → (core_year before ≡ None → core_year now ≡ None) → year_step.change now ≡ unchanged
year_settles laws before now is none = by_found (core_year before) refl
  where
    dated_now : (date : Option Text) → first_date date_keys now ≡ date → is_some date ≡ true → year_step.change now ≡ unchanged
    dated_now None e h = cc
    dated_now (Some d) e h = ap (λ date. led (without_date date (core_year now)) (first_of now (codes "rft.date"))) e

    by_found : (found : Option Text) → core_year before ≡ found → year_step.change now ≡ unchanged
    by_found None e = year-none now (none e)
    by_found (Some y) e =
        dated_now (first_date date_keys now) refl
        (subst HasDate (sym is) (all_keep after_parts (parts_keep_dates laws) (taken before year_step) (year_dates before y e)))
