-- The steps of volume and issue, on the values of their two keys: they change nothing more after they have been taken.
use Rattle.std.proofs.Common.{◌≡◌, List, [], ◌∷◌, ◌++◌, Bool, true, false, cond, Option, Some, None, refl, ap, ◌∙◌}
use Rattle.std.specs.Prelude.{slice_get}
use Rattle.std.specs.List.{All}
use Rattle.std.specs.Str.{bytes_eq}
use Rattle.std.proofs.lemmas.List.Elements.{All-head}
use Rattle.text_model.specs.Texts.{Text}
use Rattle.openurl_reading.specs.Steps.{unchanged, leading}
use Rattle.openurl_reading.specs.Values.{led}
use Rattle.openurl_reading.specs.Volumes.{volume_in, issue_after_volume, volume_before_issue, issue_in, without_own, volume_among}
use Rattle.openurl_reading.specs.Canonical.{IsDesignation, is_number}
use Rattle.openurl_reading.proofs.Firsts.{of_first}
use Rattle.openurl_reading.proofs.Led.{led_again, led_settles, led-keeps}
use Rattle.openurl_reading.proofs.Settled.{AreVolumesSettled}
use Rattle.openurl_reading.proofs.Values.{values_after}
use Rattle.openurl_reading.proofs.VolumesFound.{AreNumbersAgain, IsSame, volume_found, before_found, none_after, none_before, none_before_found}
use Rattle.openurl_reading.proofs.VolumesFound.{volume_again, issue_same, issue_again}

-- the values after the first, the second and the third step
abbrev pub with_added : List Text → List Text → List Text
with_added issues volumes = values_after (led (without_own issues (of_first issue_after_volume volumes)) (slice_get issues 0)) issues

abbrev pub with_volume : List Text → List Text → List Text
with_volume issues volumes = values_after (led (volume_among volumes (of_first volume_before_issue issues)) (slice_get volumes 0)) volumes

abbrev pub with_issue : List Text → List Text → List Text
with_issue issues volumes = values_after (led (of_first (issue_in (slice_get volumes 0)) issues) (slice_get issues 0)) issues

-- ---- the issue

issue_settles : AreNumbersAgain → (issues volumes : List Text)
    → led (of_first (issue_in (slice_get volumes 0)) (with_issue issues volumes)) (slice_get (with_issue issues volumes) 0) ≡ unchanged
issue_settles laws issues volumes =
    let volume = slice_get volumes 0 in led_settles (of_first (issue_in volume)) issues (again volume issues)
  where
    again : (volume : Option Text) (values : List Text) (n : Text) → of_first (issue_in volume) values ≡ Some n → IsSame n (issue_in volume n)
    again volume [] n e = cc
    again volume (w ∷ ws) n e = issue_again laws volume w n e

-- ---- the volume

-- without a number before the issue there is none after the issue leads
still_none : AreNumbersAgain → (volume : Option Text) (issues : List Text) → of_first volume_before_issue issues ≡ None
    → of_first volume_before_issue (values_after (led (of_first (issue_in volume) issues) (slice_get issues 0)) issues) ≡ None
still_none laws volume [] h = refl
still_none laws volume (w ∷ ws) h = by_found (issue_in volume w) refl
  where
    by_found : (found : Option Text) → issue_in volume w ≡ found
        → of_first volume_before_issue (values_after (led found (Some w)) (w ∷ ws)) ≡ None
    by_found None e = h
    by_found (Some n) e = by_test (bytes_eq w n)
      where
        by_test : (b : Bool) → of_first volume_before_issue (values_after (cond b unchanged (leading (n ∷ []))) (w ∷ ws)) ≡ None
        by_test true = h
        by_test false = none_before_found laws volume w n h e

among_settles : AreNumbersAgain → (values : List Text) (found now : Option Text) → ((n : Text) → found ≡ Some n → IsSame n (volume_in n))
    → (found ≡ None → now ≡ None)
    → led (volume_among (values_after (led (volume_among values found) (slice_get values 0)) values) now)
    (slice_get (values_after (led (volume_among values found) (slice_get values 0)) values) 0) ≡ unchanged
among_settles laws [] None now again none = ap (λ l. led l None) (none refl)
among_settles laws [] (Some n) now again none = led_again (volume_in n) n (again n refl)
among_settles laws (v ∷ vs) found now again none =
    led_settles (λ values. volume_among values now) (v ∷ vs) (λ n e. volume_again n (volume_found laws v n e))

before_again : AreNumbersAgain → (issues : List Text) (n : Text) → of_first volume_before_issue issues ≡ Some n → IsSame n (volume_in n)
before_again laws [] n e = cc
before_again laws (w ∷ ws) n e = volume_again n (is_number n (before_found laws w n e))

-- ---- an issue that is added

some_without : (front values : List Text) (found : Option Text) (v : Text) → without_own (front ++ v ∷ values) found ≡ None
some_without [] values found v = refl
some_without (w ∷ ws) values found v = refl

-- values that are there stay, so nothing is added
own_settles : (found first : Option Text) (v : Text) (vs : List Text) (other : Option Text)
    → led (without_own (values_after (led found first) (v ∷ vs)) other) (slice_get (values_after (led found first) (v ∷ vs)) 0) ≡ unchanged
own_settles found first v vs other =
    let front = (led found first).values in
    ap (λ b. led (without_own (front ++ cond b (v ∷ vs) []) other) (slice_get (front ++ cond b (v ∷ vs) []) 0)) (led-keeps found first)
    ∙ ap (λ o. led o (slice_get (front ++ v ∷ vs) 0)) (some_without front vs other v)

-- without an issue under the key of the volume there is none after the volume leads
none_added : AreNumbersAgain → (volumes : List Text) → of_first issue_after_volume volumes ≡ None
    → of_first issue_after_volume (with_volume [] volumes) ≡ None
none_added laws [] h = refl
none_added laws (v ∷ vs) h = by_found (volume_in v) refl
  where
    by_found : (found : Option Text) → volume_in v ≡ found → of_first issue_after_volume (values_after (led found (Some v)) (v ∷ vs)) ≡ None
    by_found None e = h
    by_found (Some n) e = by_test (bytes_eq v n)
      where
        by_test : (b : Bool) → of_first issue_after_volume (values_after (cond b unchanged (leading (n ∷ []))) (v ∷ vs)) ≡ None
        by_test true = h
        by_test false = none_after n (volume_found laws v n e)

abbrev AddsNone : List Text → List Text → Type 0
AddsNone issues volumes = led (without_own issues (of_first issue_after_volume volumes)) (slice_get issues 0) ≡ unchanged

added_settles : AreNumbersAgain → (issues volumes : List Text)
    → let added = with_added issues volumes in let known = with_volume added volumes in AddsNone (with_issue added known) known
added_settles laws (w ∷ ws) volumes =
    let known = with_volume (w ∷ ws) volumes in
    own_settles (issue_in (slice_get known 0) w) (Some w) w ws (of_first issue_after_volume known)
added_settles laws [] volumes = by_found (of_first issue_after_volume volumes) refl
  where
    by_found : (found : Option Text) → of_first issue_after_volume volumes ≡ found
        → let added = values_after (led found None) [] in let known = with_volume added volumes in AddsNone (with_issue added known) known
    by_found None e = ap (λ o. led o None) (none_added laws volumes e)
    by_found (Some n) e =
        let known = with_volume (n ∷ []) volumes in
        own_settles (issue_in (slice_get known 0) n) (Some n) n [] (of_first issue_after_volume known)

-- ---- all

pub volumes_settle : AreNumbersAgain → (issues volumes : List Text)
    → let added = with_added issues volumes in let known = with_volume added volumes in AreVolumesSettled (with_issue added known) known
volumes_settle laws issues volumes =
    let added = with_added issues volumes in
    let known = with_volume added volumes in
    record {
      added = added_settles laws issues volumes;
      volume = among_settles laws volumes (of_first volume_before_issue added) (of_first volume_before_issue (with_issue added known))
          (before_again laws added) (still_none laws (slice_get known 0) added);
      issue = issue_settles laws added known;
    }

-- those of a request that is OpenURL 1.0
pub designations_settle : (issues volumes : List Text) → All IsDesignation issues → All IsDesignation volumes → AreVolumesSettled issues volumes
designations_settle issues volumes is vs = record {
  added = no_added issues volumes vs;
  volume = own_volume issues volumes is vs;
  issue = own_issue (slice_get volumes 0) issues is;
}
  where
    no_added : (issues volumes : List Text) → All IsDesignation volumes → AddsNone issues volumes
    no_added (w ∷ ws) volumes vs = refl
    no_added [] [] vs = refl
    no_added [] (v ∷ rest) vs = ap (λ o. led o None) (none_after v (All-head IsDesignation v rest vs))

    own_volume : (issues volumes : List Text) → All IsDesignation issues → All IsDesignation volumes
        → led (volume_among volumes (of_first volume_before_issue issues)) (slice_get volumes 0) ≡ unchanged
    own_volume issues (v ∷ rest) is vs = led_again (volume_in v) v (volume_again v (All-head IsDesignation v rest vs))
    own_volume [] [] is vs = refl
    own_volume (w ∷ ws) [] is vs = ap (λ o. led o None) (none_before w (All-head IsDesignation w ws is))

    own_issue : (volume : Option Text) (issues : List Text) → All IsDesignation issues
        → led (of_first (issue_in volume) issues) (slice_get issues 0) ≡ unchanged
    own_issue volume [] is = refl
    own_issue volume (w ∷ ws) is = led_again (issue_in volume w) w (issue_same volume w (All-head IsDesignation w ws is))
