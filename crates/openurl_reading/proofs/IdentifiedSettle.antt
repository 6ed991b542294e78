-- The ISSN and the ISBN among identifiers lead their keys once.
use Rattle.std.proofs.Common.{◌≡◌, ℕ, zero, suc, List, [], ◌∷◌, ◌++◌, take, true, cond, ◌⊎◌, inl, inr}
use Rattle.std.proofs.Common.{Option, None, refl, sym, ap, ◌∙◌, subst}
use Rattle.std.specs.Prelude.{codes, slice_get}
use Rattle.std.specs.List.{All}
use Rattle.std.proofs.lemmas.List.Concat.{flat_map-append}
use Rattle.std.proofs.lemmas.List.Elements.{All-cons}
use Rattle.text_model.specs.Texts.{Text}
use Rattle.kev_read.specs.Pairs.{KeyValue, all_of, first_of}
use Rattle.standard_numbers.specs.Issn.{issns_in}
use Rattle.standard_numbers.specs.Isbn.{isbns_in}
use Rattle.work_identifiers.specs.declared.numbers.StandardNumber.TheVariants.{Issn, Isbn}
use Rattle.openurl_reading.specs.Citations.{citing_steps}
use Rattle.openurl_reading.specs.Dates.{date_step}
use Rattle.openurl_reading.specs.DublinCore.{core_steps}
use Rattle.openurl_reading.specs.IdentifiedNumbers.{identified, led_alone, identified_step, identified_steps}
use Rattle.openurl_reading.specs.Numbers.{numbers_in, first_number, issn_step, eissn_step, isbn_step}
use Rattle.openurl_reading.specs.Referrers.{referrer_step}
use Rattle.openurl_reading.specs.Steps.{Change, Step, unchanged, taken, after}
use Rattle.openurl_reading.specs.Texts.{text_steps}
use Rattle.openurl_reading.specs.Titles.{titlings}
use Rattle.openurl_reading.specs.Values.{most_values, searched, led}
use Rattle.openurl_reading.proofs.Each.{one_has}
use Rattle.openurl_reading.proofs.FoundAgain.{issn_among, isbn_among}
use Rattle.openurl_reading.proofs.Identified.{AreIdentified}
use Rattle.openurl_reading.proofs.IdentifiedAgain.{found_again}
use Rattle.openurl_reading.proofs.IdentifiedNumbers.{led_alone-keeps}
use Rattle.openurl_reading.proofs.KeysSettle.{same_after}
use Rattle.openurl_reading.proofs.Led.{led-keeps, led_settles}
use Rattle.openurl_reading.proofs.Stages.{after_dates, kind_steps, titled_steps, last_steps}
use Rattle.openurl_reading.proofs.Values.{values_after, all_of-taken-own}

-- ---- the values of a key, after its step and another one that leads

both_none : (a b : List Text) → a ++ b ≡ [] → (a ≡ []) × (b ≡ [])
both_none [] b h = (refl, h)
both_none (x ∷ xs) b h = cc

few_none : (find : Text → List Text) (values : List Text) (k : ℕ) → numbers_in find values ≡ [] → numbers_in find (take k values) ≡ []
few_none find values zero h = refl
few_none find [] (suc k) h = refl
few_none find (v ∷ vs) (suc k) h =
    let parts = both_none (find (searched v)) (numbers_in find vs) h in
    ap (λ l. l ++ numbers_in find (take k vs)) parts.0 ∙ few_none find vs k parts.1

-- where nothing is found after a step that keeps values, nothing was before
none_before : (find : Text → List Text) (rest : List Text) (change : Change) (values : List Text) → change.keeps ≡ true
    → numbers_in find (values_after change values) ++ rest ≡ [] → numbers_in find values ++ rest ≡ []
none_before find rest change values keeps h =
    let parts = both_none (numbers_in find (values_after change values)) rest h in
    let kept : numbers_in find (values_after change values) ≡ numbers_in find (change.values ++ values) =
    ap (λ b. numbers_in find (change.values ++ cond b values [])) keeps in
    let own = both_none (numbers_in find change.values) (numbers_in find values)
    (sym (flat_map-append (λ v. find (searched v)) change.values values) ∙ sym kept ∙ parts.0) in
    ap (λ l. l ++ rest) own.1 ∙ parts.1

settles : (find : Text → List Text) (rest : List Text) (found again later : Option Text) (values : List Text)
    → let now = values_after (led_alone (numbers_in find values ++ rest) found (slice_get values 0)) values in
    let last = values_after (led later (slice_get now 0)) now in
    (numbers_in find now ++ rest ≡ [] → later ≡ None) → (again ≡ found) ⊎ (again ≡ None)
    → led_alone (numbers_in find last ++ rest) again (slice_get last 0) ≡ unchanged
settles find rest found again later values none same = by_own (numbers_in find last ++ rest) refl
  where
    change : Change
    change = led_alone (numbers_in find values ++ rest) found (slice_get values 0)

    now : List Text
    now = values_after change values

    last : List Text
    last = values_after (led later (slice_get now 0)) now

    again_leads : (again ≡ found) ⊎ (again ≡ None)
        → led again (slice_get (values_after (led found (slice_get values 0)) values) 0) ≡ unchanged
    again_leads (inl e) =
        ap (λ o. led o (slice_get (values_after (led found (slice_get values 0)) values) 0)) e ∙ led_settles (λ vs. found) values (λ n g. inl g)
    again_leads (inr e) = ap (λ o. led o (slice_get (values_after (led found (slice_get values 0)) values) 0)) e

    by_own : (own : List Text) → numbers_in find last ++ rest ≡ own → led_alone own again (slice_get last 0) ≡ unchanged
    by_own (n ∷ ns) e = refl
    by_own [] e =
        let nothing = none_before find rest (led later (slice_get now 0)) now (led-keeps later (slice_get now 0)) e in
        let before = none_before find rest change values (led_alone-keeps (numbers_in find values ++ rest) found (slice_get values 0)) nothing in
        let stays : last ≡ now = ap (λ o. values_after (led o (slice_get now 0)) now) (none nothing) in
        let leads : now ≡ values_after (led found (slice_get values 0)) values =
        ap (λ own. values_after (led_alone own found (slice_get values 0)) values) before in
        subst (λ vs. led again (slice_get vs 0) ≡ unchanged) (sym (stays ∙ leads)) (again_leads same)

-- ---- both steps

-- the steps after them, up to that of the ISSN, and from there up to that of the ISBN
abbrev before_issn : List Step
before_issn = titled_steps ++ citing_steps ++ text_steps ++ referrer_step ∷ []

issn_settles : AreIdentified → (before : List KeyValue)
    → (identified_step Issn).change (after last_steps (after kind_steps before)) ≡ unchanged
issn_settles laws before =
    let key = codes "rft.issn" in
    let values = all_of before key in
    let first = taken before (identified_step Issn) in
    let steps = identified_step Isbn ∷ before_issn in
    let middle = after steps first in
    let now = after last_steps (after kind_steps before) in
    let led_values : List Text → List Text = λ vs. values_after (led (issn_among vs) (slice_get vs 0)) vs in
    let own : all_of now key ≡ led_values (all_of first key) =
    same_after (eissn_step ∷ isbn_step ∷ date_step ∷ after_dates) (taken middle issn_step) key refl ∙ all_of-taken-own issn_step middle
    ∙ ap led_values (same_after steps first key refl) in
    let found = identified Issn before in
    let again = identified Issn now in
    let same = found_again laws Issn (identified_steps ++ core_steps ++ titlings) before refl refl in
    subst (λ vs. led_alone (numbers_in issns_in vs ++ []) again (slice_get vs 0) ≡ unchanged)
    (sym (own ∙ ap led_values (all_of-taken-own (identified_step Issn) before)))
    (settles issns_in [] found again _ values (λ h. ap first_number (few_none issns_in _ most_values (both_none _ [] h).0)) same)

isbn_settles : AreIdentified → (before : List KeyValue)
    → (identified_step Isbn).change (after last_steps (after titled_steps (taken before (identified_step Isbn)))) ≡ unchanged
isbn_settles laws before =
    let key = codes "rft.isbn" in
    let values = all_of before key in
    let others = all_of before (codes "rft.eisbn") in
    let first = taken before (identified_step Isbn) in
    let steps = before_issn ++ issn_step ∷ eissn_step ∷ [] in
    let middle = after steps first in
    let now = after last_steps (after titled_steps first) in
    let led_values : List Text → List Text → List Text = λ os vs. values_after (led (isbn_among os vs) (slice_get vs 0)) vs in
    let more : all_of middle (codes "rft.eisbn") ≡ others = same_after (identified_step Isbn ∷ steps) before (codes "rft.eisbn") refl in
    let own : all_of now key ≡ led_values others (all_of first key) =
    same_after (date_step ∷ after_dates) (taken middle isbn_step) key refl ∙ all_of-taken-own isbn_step middle
    ∙ ap (λ os. led_values os (all_of middle key)) more ∙ ap (led_values others) (same_after steps first key refl) in
    let found = identified Isbn before in
    let again = identified Isbn now in
    let rest = numbers_in isbns_in others ++ [] in
    let same = found_again laws Isbn (identified_step Isbn ∷ core_steps ++ titlings) before refl refl in
    subst (λ os. led_alone (numbers_in isbns_in (all_of now key) ++ (numbers_in isbns_in os ++ [])) again (first_of now key) ≡ unchanged)
    (sym (same_after (identified_step Isbn ∷ titled_steps ++ last_steps) before (codes "rft.eisbn") refl))
    (subst (λ vs. led_alone (numbers_in isbns_in vs ++ rest) again (slice_get vs 0) ≡ unchanged)
    (sym (own ∙ ap (led_values others) (all_of-taken-own (identified_step Isbn) before)))
    (settles isbns_in rest found again _ values (λ h.
    let parts = both_none _ rest h in
    let front = few_none isbns_in _ most_values parts.0 in
    let back = few_none isbns_in others most_values (both_none (numbers_in isbns_in others) [] parts.1).0 in
    ap (λ l. first_number (l ++ numbers_in isbns_in (take most_values others))) front ∙ ap first_number back) same))

pub identified_settle : AreIdentified → (before : List KeyValue)
    → All (λ step. step.change (after last_steps (after kind_steps before)) ≡ unchanged) identified_steps
identified_settle laws before =
    let P : Step → Type 0 = λ step. step.change (after last_steps (after kind_steps before)) ≡ unchanged in
    All-cons P (identified_step Issn) (identified_step Isbn ∷ []) (issn_settles laws before)
    (one_has P (identified_step Isbn) (isbn_settles laws (taken before (identified_step Issn))))
