-- The ISSN and the ISBN among identifiers: what holds of them, and what their steps write.
use Rattle.std.proofs.Common.{◌≡◌, ℕ, ◌+◌, ◌<◌, ◌≤◌, List, [], ◌∷◌, ◌++◌, Bool, true, false, cond, ◌||◌, Option, Some, None}
use Rattle.std.proofs.Common.{refl, sym, ap, ◌∙◌, subst, get_or, drop, length, arith, inl, inr}
use Rattle.std.specs.Prelude.{codes}
use Rattle.std.specs.List.{All, flat_map, sum_by}
use Rattle.std.specs.Option.{is_some}
use Rattle.std.proofs.lemmas.List.{drop_more}
use Rattle.std.proofs.lemmas.List.Elements.{All-append, All-cons, All-head, All-tail, All-take}
use Rattle.text_model.specs.Texts.{Text}
use Rattle.uri_text.specs.AnyCase.{begins_in_any_case}
use Rattle.kev_read.specs.Pairs.{KeyValue, all_of, first_of}
use Rattle.work_identifiers.specs.declared.numbers.StandardNumber.{StandardNumber}
use Rattle.work_identifiers.specs.declared.numbers.StandardNumber.TheVariants.{Issn, Isbn}
use Rattle.openurl_reading.specs.DublinCore.{is_core}
use Rattle.openurl_reading.specs.Identifiers.{as_identifier}
use Rattle.openurl_reading.specs.IdentifiedNumbers.{find_in, identifying_keys, is_number_under, is_whole, numbers_at, numbers_under, among_identifiers}
use Rattle.openurl_reading.specs.IdentifiedNumbers.{says, has_issn, issns_of_source, among_sources, identified, number_key, own_numbers, led_alone}
use Rattle.openurl_reading.specs.IdentifiedNumbers.{identified_step, identified_steps}
use Rattle.openurl_reading.specs.Numbers.{first_number}
use Rattle.openurl_reading.specs.Steps.{unchanged, changed, taken}
use Rattle.openurl_reading.specs.Values.{most_values, values_of, searched}
use Rattle.openurl_reading.proofs.Each.{none_has, one_has, each_found, each_led}
use Rattle.openurl_reading.proofs.Filled.{KeepsKey}
use Rattle.openurl_reading.proofs.FoundAgain.{first_has}
use Rattle.openurl_reading.proofs.Led.{led-keeps}
use Rattle.openurl_reading.proofs.Totals.{led_weighs}

-- ---- the first number in a value, and that under a key

abbrev pub number_at : StandardNumber → Text → Text → Option Text
number_at number key value = first_number (numbers_at number key value)

abbrev pub number_under : StandardNumber → List KeyValue → Text → Option Text
number_under number pairs key = first_number (numbers_under number pairs key)

-- ---- what a step writes

pub led_alone-keeps : (own : List Text) (found first : Option Text) → (led_alone own found first).keeps ≡ true
led_alone-keeps [] found first = led-keeps found first
led_alone-keeps (n ∷ ns) found first = refl

pub identified_keeps : (key : Text) (number : StandardNumber) → KeepsKey key (identified_step number)
identified_keeps key number = inr (λ p. inl (led_alone-keeps (own_numbers number p) (identified number p) (first_of p (number_key number))))

pub identified_steps_keep : (key : Text) → All (KeepsKey key) identified_steps
identified_steps_keep key =
    All-cons (KeepsKey key) (identified_step Issn) (identified_step Isbn ∷ []) (identified_keeps key Issn)
    (one_has (KeepsKey key) (identified_step Isbn) (identified_keeps key Isbn))

pub each_led_alone : (P : Text → Type 0) (own : List Text) (found first : Option Text) → ((n : Text) → found ≡ Some n → P n)
    → All P (led_alone own found first).values
each_led_alone P [] found first h = each_led P found first h
each_led_alone P (n ∷ ns) found first h = none_has P

pub led_alone_weighs : (g : Text → ℕ) (m : ℕ) (own : List Text) (found first : Option Text) → ((n : Text) → found ≡ Some n → g n ≤ m)
    → sum_by g (led_alone own found first).values ≤ m
led_alone_weighs g m [] found first h = led_weighs g m found first h
led_alone_weighs g m (n ∷ ns) found first h = omega arith

-- nothing, if there is a number already, or none was found
pub known-unchanged : (own rest : List Text) (number : Text) (found first : Option Text) → own ≡ number ∷ rest → led_alone own found first ≡ unchanged
known-unchanged [] rest number found first h = cc
known-unchanged (n ∷ ns) rest number found first h = refl

pub none-unchanged : (own : List Text) (first : Option Text) → led_alone own None first ≡ unchanged
none-unchanged [] first = refl
none-unchanged (n ∷ ns) first = refl

-- by the tests of the code
pub not_identified : (number : StandardNumber) (pairs : List KeyValue) → is_some (identified number pairs) ≡ false
    → pairs ≡ taken pairs (identified_step number)
not_identified number pairs h = by_found (identified number pairs) refl h
  where
    by_found : (found : Option Text) → identified number pairs ≡ found → is_some found ≡ false → pairs ≡ taken pairs (identified_step number)
    by_found (Some n) e g = cc
    by_found None e g =
        let own = own_numbers number pairs in
        let first = first_of pairs (number_key number) in
        let same : led_alone own (identified number pairs) first ≡ unchanged = ap (λ o. led_alone own o first) e ∙ none-unchanged own first in
        ap (λ change. changed (number_key number) change pairs) (sym same)

-- ---- what holds of all numbers in the values in which they are found

-- the keys of these values
abbrev pub searched_keys : List Text
searched_keys = codes "rft.source" ∷ identifying_keys

-- it holds of all numbers that are found in the value
abbrev pub AreIn : (Text → Type 0) → StandardNumber → Text → Type 0
AreIn P number value = All P (find_in number (searched value))

value_is : (P : Text → Type 0) (number : StandardNumber) (key value : Text) → AreIn P number value → All P (numbers_at number key value)
value_is P number key value all = by_tests (is_number_under number key (as_identifier value)) (is_whole number (searched value))
  where
    by_tests : (b c : Bool) → All P (cond b (cond c (find_in number (searched value)) []) [])
    by_tests true true = all
    by_tests true false = none_has P
    by_tests false c = none_has P

source_is : (P : Text → Type 0) (source : Text) → AreIn P Issn source → All P (issns_of_source source)
source_is P source all = by_test (has_issn source)
  where
    by_test : (b : Bool) → All P (cond b (find_in Issn (searched source)) [])
    by_test true = all
    by_test false = none_has P

sources_are : (P : Text → Type 0) (number : StandardNumber) (pairs : List KeyValue) → All (AreIn P number) (all_of pairs (codes "rft.source"))
    → All P (among_sources number pairs)
sources_are P Isbn pairs all = none_has P
sources_are P Issn pairs all = by_test (is_core pairs)
  where
    values : List Text
    values = values_of pairs (codes "rft.source")

    by_test : (b : Bool) → All P (cond b (flat_map issns_of_source (values_of pairs (codes "rft.source"))) [])
    by_test true =
        each_found P issns_of_source values
        (λ k d h. source_is P (get_or values k d) (All-take (AreIn P Issn) most_values (all_of pairs (codes "rft.source")) all k d h))
    by_test false = none_has P

pub identified_is : (P : Text → Type 0) (number : StandardNumber) (pairs : List KeyValue) → All (λ key. All (AreIn P number) (all_of pairs key)) searched_keys
    → (n : Text) → identified number pairs ≡ Some n → P n
identified_is P number pairs all n e =
    let Q : Text → Type 0 = λ key. All (AreIn P number) (all_of pairs key) in
    let under : All Q identifying_keys = All-tail Q (codes "rft.source") identifying_keys all in
    first_has P (among_identifiers number pairs ++ among_sources number pairs) n
    (All-append P (among_identifiers number pairs) (among_sources number pairs)
    (each_found P (numbers_under number pairs) identifying_keys (λ k d h.
    let key = get_or identifying_keys k d in
    each_found P (numbers_at number key) (all_of pairs key) (λ j f g. value_is P number key (get_or (all_of pairs key) j f) (under k d h j f g))))
    (sources_are P number pairs (All-head Q (codes "rft.source") identifying_keys all))) e

-- ---- letters in a text, one place after another

says_not_here : (letters : Text) (b : ℕ) (t : Text) → begins_in_any_case (b ∷ t) letters ≡ false → says letters (b ∷ t) ≡ says letters t
says_not_here letters b t h = ap (λ first. first || says letters t) h

pub says_later : (letters t : Text) (i : ℕ) → i < length t → begins_in_any_case (drop i t) letters ≡ false
    → says letters (drop i t) ≡ says letters (drop (i + 1) t)
says_later letters t i h fails =
    let more = drop_more t i 0 h in
    ap (says letters) more
    ∙ says_not_here letters (get_or t i 0) (drop (i + 1) t) (subst (λ s. begins_in_any_case s letters ≡ false) more fails)

says_here_at : (letters : Text) (b : ℕ) (t : Text) → begins_in_any_case (b ∷ t) letters ≡ true → says letters (b ∷ t) ≡ true
says_here_at letters b t h = ap (λ first. first || says letters t) h

pub says_here : (letters t : Text) (i : ℕ) → i < length t → begins_in_any_case (drop i t) letters ≡ true → says letters (drop i t) ≡ true
says_here letters t i h begins =
    let more = drop_more t i 0 h in
    ap (says letters) more
    ∙ says_here_at letters (get_or t i 0) (drop (i + 1) t) (subst (λ s. begins_in_any_case s letters ≡ true) more begins)
