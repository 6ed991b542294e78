-- What the steps of a reference do: once, and to what they write.
use Rattle.std.proofs.Common.{◌≡◌, List, [], ◌∷◌, Bool, true, false, cond, not, Option, Some, None, refl, sym, ap, ◌∙◌, subst, take, map}
use Rattle.std.specs.Prelude.{codes, slice_get, is_none}
use Rattle.std.specs.List.{All, list_all, list_any}
use Rattle.std.specs.Option.{option_and_then, option_map, is_some}
use Rattle.std.specs.Str.{bytes_eq}
use Rattle.std.proofs.lemmas.Bool.{and_parts}
use Rattle.text_model.specs.Texts.{Text}
use Rattle.kev_read.specs.Pairs.{KeyValue, all_of, first_of}
use Rattle.journal_references.specs.References.{Reference, reference_in}
use Rattle.written_texts.specs.declared.readings.Role.TheVariants.{Title, Other}
use Rattle.written_texts.specs.Readings.{written}
use Rattle.openurl_reading.specs.Citations.{in_title, is_name, is_letter, after_name, cited_in, citation, unless_blank, citing, without_date}
use Rattle.openurl_reading.specs.Citations.{citing_year, citing_name, citing_steps}
use Rattle.openurl_reading.specs.Dates.{date_keys, first_date}
use Rattle.openurl_reading.specs.Steps.{Step, unchanged, leading, replacing, changed, taken, after}
use Rattle.openurl_reading.specs.Texts.{as_texts, are_read, texting, other_texts, text_steps}
use Rattle.openurl_reading.specs.Values.{most_values, led}
use Rattle.openurl_reading.specs.Volumes.{without_own}
use Rattle.openurl_reading.proofs.CitingKeeps.{of_volume, of_issue, of_pages, each_citing}
use Rattle.openurl_reading.proofs.KeysSettle.{same_after}
use Rattle.openurl_reading.proofs.Led.{are_some, led_some}
use Rattle.openurl_reading.proofs.Settled.{steps-stay}
use Rattle.openurl_reading.proofs.Stages.{led_steps}
use Rattle.openurl_reading.proofs.TextsRead.{AreReadOnce}
use Rattle.openurl_reading.proofs.Values.{same_key, values_after, all_of-taken, all_of-taken-own}

-- ---- by the tests of the code

pub none_own : (pairs : List KeyValue) (key : Text) (found : Option Text) → is_some (first_of pairs key) ≡ false
    → without_own (all_of pairs key) found ≡ found
none_own pairs key found h = by_values (all_of pairs key) h
  where
    by_values : (values : List Text) → is_some (slice_get values 0) ≡ false → without_own values found ≡ found
    by_values [] h = refl
    by_values (v ∷ vs) h = cc

pub own_stays : (pairs : List KeyValue) (key : Text) (found : Option Text) → is_some (first_of pairs key) ≡ true
    → changed key (led (without_own (all_of pairs key) found) (first_of pairs key)) pairs ≡ pairs
own_stays pairs key found h = by_values (all_of pairs key) h
  where
    by_values : (values : List Text) → is_some (slice_get values 0) ≡ true → changed key (led (without_own values found) (slice_get values 0)) pairs ≡ pairs
    by_values [] h = cc
    by_values (v ∷ vs) h = refl

-- ---- without a reference, they change nothing

pub uncited_stays : (pairs : List KeyValue) → citation pairs ≡ None → All (λ step. step.change pairs ≡ unchanged) citing_steps
uncited_stays pairs none =
    each_citing (λ step. step.change pairs ≡ unchanged) (part_stays (codes "rft.volume") (λ found. found.volume))
    (part_stays (codes "rft.issue") (λ found. found.issue)) (part_stays (codes "rft.pages") (λ found. found.pages))
    (ap (λ c. led (without_date (first_date date_keys pairs) (option_and_then unless_blank (option_and_then (λ found. found.year) c)))
    (first_of pairs (codes "rft.date"))) none ∙ no_year (first_date date_keys pairs) (first_of pairs (codes "rft.date")))
    (ap (λ c. led (option_map (λ found. found.name) c) (first_of pairs (codes "rft.jtitle"))) none)
  where
    no_part : (values : List Text) (first : Option Text) → led (without_own values None) first ≡ unchanged
    no_part [] first = refl
    no_part (v ∷ vs) first = refl

    no_year : (date first : Option Text) → led (without_date date None) first ≡ unchanged
    no_year None first = refl
    no_year (Some date) first = refl

    part_stays : (key : Text) (part : Reference → Option Text) → (citing key part).change pairs ≡ unchanged
    part_stays key part =
        ap (λ c. led (without_own (all_of pairs key) (option_and_then unless_blank (option_and_then part c))) (first_of pairs key)) none
        ∙ no_part (all_of pairs key) (first_of pairs key)

pub uncited_same : (pairs : List KeyValue) → citation pairs ≡ None → pairs ≡ after citing_steps pairs
uncited_same pairs none = sym (steps-stay citing_steps pairs (uncited_stays pairs none))

-- ---- after the name has led, there is no reference

-- a step of another key leaves the reference
pub citation_kept : (step : Step) (pairs : List KeyValue) → bytes_eq step.key (codes "rft.jtitle") ≡ false → citation (taken pairs step) ≡ citation pairs
citation_kept step pairs h = ap (λ values. option_and_then cited_in (slice_get values 0)) (all_of-taken step pairs (codes "rft.jtitle") h)

none_in : (found : Option Reference) → is_none found ≡ true → found ≡ None
none_in None h = refl
none_in (Some r) h = cc

pub name_of : (found : Option Reference) (r : Reference) → option_and_then after_name found ≡ Some r → is_name r.name ≡ true
name_of None r e = cc
name_of (Some f) r e = by_test (is_name f.name) refl e
  where
    by_test : (b : Bool) → is_name f.name ≡ b → cond b (Some f) None ≡ Some r → is_name r.name ≡ true
    by_test true h g = let same : f ≡ r = cc in subst (λ x. is_name x.name ≡ true) same h
    by_test false h g = cc

none_before : (r : Reference) → is_name r.name ≡ true → cited_in r.name ≡ None
none_before r is =
    let parts = and_parts (list_any is_letter r.name) (is_none (in_title r.name)) is in
    ap (option_and_then after_name) (none_in (in_title r.name) parts.1)

-- the first title after the name has led
named : (values : List Text) (c : Option Reference) → option_and_then cited_in (slice_get values 0) ≡ c
    → option_and_then cited_in (slice_get (values_after (led (option_map (λ found. found.name) c) (slice_get values 0)) values) 0) ≡ None
named values None e = e
named [] (Some r) e = cc
named (v ∷ vs) (Some r) e = by_test (bytes_eq v r.name) refl
  where
    none : cited_in r.name ≡ None
    none = none_before r (name_of (in_title v) r e)

    by_test : (b : Bool) → bytes_eq v r.name ≡ b
        → option_and_then cited_in (slice_get (values_after (cond b unchanged (leading (r.name ∷ []))) (v ∷ vs)) 0) ≡ None
    by_test true h = ap cited_in (same_key v r.name h) ∙ none
    by_test false h = none

name_led : (pairs : List KeyValue) → citation (taken pairs citing_name) ≡ None
name_led pairs =
    let values = all_of pairs (codes "rft.jtitle") in
    ap (λ vs. option_and_then cited_in (slice_get vs 0)) (all_of-taken-own citing_name pairs) ∙ named values (citation pairs) refl

-- the others
abbrev pub before_name : List Step
before_name = of_volume ∷ of_issue ∷ of_pages ∷ citing_year ∷ []

cited_once : (before : List KeyValue) → citation (after citing_steps before) ≡ None
cited_once before = name_led (after before_name before)

-- ---- in the order of the code

part_next : (key : Text) (part : Reference → Option Text) (pairs next : List KeyValue) (found : Reference) → citation pairs ≡ Some found
    → next ≡ changed key (led (without_own (all_of pairs key) (option_and_then unless_blank (part found))) (first_of pairs key)) pairs
    → next ≡ taken pairs (citing key part)
part_next key part pairs next found e h =
    h ∙ sym (ap (λ c. changed key (led (without_own (all_of pairs key) (option_and_then unless_blank (option_and_then part c))) (first_of pairs key)) pairs) e)

still_cited : (step : Step) (pairs next : List KeyValue) (found : Reference) → bytes_eq step.key (codes "rft.jtitle") ≡ false → citation pairs ≡ Some found
    → next ≡ taken pairs step → citation next ≡ Some found
still_cited step pairs next found apart e h = ap citation h ∙ citation_kept step pairs apart ∙ e

pub in_order : (pairs first second third fourth last : List KeyValue) (found : Reference) → citation pairs ≡ Some found
    → first ≡ changed (codes "rft.volume") (led (without_own (all_of pairs (codes "rft.volume")) (option_and_then unless_blank found.volume))
    (first_of pairs (codes "rft.volume"))) pairs
    → second ≡ changed (codes "rft.issue") (led (without_own (all_of first (codes "rft.issue")) (option_and_then unless_blank found.issue))
    (first_of first (codes "rft.issue"))) first
    → third ≡ changed (codes "rft.pages") (led (without_own (all_of second (codes "rft.pages")) (option_and_then unless_blank found.pages))
    (first_of second (codes "rft.pages"))) second
    → fourth ≡ changed (codes "rft.date") (led (without_date (first_date date_keys third) (option_and_then unless_blank found.year))
    (first_of third (codes "rft.date"))) third
    → last ≡ changed (codes "rft.jtitle") (led (Some found.name) (first_of fourth (codes "rft.jtitle"))) fourth → last ≡ after citing_steps pairs
in_order pairs first second third fourth last found e a b c d f =
    let one = part_next (codes "rft.volume") (λ r. r.volume) pairs first found e a in
    let e1 = still_cited of_volume pairs first found refl e one in
    let two = part_next (codes "rft.issue") (λ r. r.issue) first second found e1 b in
    let e2 = still_cited of_issue first second found refl e1 two in
    let three = part_next (codes "rft.pages") (λ r. r.pages) second third found e2 c in
    let e3 = still_cited of_pages second third found refl e2 three in
    let four : fourth ≡ taken third citing_year =
    d ∙ sym (ap (λ r. changed (codes "rft.date") (led (without_date (first_date date_keys third)
    (option_and_then unless_blank (option_and_then (λ found. found.year) r))) (first_of third (codes "rft.date"))) third) e3) in
    let e4 = still_cited citing_year third fourth found refl e3 four in
    let five : last ≡ taken fourth citing_name =
    f ∙ sym (ap (λ r. changed (codes "rft.jtitle") (led (option_map (λ found. found.name) r) (first_of fourth (codes "rft.jtitle"))) fourth) e4) in
    five ∙ ap (λ p. taken p citing_name) (four ∙ ap (λ p. taken p citing_year) (three ∙ ap (λ p. taken p of_pages)
    (two ∙ ap (λ p. taken p of_issue) one)))

-- ---- the steps of texts leave the reference, as it was read in the text

text_cited : AreReadOnce → (values : List Text)
    → option_and_then cited_in (slice_get (values_after (as_texts Title (take most_values values)) values) 0)
    ≡ option_and_then cited_in (slice_get values 0)
text_cited once [] = refl
text_cited once (v ∷ vs) = by_test (are_read Title (take most_values (v ∷ vs)))
  where
    by_test : (b : Bool)
        → option_and_then cited_in
        (slice_get (values_after (cond b unchanged (replacing (map (written Title) (take most_values (v ∷ vs))))) (v ∷ vs)) 0)
        ≡ cited_in v
    by_test true = refl
    by_test false = ap (λ text. option_and_then after_name (reference_in text)) (once Title v)

abbrev after_journals : List Step
after_journals =
    texting Title (codes "rft.btitle") ∷ texting Title (codes "rft.title") ∷ map (texting Other) other_texts

texts_cited : AreReadOnce → (pairs : List KeyValue) → citation (after text_steps pairs) ≡ citation pairs
texts_cited once pairs =
    let key = codes "rft.jtitle" in
    let first = taken pairs (texting Title (codes "rft.atitle")) in
    let second = taken first (texting Title key) in
    ap (λ vs. option_and_then cited_in (slice_get vs 0))
    (same_after after_journals second key refl ∙ all_of-taken-own (texting Title key) first)
    ∙ text_cited once (all_of first key) ∙ citation_kept (texting Title (codes "rft.atitle")) pairs refl

pub citing_settles : AreReadOnce → (before : List KeyValue)
    → All (λ step. step.change (after led_steps (after text_steps (after citing_steps before))) ≡ unchanged) citing_steps
citing_settles once before =
    let cited_pairs = after citing_steps before in
    let texts = after text_steps cited_pairs in
    uncited_stays (after led_steps texts)
    (ap (λ vs. option_and_then cited_in (slice_get vs 0)) (same_after led_steps texts (codes "rft.jtitle") refl)
    ∙ texts_cited once cited_pairs ∙ cited_once before)

-- ---- a key has a value after them if it had one, apart from those that are filled

title_some : (values : List Text)
    → are_some (values_after (led (option_map (λ found. found.name) (option_and_then cited_in (slice_get values 0))) (slice_get values 0)) values)
    ≡ are_some values
title_some values =
    led_some (option_map (λ found. found.name) (option_and_then cited_in (slice_get values 0))) values
    (λ e. ap (λ vs. option_map (λ found. found.name) (option_and_then cited_in (slice_get vs 0))) e)

name_some : (key : Text) (pairs : List KeyValue) → are_some (all_of (taken pairs citing_name) key) ≡ are_some (all_of pairs key)
name_some key pairs = by_key (bytes_eq (codes "rft.jtitle") key) refl
  where
    by_key : (b : Bool) → bytes_eq (codes "rft.jtitle") key ≡ b → are_some (all_of (taken pairs citing_name) key) ≡ are_some (all_of pairs key)
    by_key true e =
        subst (λ k. are_some (all_of (taken pairs citing_name) k) ≡ are_some (all_of pairs k)) (same_key (codes "rft.jtitle") key e)
        (ap are_some (all_of-taken-own citing_name pairs) ∙ title_some (all_of pairs (codes "rft.jtitle")))
    by_key false e = ap are_some (all_of-taken citing_name pairs key e)

pub citing_some : (key : Text) (pairs : List KeyValue) → list_all (λ step. not (bytes_eq step.key key)) before_name ≡ true
    → are_some (all_of (after citing_steps pairs) key) ≡ are_some (all_of pairs key)
citing_some key pairs h = name_some key (after before_name pairs) ∙ ap are_some (same_after before_name pairs key h)
