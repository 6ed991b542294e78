-- What the steps of a reference write: its parts.
use Rattle.std.proofs.Common.{◌≡◌, ℕ, ◌+◌, ◌*◌, ◌≤◌, List, [], ◌∷◌, Bool, true, false, cond, Option, Some, None, refl, sym, ◌∙◌, subst, arith}
use Rattle.std.specs.Prelude.{codes}
use Rattle.std.specs.List.{All}
use Rattle.std.specs.Option.{option_and_then, option_map}
use Rattle.std.specs.Str.{bytes_eq}
use Rattle.text_model.specs.Texts.{Text}
use Rattle.kev_read.specs.Pairs.{KeyValue, all_of, first_of}
use Rattle.journal_references.specs.References.{Reference}
use Rattle.openurl_reading.specs.Citations.{citation, unless_blank, cited, without_date, citing_year, citing_steps}
use Rattle.openurl_reading.specs.Counting.{is_blank}
use Rattle.openurl_reading.specs.Keys.{is_one_of}
use Rattle.openurl_reading.specs.Dates.{date_keys, first_date}
use Rattle.openurl_reading.specs.Steps.{Step, taken, after}
use Rattle.openurl_reading.specs.Values.{led}
use Rattle.openurl_reading.specs.Volumes.{without_own}
use Rattle.openurl_reading.proofs.CitingKeeps.{of_volume, of_issue, of_pages}
use Rattle.openurl_reading.proofs.CitingSteps.{citation_kept}
use Rattle.openurl_reading.proofs.Each.{each_taken, each_led}
use Rattle.openurl_reading.proofs.Fillings.{own_is}
use Rattle.openurl_reading.proofs.Totals.{total, total_taken, led_weighs}

-- of a part of a reference that is not blank
abbrev pub IsPart : (Text → Type 0) → Option Text → Type 0
IsPart P part = (n : Text) → part ≡ Some n → is_blank n ≡ false → P n

-- the property holds of the name and of each other part
pub record EachPart (P : Text → Type 0) (found : Reference) : Type 0 where
  pub name : P found.name
  pub volume : IsPart P found.volume
  pub issue : IsPart P found.issue
  pub pages : IsPart P found.pages
  pub year : IsPart P found.year

-- of the reference in a request, if it has one
abbrev pub IsCited : (Text → Type 0) → List KeyValue → Type 0
IsCited P pairs = (found : Reference) → citation pairs ≡ Some found → EachPart P found

-- ---- what is found

not_blank_of : (P : Text → Type 0) (part : Option Text) → IsPart P part → (n : Text) → option_and_then unless_blank part ≡ Some n → P n
not_blank_of P None h n e = cc
not_blank_of P (Some t) h n e = by_test (is_blank t) refl e
  where
    by_test : (b : Bool) → is_blank t ≡ b → cond b None (Some t) ≡ Some n → P n
    by_test true g f = cc
    by_test false g f = let same : t ≡ n = cc in subst P same (h t refl g)

pub part_is : (P : Text → Type 0) (part : Reference → Option Text) (c : Option Reference) → ((found : Reference) → c ≡ Some found → IsPart P (part found))
    → (n : Text) → option_and_then unless_blank (option_and_then part c) ≡ Some n → P n
part_is P part None h n e = cc
part_is P part (Some found) h n e = not_blank_of P (part found) (h found refl) n e

pub year_is : (P : Text → Type 0) (date found : Option Text) → ((n : Text) → found ≡ Some n → P n)
    → (n : Text) → without_date date found ≡ Some n → P n
year_is P None found h n e = h n e
year_is P (Some date) found h n e = cc

name_is : (P : Text → Type 0) (c : Option Reference) → ((found : Reference) → c ≡ Some found → P found.name)
    → (n : Text) → option_map (λ found. found.name) c ≡ Some n → P n
name_is P None h n e = cc
name_is P (Some found) h n e = let same : found.name ≡ n = cc in subst P same (h found refl)

found_part : (P : Text → Type 0) (part : Reference → Option Text) (pairs : List KeyValue) → ((found : Reference) → EachPart P found → IsPart P (part found))
    → IsCited P pairs → (key n : Text) → without_own (all_of pairs key) (cited part pairs) ≡ Some n → P n
found_part P part pairs of is key =
    own_is P (all_of pairs key) (cited part pairs) (part_is P part (citation pairs) (λ found e. of found (is found e)))

found_year : (P : Text → Type 0) (pairs : List KeyValue) → IsCited P pairs
    → (n : Text) → without_date (first_date date_keys pairs) (cited (λ found. found.year) pairs) ≡ Some n → P n
found_year P pairs is =
    year_is P (first_date date_keys pairs) (cited (λ found. found.year) pairs)
    (part_is P (λ found. found.year) (citation pairs) (λ found e. (is found e).year))

found_name : (P : Text → Type 0) (pairs : List KeyValue) → IsCited P pairs
    → (n : Text) → option_map (λ found. found.name) (citation pairs) ≡ Some n → P n
found_name P pairs is = name_is P (citation pairs) (λ found e. (is found e).name)

-- ---- what holds of all pairs

cited_next : (P : Text → Type 0) (step : Step) (pairs : List KeyValue) → bytes_eq step.key (codes "rft.jtitle") ≡ false → IsCited P pairs
    → IsCited P (taken pairs step)
cited_next P step pairs h is found e = is found (sym (citation_kept step pairs h) ∙ e)

abbrev pub cited_keys : List Text
cited_keys = codes "rft.volume" ∷ codes "rft.issue" ∷ codes "rft.pages" ∷ codes "rft.date" ∷ codes "rft.jtitle" ∷ []

-- a step by which something that is found leads the values of a key
abbrev leading_by : Text → (List KeyValue → Option Text) → Step
leading_by key find = record { key = key; change = λ pairs. led (find pairs) (first_of pairs key) }

-- it holds of a pair of a key of these and a value that has the property
pub each_cited : (Q : KeyValue → Type 0) (P : Text → Type 0) → ((key v : Text) → is_one_of cited_keys key ≡ true → P v → Q (record { key = key; value = v }))
    → (pairs : List KeyValue) → IsCited P pairs → All Q pairs → All Q (after citing_steps pairs)
each_cited Q P one pairs is all =
    let first = taken pairs of_volume in
    let second = taken first of_issue in
    let third = taken second of_pages in
    let fourth = taken third citing_year in
    let is1 = cited_next P of_volume pairs refl is in
    let is2 = cited_next P of_issue first refl is1 in
    let is3 = cited_next P of_pages second refl is2 in
    let is4 = cited_next P citing_year third refl is3 in
    led_each (codes "rft.jtitle") (λ p. option_map (λ found. found.name) (citation p)) fourth refl (found_name P fourth is4)
    (led_each (codes "rft.date") (λ p. without_date (first_date date_keys p) (cited (λ found. found.year) p)) third refl (found_year P third is3)
    (led_each (codes "rft.pages") (λ p. without_own (all_of p (codes "rft.pages")) (cited (λ found. found.pages) p)) second refl
    (found_part P (λ found. found.pages) second (λ found each. each.pages) is2 (codes "rft.pages"))
    (led_each (codes "rft.issue") (λ p. without_own (all_of p (codes "rft.issue")) (cited (λ found. found.issue) p)) first refl
    (found_part P (λ found. found.issue) first (λ found each. each.issue) is1 (codes "rft.issue"))
    (led_each (codes "rft.volume") (λ p. without_own (all_of p (codes "rft.volume")) (cited (λ found. found.volume) p)) pairs refl
    (found_part P (λ found. found.volume) pairs (λ found each. each.volume) is (codes "rft.volume")) all))))
  where
    led_each : (key : Text) (find : List KeyValue → Option Text) (p : List KeyValue) → is_one_of cited_keys key ≡ true
        → ((n : Text) → find p ≡ Some n → P n) → All Q p → All Q (taken p (leading_by key find))
    led_each key find p may h all =
        each_taken Q (leading_by key find) p
        (each_led (λ v. Q (record { key = key; value = v })) (find p) (first_of p key) (λ n e. one key n may (h n e))) all

-- ---- how large pairs are

abbrev pub AreCitedLight : (Text → ℕ) → ℕ → Type 0
AreCitedLight g w = (pairs : List KeyValue) → IsCited (λ n. g n ≤ w) pairs

pub citing_weighs : (g : Text → ℕ) (w : ℕ) → AreCitedLight g w → (pairs : List KeyValue) → total g (after citing_steps pairs) ≤ 5 * w + total g pairs
citing_weighs g w is pairs =
    let P : Text → Type 0 = λ n. g n ≤ w in
    let first = taken pairs of_volume in
    let second = taken first of_issue in
    let third = taken second of_pages in
    let fourth = taken third citing_year in
    omega (
      arith,
      led_total (codes "rft.volume") (λ p. without_own (all_of p (codes "rft.volume")) (cited (λ found. found.volume) p)) pairs
          (found_part P (λ found. found.volume) pairs (λ found each. each.volume) (is pairs) (codes "rft.volume")),
      led_total (codes "rft.issue") (λ p. without_own (all_of p (codes "rft.issue")) (cited (λ found. found.issue) p)) first
          (found_part P (λ found. found.issue) first (λ found each. each.issue) (is first) (codes "rft.issue")),
      led_total (codes "rft.pages") (λ p. without_own (all_of p (codes "rft.pages")) (cited (λ found. found.pages) p)) second
          (found_part P (λ found. found.pages) second (λ found each. each.pages) (is second) (codes "rft.pages")),
      led_total (codes "rft.date") (λ p. without_date (first_date date_keys p) (cited (λ found. found.year) p)) third (found_year P third (is third)),
      led_total (codes "rft.jtitle") (λ p. option_map (λ found. found.name) (citation p)) fourth (found_name P fourth (is fourth)),
    )
  where
    led_total : (key : Text) (find : List KeyValue → Option Text) (p : List KeyValue) → ((n : Text) → find p ≡ Some n → g n ≤ w)
        → total g (taken p (leading_by key find)) ≤ w + total g p
    led_total key find p h = omega (arith, total_taken g (leading_by key find) p, led_weighs g w (find p) (first_of p key) h)
