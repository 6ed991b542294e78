-- What steps write of a reference in the sources of a request in Dublin Core.
use Rattle.std.proofs.Common.{length, get_or}
use Rattle.std.proofs.Common.{◌≡◌, ℕ, ◌+◌, ◌*◌, ◌≤◌, List, [], ◌∷◌, ◌++◌, Bool, true, false, cond, Option, Some, None, refl, sym, ◌∙◌, subst, arith}
use Rattle.std.specs.Prelude.{codes, nat_le, Contains}
use Rattle.std.specs.Char.{is_ascii_digit}
use Rattle.std.specs.List.{All, list_any, flat_map}
use Rattle.std.specs.Option.{option_and_then, is_some}
use Rattle.std.proofs.lemmas.Bool.{and_parts}
use Rattle.std.proofs.lemmas.Bool.Decides.{nat_tests}
use Rattle.std.proofs.lemmas.List.Elements.{All-cons, All-take, Contains-get_or, Contains-append_left, Contains-append_right}
use Rattle.text_model.specs.Texts.{Text}
use Rattle.kev_read.specs.Pairs.{KeyValue, all_of, first_of}
use Rattle.publication_dates.specs.Dates.{date_in}
use Rattle.journal_references.specs.References.{Reference, may_have_one, first_reference as first_in, reference_in}
use Rattle.openurl_reading.specs.Citations.{in_title, without_date}
use Rattle.openurl_reading.specs.Dates.{date_keys, first_date}
use Rattle.openurl_reading.specs.DublinCore.{is_core, core_reference, core_part, dated, core_year, year_step, core_parts}
use Rattle.openurl_reading.specs.Keys.{is_one_of}
use Rattle.openurl_reading.specs.Origins.{listed, parts_of}
use Rattle.openurl_reading.specs.Sources.{most_sources, longest_source, sources, in_source, first_reference}
use Rattle.openurl_reading.specs.Steps.{Step, taken, after}
use Rattle.openurl_reading.specs.Values.{searched}
use Rattle.openurl_reading.specs.Volumes.{without_own, filling}
use Rattle.openurl_reading.proofs.Cited.{IsPart, part_is, year_is, cited_keys}
use Rattle.openurl_reading.proofs.CoreParts.{of_volume, of_issue, of_pages, reference_kept}
use Rattle.openurl_reading.proofs.Each.{none_has, each_taken, each_led}
use Rattle.openurl_reading.proofs.Fillings.{own_is, each_filling}
use Rattle.openurl_reading.proofs.FoundAre.{IsAll}
use Rattle.openurl_reading.proofs.Identified.{found_is}
use Rattle.openurl_reading.proofs.Totals.{total, total_taken, led_weighs}

-- the property holds of each part that is not blank
pub record EachPlace (P : Text → Type 0) (found : Reference) : Type 0 where
  pub volume : IsPart P found.volume
  pub issue : IsPart P found.issue
  pub pages : IsPart P found.pages
  pub year : IsPart P found.year

pub place_map : (P Q : Text → Type 0) (found : Reference) → ((n : Text) → P n → Q n) → EachPlace P found → EachPlace Q found
place_map P Q found f each = record {
  volume = λ n g b. f n (each.volume n g b);
  issue = λ n g b. f n (each.issue n g b);
  pages = λ n g b. f n (each.pages n g b);
  year = λ n g b. f n (each.year n g b);
}

-- of the reference in the sources, if they have one
abbrev pub IsPlaced : (Text → Type 0) → List KeyValue → Type 0
IsPlaced P pairs = IsAll (EachPlace P) (core_reference pairs)

source_is : (P : Reference → Type 0) (v : Text) → IsAll P (in_title v) → IsAll P (in_source v)
source_is P v is found e = by_test (nat_le (length v) longest_source) e
  where
    by_test : (b : Bool) → cond b (in_title v) None ≡ Some found → P found
    by_test true g = is found g
    by_test false g = cc

-- what holds of the reference in each source
pub reference_has : (P : Reference → Type 0) (pairs : List KeyValue) → All (λ v. IsAll P (in_title v)) (all_of pairs (codes "rft.source"))
    → IsAll P (core_reference pairs)
reference_has P pairs each found e = by_test (is_core pairs) e
  where
    by_test : (b : Bool) → cond b (first_reference pairs) None ≡ Some found → P found
    by_test true g =
        found_is P in_source (sources pairs)
        (λ k d h. source_is P (get_or (sources pairs) k d) (All-take (λ v. IsAll P (in_title v)) most_sources (all_of pairs (codes "rft.source")) each k d h))
        found g
    by_test false g = cc

-- ---- what is found

part_found : (P : Text → Type 0) (part : Reference → Option Text) (pairs : List KeyValue) → ((found : Reference) → EachPlace P found → IsPart P (part found))
    → IsPlaced P pairs → (n : Text) → core_part part pairs ≡ Some n → P n
part_found P part pairs of is = part_is P part (core_reference pairs) (λ found e. of found (is found e))

dated-is : (o : Option Text) (y : Text) → option_and_then dated o ≡ Some y → o ≡ Some y
dated-is None y e = cc
dated-is (Some t) y e = by_test (is_some (date_in (searched t))) e
  where
    by_test : (b : Bool) → cond b (Some t) None ≡ Some y → Some t ≡ Some y
    by_test true g = g
    by_test false g = cc

year_found : (P : Text → Type 0) (pairs : List KeyValue) → IsPlaced P pairs
    → (n : Text) → without_date (first_date date_keys pairs) (core_year pairs) ≡ Some n → P n
year_found P pairs is =
    year_is P (first_date date_keys pairs) (core_year pairs)
    (λ n e. part_found P (λ found. found.year) pairs (λ found each. each.year) is n (dated-is (core_part (λ found. found.year) pairs) n e))

-- ---- what holds of all pairs

placed_next : (P : Text → Type 0) (step : Step) (pairs : List KeyValue) → core_reference (taken pairs step) ≡ core_reference pairs → IsPlaced P pairs
    → IsPlaced P (taken pairs step)
placed_next P step pairs same is found e = is found (sym same ∙ e)

-- it holds of a pair of a key of these and a value that has the property
pub each_parts : (Q : KeyValue → Type 0) (P : Text → Type 0)
    → ((key v : Text) → is_one_of cited_keys key ≡ true → P v → Q (record { key = key; value = v }))
    → (pairs : List KeyValue) → IsPlaced P pairs → All Q pairs → All Q (after core_parts pairs)
each_parts Q P one pairs is all =
    let first = taken pairs of_volume in
    let second = taken first of_issue in
    let third = taken second of_pages in
    let is1 = placed_next P of_volume pairs (reference_kept of_volume pairs refl refl refl refl) is in
    let is2 = placed_next P of_issue first (reference_kept of_issue first refl refl refl refl) is1 in
    let is3 = placed_next P of_pages second (reference_kept of_pages second refl refl refl refl) is2 in
    each_taken Q year_step third
    (each_led (λ v. Q (record { key = codes "rft.date"; value = v })) (without_date (first_date date_keys third) (core_year third))
    (first_of third (codes "rft.date")) (λ n e. one (codes "rft.date") n refl (year_found P third is3 n e)))
    (each_filling Q (codes "rft.pages") (core_part (λ found. found.pages)) second
    (λ n e. one (codes "rft.pages") n refl (part_found P (λ found. found.pages) second (λ found each. each.pages) is2 n e))
    (each_filling Q (codes "rft.issue") (core_part (λ found. found.issue)) first
    (λ n e. one (codes "rft.issue") n refl (part_found P (λ found. found.issue) first (λ found each. each.issue) is1 n e))
    (each_filling Q (codes "rft.volume") (core_part (λ found. found.volume)) pairs
    (λ n e. one (codes "rft.volume") n refl (part_found P (λ found. found.volume) pairs (λ found each. each.volume) is n e)) all)))

-- ---- how large pairs are

pub short : (text : Text) (found : Reference) → reference_in text ≡ Some found → length text ≤ 500
short text found e = by_test (may_have_one text) refl e
  where
    by_test : (b : Bool) → may_have_one text ≡ b → cond b (first_in text 0 (length text)) None ≡ Some found → length text ≤ 500
    by_test true h g = let fits = (and_parts (nat_le (length text) 500) (list_any is_ascii_digit text) h).0 in grind (arith, nat_tests, fits)
    by_test false h g = cc

abbrev pub ArePlacedLight : (Text → ℕ) → ℕ → Type 0
ArePlacedLight g w = (pairs : List KeyValue) → IsPlaced (λ n. g n ≤ w) pairs

pub parts_weigh : (g : Text → ℕ) (w : ℕ) → ArePlacedLight g w → (pairs : List KeyValue) → total g (after core_parts pairs) ≤ 4 * w + total g pairs
parts_weigh g w is pairs =
    let P : Text → Type 0 = λ n. g n ≤ w in
    let first = taken pairs of_volume in
    let second = taken first of_issue in
    let third = taken second of_pages in
    omega (
      arith,
      part_total (codes "rft.volume") (λ found. found.volume) pairs (λ found each. each.volume),
      part_total (codes "rft.issue") (λ found. found.issue) first (λ found each. each.issue),
      part_total (codes "rft.pages") (λ found. found.pages) second (λ found each. each.pages),
      total_taken g year_step third,
      led_weighs g w (without_date (first_date date_keys third) (core_year third)) (first_of third (codes "rft.date")) (year_found P third (is third)),
    )
  where
    part_total : (key : Text) (part : Reference → Option Text) (p : List KeyValue)
        → ((found : Reference) → EachPlace (λ n. g n ≤ w) found → IsPart (λ n. g n ≤ w) (part found))
        → total g (taken p (filling key (core_part part))) ≤ w + total g p
    part_total key part p of =
        let P : Text → Type 0 = λ n. g n ≤ w in
        omega (
          arith,
          total_taken g (filling key (core_part part)) p,
          led_weighs g w (without_own (all_of p key) (core_part part p)) (first_of p key)
              (own_is P (all_of p key) (core_part part p) (part_found P part p of (is p))),
        )

-- ---- the parts of a reference in a list

pub in_flat : (f : Text → List Text) (y : Text) (xs : List Text) → All (λ x. Contains (f x) y → Contains (flat_map f xs) y) xs
in_flat f y [] = none_has (λ x. Contains (f x) y → Contains (flat_map f []) y)
in_flat f y (v ∷ vs) =
    All-cons (λ x. Contains (f x) y → Contains (flat_map f (v ∷ vs)) y) v vs (λ c. Contains-append_left (f v) (flat_map f vs) y c)
    (λ k d h c. Contains-append_right (f v) (flat_map f vs) y (in_flat f y vs k d h c))

pub one_in : (x : Text) (xs : List Text) → Contains (x ∷ xs) x
one_in x xs = Contains-get_or (x ∷ xs) 0 x (omega arith)

in_listed : (o : Option Text) (n : Text) → o ≡ Some n → Contains (listed o) n
in_listed o n e = subst (λ p. Contains (listed p) n) (sym e) (one_in n [])

pub parts_listed : (found : Reference) → EachPlace (Contains (parts_of (Some found))) found
parts_listed found =
    record {
      volume = λ n g b. before_year n (Contains-append_left two (listed found.pages) n
          (Contains-append_left (listed found.volume) (listed found.issue) n (in_listed found.volume n g)));
      issue = λ n g b. before_year n (Contains-append_left two (listed found.pages) n
          (Contains-append_right (listed found.volume) (listed found.issue) n (in_listed found.issue n g)));
      pages = λ n g b. before_year n (Contains-append_right two (listed found.pages) n (in_listed found.pages n g));
      year = λ n g b. later n (Contains-append_right three (listed found.year) n (in_listed found.year n g));
    }
  where
    two : List Text
    two = listed found.volume ++ listed found.issue

    three : List Text
    three = two ++ listed found.pages

    after_it : List Text
    after_it = three ++ listed found.year

    later : (n : Text) → Contains after_it n → Contains (parts_of (Some found)) n
    later n c = Contains-append_right (found.name ∷ []) after_it n c

    before_year : (n : Text) → Contains three n → Contains (parts_of (Some found)) n
    before_year n c = later n (Contains-append_left three (listed found.year) n c)
