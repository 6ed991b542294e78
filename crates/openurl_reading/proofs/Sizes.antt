-- How large a reading is.
use Rattle.std.proofs.Common.{◌≡◌, ℕ, ◌+◌, ◌≤◌, ◌*◌, List, [], ◌∷◌, Bool, true, false, cond}
use Rattle.std.proofs.Common.{map, Option, Some, None, refl, subst, sym, length, arith}
use Rattle.std.specs.Prelude.{codes}
use Rattle.std.specs.List.{sum_by}
use Rattle.std.proofs.lemmas.List.Sums.{sum_by-take-le, sum_by-cons}
use Rattle.text_model.specs.Texts.{Text}
use Rattle.kev_read.specs.Pairs.{KeyValue, all_of, first_of}
use Rattle.openurl_reading.specs.Counting.{is_accepted, most_pairs, accepted, counting}
use Rattle.openurl_reading.specs.Keys.{named}
use Rattle.openurl_reading.proofs.SmallKeys.{total_named}
use Rattle.openurl_reading.specs.Steps.{taken, after}
use Rattle.openurl_reading.specs.Versions.{version, encoding, correction}
use Rattle.openurl_reading.specs.Fields.{fields}
use Rattle.openurl_reading.specs.OldKeys.{copies}
use Rattle.openurl_reading.specs.Citations.{citing_steps}
use Rattle.openurl_reading.specs.Texts.{text_steps}
use Rattle.openurl_reading.specs.Referrers.{namespace, referrer_step}
use Rattle.openurl_reading.specs.Numbers.{first_issn, first_eissn, first_isbn, issn_step, eissn_step, isbn_step}
use Rattle.openurl_reading.specs.Dates.{date_keys, first_date, led_or_none, date_step}
use Rattle.work_identifiers.specs.declared.namespace.Namespace.{Namespace}
use Rattle.work_identifiers.specs.declared.namespace.Namespace.TheVariants.{Doi, Pmid, Oclc, Pmc, Arxiv}
use Rattle.work_identifiers.specs.Forms.{IsIdentifier}
use Rattle.openurl_reading.specs.Identifiers.{nameable, naming, namings}
use Rattle.openurl_reading.specs.Pages.{first_page, last_page, first_page_step, last_page_step, page_steps}
use Rattle.openurl_reading.specs.Volumes.{added_issue, volume, issue, added_issue_step, volume_step, issue_step, volume_steps}
use Rattle.openurl_reading.specs.Reading.{normal_form, with_derived}
use Rattle.openurl_reading.proofs.Cited.{AreCitedLight}
use Rattle.openurl_reading.proofs.DerivedWeigh.{AreEncodedLight, derived_weigh}
use Rattle.openurl_reading.proofs.Identified.{first_is, nameable_is, of_is}
use Rattle.openurl_reading.proofs.KeysWeigh.{AreLight, AreFormatsLight, all_three, both_others, correction_weighs, keys_weigh}
use Rattle.openurl_reading.proofs.VolumeLaws.{AreFoundNumbers, added_issue_is, found_volume_is, found_issue_is}
use Rattle.openurl_reading.proofs.ArticlesFound.{article_short}
use Rattle.openurl_reading.proofs.PagesFound.{ArePagesShort, first_page_is, last_page_is}
use Rattle.openurl_reading.proofs.PartsSourced.{ArePlacedLight}
use Rattle.openurl_reading.proofs.Stages.{after_dates, kind_steps, led_steps, with_versions, normal_form-led}
use Rattle.openurl_reading.proofs.Totals.{total, total_taken, led_weighs, named_weighs}

-- ---- identifiers

naming_weighs : (g : Text → ℕ) (m : ℕ) (u : Namespace → ℕ) → AreLight g m u → (namespace : Namespace) (pairs : List KeyValue)
    → total g (taken pairs (naming namespace)) ≤ u namespace + total g pairs
naming_weighs g m u light namespace pairs =
    let first = first_is (IsIdentifier namespace) namespace (of_is light.identified namespace) pairs in
    let is = nameable_is (IsIdentifier namespace) namespace pairs first in
    omega (
      arith,
      total_taken g (naming namespace) pairs,
      named_weighs g (u namespace) namespace (nameable namespace pairs) (all_of pairs (codes "rft_id"))
          (λ n e. light.uri namespace n (is n e)),
    )

namings_weigh : (g : Text → ℕ) (m : ℕ) (u : Namespace → ℕ) → AreLight g m u → (pairs : List KeyValue)
    → total g (after namings pairs) ≤ all_three u + both_others u + total g pairs
namings_weigh g m u light pairs =
    let first = taken pairs (naming Oclc) in
    let second = taken first (naming Pmc) in
    let third = taken second (naming Pmid) in
    omega (
      arith,
      naming_weighs g m u light Oclc pairs,
      naming_weighs g m u light Pmc first,
      naming_weighs g m u light Pmid second,
      naming_weighs g m u light Arxiv third,
      naming_weighs g m u light Doi (taken third (naming Arxiv)),
    )

-- ---- volume and issue

volumes_weigh : (g : Text → ℕ) (r : ℕ) → AreFoundNumbers (λ t. g t ≤ r) → (pairs : List KeyValue)
    → total g (after volume_steps pairs) ≤ 3 * r + total g pairs
volumes_weigh g r light pairs =
    let P : Text → Type 0 = λ t. g t ≤ r in
    let first = taken pairs added_issue_step in
    let second = taken first volume_step in
    omega (
      arith,
      total_taken g added_issue_step pairs,
      led_weighs g r (added_issue pairs) (first_of pairs (codes "rft.issue")) (added_issue_is P light pairs),
      total_taken g volume_step first,
      led_weighs g r (volume first) (first_of first (codes "rft.volume")) (found_volume_is P light first),
      total_taken g issue_step second,
      led_weighs g r (issue second) (first_of second (codes "rft.issue")) (found_issue_is P light second),
    )

-- ---- pages

-- the greatest weight of a first page, and of a last one
pub record ArePagesLight (g : Text → ℕ) (p q : ℕ) : Type 0 where
  pub first : (pairs : List KeyValue) (n : Text) → first_page pairs ≡ Some n → g n ≤ p
  pub last : (pairs : List KeyValue) (n : Text) → last_page pairs ≡ Some n → g n ≤ q

pub pages_light : ArePagesShort → ArePagesLight (λ n. length n) 200 400
pages_light short = record {
  first = first_page_is (λ n. length n ≤ 200) short.first (λ value n e. omega (arith, article_short value n e));
  last = last_page_is (λ n. length n ≤ 400) (record {
    first = λ value page e. omega (arith, short.first value page e);
    last = short.last;
    article = λ value n e. omega (arith, article_short value n e);
  });
}

pages_weigh : (g : Text → ℕ) (p q : ℕ) → ArePagesLight g p q → (pairs : List KeyValue) → total g (after page_steps pairs) ≤ p + q + total g pairs
pages_weigh g p q light pairs =
    let next = taken pairs last_page_step in
    omega (
      arith,
      total_taken g last_page_step pairs,
      led_weighs g q (last_page pairs) (first_of pairs (codes "rft.epage")) (light.last pairs),
      total_taken g first_page_step next,
      led_weighs g p (first_page next) (first_of next (codes "rft.spage")) (light.first next),
    )

-- ---- all

last_weigh : (g : Text → ℕ) (m r p q : ℕ) (u : Namespace → ℕ) → AreLight g m u → AreFoundNumbers (λ t. g t ≤ r) → ArePagesLight g p q → (pairs : List KeyValue)
    → total g (after (issn_step ∷ eissn_step ∷ isbn_step ∷ date_step ∷ after_dates) pairs) ≤ 4 * m + 3 * r + p + q + all_three u + both_others u + total g pairs
last_weigh g m r p q u light numbers pages pairs =
    let issns = taken pairs issn_step in
    let eissns = taken issns eissn_step in
    let isbns = taken eissns isbn_step in
    let dates = taken isbns date_step in
    let placed = after volume_steps dates in
    omega (
      arith,
      total_taken g issn_step pairs,
      led_weighs g m (first_issn pairs) (first_of pairs (codes "rft.issn")) (light.found.issn pairs),
      total_taken g eissn_step issns,
      led_weighs g m (first_eissn issns) (first_of issns (codes "rft.eissn")) (light.found.eissn issns),
      total_taken g isbn_step eissns,
      led_weighs g m (first_isbn eissns) (first_of eissns (codes "rft.isbn")) (light.found.isbn eissns),
      total_taken g date_step isbns,
      date_weighs (first_date date_keys isbns) (first_of isbns (codes "rft.date")) (light.found.date isbns),
      volumes_weigh g r numbers dates,
      pages_weigh g p q pages placed,
      namings_weigh g m u light (after page_steps placed),
    )
  where
    date_weighs : (found first : Option Text) → ((n : Text) → found ≡ Some n → g n ≤ m) → sum_by g (led_or_none found first).values ≤ m
    date_weighs None first h = omega arith
    date_weighs (Some d) first h = led_weighs g m (Some d) first h

-- twice the request, and some numbers, dates and identifiers
pub reading_weighs : (g : Text → ℕ) (m x f w r p q : ℕ) (u : Namespace → ℕ) → AreLight g m u → AreEncodedLight g x → AreFormatsLight g f
    → AreCitedLight g w → ArePlacedLight g w → AreFoundNumbers (λ t. g t ≤ r) → ArePagesLight g p q → (pairs : List KeyValue)
    → total g (with_derived (normal_form pairs))
    ≤ 2 * total g pairs + 16 * m + x + 2 * g encoding + f + 9 * w + 3 * r + p + q + 2 * all_three u + both_others u
reading_weighs g m x f w r p q u light small formats cited placed numbers pages pairs =
    let first = taken pairs (correction (codes "ctx_ver") version) in
    let stated = taken first (correction (codes "url_ver") version) in
    let second = with_versions pairs in
    let kinds = after kind_steps (after copies (after fields second)) in
    let texts = after text_steps (after citing_steps kinds) in
    let named = taken texts referrer_step in
    subst (λ normal. total g (with_derived normal)
    ≤ 2 * total g pairs + 16 * m + x + 2 * g encoding + f + 9 * w + 3 * r + p + q + 2 * all_three u + both_others u)
    (sym (normal_form-led pairs))
    (omega (
      arith,
      derived_weigh g m x u light small (after led_steps texts),
      last_weigh g m r p q u light numbers pages named,
      keys_weigh g m f w u light formats cited placed second,
      correction_weighs g (codes "ctx_enc") encoding stated,
      correction_weighs g (codes "url_ver") version first,
      correction_weighs g (codes "ctx_ver") version pairs,
      light.version,
    ))

accepted_weigh : (g : Text → ℕ) (pairs : List KeyValue) → total g (accepted pairs) ≤ total g pairs
accepted_weigh g [] = omega arith
accepted_weigh g (pair ∷ pairs) = by_test (is_accepted pair) (accepted_weigh g pairs)
  where
    by_test : (b : Bool) → total g (accepted pairs) ≤ total g pairs → total g (cond b (pair ∷ accepted pairs) (accepted pairs)) ≤ total g (pair ∷ pairs)
    by_test true rest =
        let w : KeyValue → ℕ = λ p. g p.value in omega (arith, sum_by-cons w pair (accepted pairs), sum_by-cons w pair pairs, rest)
    by_test false rest = omega (arith, sum_by-cons (λ (p : KeyValue). g p.value) pair pairs, rest)

pub counting_weighs : (g : Text → ℕ) (pairs : List KeyValue) → total g (counting pairs) ≤ total g pairs
counting_weighs g pairs =
    omega (
      arith,
      sum_by-take-le (λ (p : KeyValue). g p.value) (accepted (map named pairs)) most_pairs,
      accepted_weigh g (map named pairs),
      total_named g pairs,
    )

pub total-one : (pairs : List KeyValue) → total (λ n. 1) pairs ≡ length pairs
total-one [] = refl
total-one (pair ∷ pairs) = omega (arith, sum_by-cons (λ (p : KeyValue). 1) pair pairs, total-one pairs)
