-- What steps read, and what they write, has an origin.
use Rattle.std.proofs.Common.{◌≡◌, List, [], ◌∷◌, map, take, Bool, true, false, cond, not, Option, Some, None, refl, sym, subst, get_or, lit<, inl, inr}
use Rattle.std.specs.Prelude.{codes, Contains}
use Rattle.std.specs.List.{All, list_all}
use Rattle.std.specs.Str.{bytes_eq}
use Rattle.std.proofs.lemmas.List.Elements.{All-take, All-map}
use Rattle.text_model.specs.Texts.{Text}
use Rattle.kev_read.specs.Pairs.{KeyValue, all_of, first_of}
use Rattle.openurl_reading.specs.Steps.{Step, unchanged, replacing, taken, after}
use Rattle.openurl_reading.specs.Values.{most_values}
use Rattle.openurl_reading.specs.Versions.{version, encoding, is_other, correction, versions}
use Rattle.openurl_reading.specs.Fields.{number_fields, identifier_fields, fields}
use Rattle.openurl_reading.specs.OldKeys.{OldKey, copy, copying}
use Rattle.openurl_reading.specs.Referrers.{referrer_of, referrer_step}
use Rattle.openurl_reading.specs.Numbers.{first_issn, first_eissn, first_isbn, issn_step, eissn_step, isbn_step}
use Rattle.openurl_reading.specs.Dates.{date_keys, first_date, led_or_none, date_step}
use Rattle.openurl_reading.specs.Kinds.{kind_of}
use Rattle.openurl_reading.specs.DublinCore.{is_core, creator, is_typed, core_type, core_journal, core_source, core_parts, core_titles, core_steps}
use Rattle.openurl_reading.specs.Titles.{title_key, of_title, titlings}
use Rattle.openurl_reading.specs.Formats.{format_of, format_step}
use Rattle.openurl_reading.specs.Origins.{HasOrigin, version_of_openurl, encoding_of_readings, format_of_kind, source_in}
use Rattle.openurl_reading.proofs.Copied.{IsCopyOf, no_copy, one_copy}
use Rattle.openurl_reading.proofs.CoreCopied.{creator-is, type-is, titles-is}
use Rattle.openurl_reading.proofs.Each.{none_has, one_has, each_taken, each_of_key, each_filled, each_led}
use Rattle.openurl_reading.proofs.FieldsCopied.{number-is, identifier-is}
use Rattle.openurl_reading.proofs.Fillings.{each_filling}
use Rattle.openurl_reading.proofs.PartsSourced.{IsPlaced, each_parts}
use Rattle.openurl_reading.proofs.FoundAgain.{AreFoundAgain, issn_among_again, eissn_among_again, isbn_among_again}
use Rattle.openurl_reading.proofs.KeysSettle.{same_after}
use Rattle.openurl_reading.proofs.Origins.{number_keys, no_number}
use Rattle.openurl_reading.proofs.Origins.{GivesIssns, GivesIsbns, sent_gives_issns, sent_gives_isbns, issn_has, eissn_has, isbn_has}
use Rattle.openurl_reading.proofs.Origins.{dates_have, led_gives_issns, led_gives_isbns}
use Rattle.openurl_reading.proofs.Sent.{IsUnread, AreKept}
use Rattle.openurl_reading.proofs.Titled.{titlings-are}
use Rattle.openurl_reading.proofs.Values.{all_of-taken, all_of-taken-own}

abbrev pub HaveOrigin : List Text → List KeyValue → Type 0
HaveOrigin sent pairs = All (λ pair. HasOrigin sent pair.value) pairs

-- ---- a step whose values have an origin

step_has : (sent : List Text) (step : Step) (pairs : List KeyValue) → All (HasOrigin sent) (step.change pairs).values → HaveOrigin sent pairs
    → HaveOrigin sent (taken pairs step)
step_has sent step pairs values all = each_taken (λ pair. HasOrigin sent pair.value) step pairs values all

under_has : (sent : List Text) (pairs : List KeyValue) (key : Text) → HaveOrigin sent pairs → All (HasOrigin sent) (all_of pairs key)
under_has sent pairs key all = each_of_key (λ pair. HasOrigin sent pair.value) (HasOrigin sent) key (λ pair h has. has) pairs all

correction_has : (sent : List Text) (key value : Text) (pairs : List KeyValue) → HasOrigin sent value → HaveOrigin sent pairs
    → HaveOrigin sent (taken pairs (correction key value))
correction_has sent key value pairs has all = step_has sent (correction key value) pairs (by_test (is_other value (first_of pairs key))) all
  where
    by_test : (b : Bool) → All (HasOrigin sent) (cond b (replacing (value ∷ [])) unchanged).values
    by_test true = one_has (HasOrigin sent) value has
    by_test false = none_has (HasOrigin sent)

pub versions_have : (sent : List Text) (pairs : List KeyValue) → HaveOrigin sent pairs → HaveOrigin sent (after versions pairs)
versions_have sent pairs all =
    let first = taken pairs (correction (codes "ctx_ver") version) in
    correction_has sent (codes "ctx_enc") encoding (taken first (correction (codes "url_ver") version)) encoding_of_readings
    (correction_has sent (codes "url_ver") version first version_of_openurl
    (correction_has sent (codes "ctx_ver") version pairs version_of_openurl all))

pub copies_have : (sent : List Text) (keys : List OldKey) (pairs : List KeyValue) → HaveOrigin sent pairs → HaveOrigin sent (after (map copy keys) pairs)
copies_have sent [] pairs all = all
copies_have sent (key ∷ keys) pairs all =
    let values = all_of pairs key.old in
    copies_have sent keys (taken pairs (copy key))
    (step_has sent (copy key) pairs
    (each_filled (HasOrigin sent) (take most_values values) (all_of pairs key.new)
    (All-take (HasOrigin sent) most_values values (under_has sent pairs key.old all))) all)

pub copy_of_has : (sent : List Text) (old : Text) (pairs next : List KeyValue) → IsCopyOf old pairs next → HaveOrigin sent pairs → HaveOrigin sent next
copy_of_has sent old pairs next (no_copy same) all = subst (HaveOrigin sent) (sym same) all
copy_of_has sent old pairs next (one_copy new may one) all =
    subst (HaveOrigin sent) (sym one) (copies_have sent (record { old = old; new = new } ∷ []) pairs all)

pub fields_have : (sent : List Text) (pairs : List KeyValue) → HaveOrigin sent pairs → HaveOrigin sent (after fields pairs)
fields_have sent pairs all =
    let next = after number_fields pairs in
    copy_of_has sent (codes "identifier") next (after identifier_fields next) (identifier-is next)
    (copy_of_has sent (codes "number") pairs next (number-is pairs) all)

pub core_has : (sent : List Text) (pairs : List KeyValue) → let second = taken (taken pairs (copying is_core creator)) (copying is_typed core_type) in
    ((n : Text) → core_journal second ≡ Some n → HasOrigin sent n) → IsPlaced (HasOrigin sent) (taken second core_source)
    → HaveOrigin sent pairs → HaveOrigin sent (after core_steps pairs)
core_has sent pairs journal placed all =
    let first = taken pairs (copying is_core creator) in
    let second = taken first (copying is_typed core_type) in
    let third = taken second core_source in
    let fourth = after core_parts third in
    copy_of_has sent (codes "rft.title") fourth (after core_titles fourth) (titles-is fourth)
    (each_parts (λ pair. HasOrigin sent pair.value) (HasOrigin sent) (λ key v may has. has) third placed
    (each_filling (λ pair. HasOrigin sent pair.value) (codes "rft.jtitle") core_journal second journal
    (copy_of_has sent (codes "rft.type") first second (type-is first) (copy_of_has sent (codes "rft.creator") pairs first (creator-is pairs) all))))

pub titlings_have : (sent : List Text) (pairs : List KeyValue) → HaveOrigin sent pairs → HaveOrigin sent (after titlings pairs)
titlings_have sent pairs all =
    elim (titlings-are pairs) [
      | inl same ↦ subst (HaveOrigin sent) (sym same) all
      | inr one ↦ subst (HaveOrigin sent) (sym one) (copies_have sent (of_title (title_key (kind_of pairs)) ∷ []) pairs all)
    ]

pub format_has : (sent : List Text) (pairs : List KeyValue) → HaveOrigin sent pairs → HaveOrigin sent (taken pairs format_step)
format_has sent [] all = all
format_has sent (pair ∷ pairs) all =
    let kind = kind_of (pair ∷ pairs) in
    step_has sent format_step (pair ∷ pairs)
    (each_filled (HasOrigin sent) (format_of kind ∷ []) (all_of (pair ∷ pairs) (codes "rft_val_fmt"))
    (one_has (HasOrigin sent) (format_of kind) (format_of_kind kind))) all

referrer_has : (sent : List Text) (pairs : List KeyValue) → AreKept sent pairs → HaveOrigin sent pairs → HaveOrigin sent (taken pairs referrer_step)
referrer_has sent pairs is all =
    let sids = take 1 (all_of pairs (codes "sid")) in
    let known = All-take (Contains sent) 1 (all_of pairs (codes "sid")) (is (codes "sid") (refl, refl)) in
    step_has sent referrer_step pairs
    (each_filled (HasOrigin sent) (map referrer_of sids) (all_of pairs (codes "rfr_id"))
    (All-map (HasOrigin sent) referrer_of sids (λ k d h. source_in (get_or sids k d) (known k d h)))) all

date_values : (sent : List Text) (found first : Option Text) → ((n : Text) → found ≡ Some n → HasOrigin sent n)
    → All (HasOrigin sent) (led_or_none found first).values
date_values sent None first h = none_has (HasOrigin sent)
date_values sent (Some d) first h = each_led (HasOrigin sent) (Some d) first h

-- ---- what the steps after the old keys read

-- the values of keys are those of the request, or numbers that were found in them
pub record Reads (sent : List Text) (pairs : List KeyValue) : Type 0 where
  pub issns : All (GivesIssns sent) (all_of pairs (codes "rft.issn"))
  pub eissns : All (GivesIssns sent) (all_of pairs (codes "rft.eissn"))
  pub isbns : All (GivesIsbns sent) (all_of pairs (codes "rft.isbn"))
  pub eisbns : All (GivesIsbns sent) (all_of pairs (codes "rft.eisbn"))
  pub all : HaveOrigin sent pairs

pub give_issns : (sent values : List Text) → All (Contains sent) values → All (GivesIssns sent) values
give_issns sent values all k d h = sent_gives_issns sent (get_or values k d) (all k d h)

pub give_isbns : (sent values : List Text) → All (Contains sent) values → All (GivesIsbns sent) values
give_isbns sent values all k d h = sent_gives_isbns sent (get_or values k d) (all k d h)

-- a step of another key leaves what is read under a key
kept_under : (P : Text → Type 0) (step : Step) (pairs : List KeyValue) (key : Text) → bytes_eq step.key key ≡ false → All P (all_of pairs key)
    → All P (all_of (taken pairs step) key)
kept_under P step pairs key h all = subst (All P) (sym (all_of-taken step pairs key h)) all

-- what is read after a step, if it is known of the keys of numbers that steps write
step_reads : (sent : List Text) (step : Step) (pairs : List KeyValue) → bytes_eq step.key (codes "rft.eisbn") ≡ false
    → All (HasOrigin sent) (step.change pairs).values → Reads sent pairs → All (GivesIssns sent) (all_of (taken pairs step) (codes "rft.issn"))
    → All (GivesIssns sent) (all_of (taken pairs step) (codes "rft.eissn")) → All (GivesIsbns sent) (all_of (taken pairs step) (codes "rft.isbn"))
    → Reads sent (taken pairs step)
step_reads sent step pairs apart values reads issns eissns isbns = record {
  issns = issns;
  eissns = eissns;
  isbns = isbns;
  eisbns = kept_under (GivesIsbns sent) step pairs (codes "rft.eisbn") apart reads.eisbns;
  all = step_has sent step pairs values reads.all;
}

pub referrer_reads : (sent : List Text) (pairs : List KeyValue) → AreKept sent pairs → All (GivesIssns sent) (all_of pairs (codes "rft.issn"))
    → All (GivesIsbns sent) (all_of pairs (codes "rft.isbn")) → HaveOrigin sent pairs → Reads sent (taken pairs referrer_step)
referrer_reads sent pairs is issns isbns all =
    let under : (key : Text) → IsUnread key → All (Contains sent) (all_of pairs key) = λ key other. is key other in
    record {
      issns = kept_under (GivesIssns sent) referrer_step pairs (codes "rft.issn") refl issns;
      eissns = kept_under (GivesIssns sent) referrer_step pairs (codes "rft.eissn") refl
          (give_issns sent _ (under (codes "rft.eissn") (refl, refl)));
      isbns = kept_under (GivesIsbns sent) referrer_step pairs (codes "rft.isbn") refl isbns;
      eisbns = kept_under (GivesIsbns sent) referrer_step pairs (codes "rft.eisbn") refl
          (give_isbns sent _ (under (codes "rft.eisbn") (refl, refl)));
      all = referrer_has sent pairs is all;
    }

pub issn_reads : AreFoundAgain → (sent : List Text) (pairs : List KeyValue) → Reads sent pairs → Reads sent (taken pairs issn_step)
issn_reads laws sent pairs reads =
    let values = all_of pairs (codes "rft.issn") in
    let first = first_of pairs (codes "rft.issn") in
    let found = issn_has sent values reads.issns in
    step_reads sent issn_step pairs refl (each_led (HasOrigin sent) (first_issn pairs) first found) reads
    (subst (All (GivesIssns sent)) (sym (all_of-taken-own issn_step pairs))
    (led_gives_issns sent (first_issn pairs) first values found (issn_among_again laws values) reads.issns))
    (kept_under (GivesIssns sent) issn_step pairs (codes "rft.eissn") refl reads.eissns)
    (kept_under (GivesIsbns sent) issn_step pairs (codes "rft.isbn") refl reads.isbns)

pub eissn_reads : AreFoundAgain → (sent : List Text) (pairs : List KeyValue) → Reads sent pairs → Reads sent (taken pairs eissn_step)
eissn_reads laws sent pairs reads =
    let issns = all_of pairs (codes "rft.issn") in
    let values = all_of pairs (codes "rft.eissn") in
    let first = first_of pairs (codes "rft.eissn") in
    let found = eissn_has sent issns values reads.issns reads.eissns in
    step_reads sent eissn_step pairs refl (each_led (HasOrigin sent) (first_eissn pairs) first found) reads
    (kept_under (GivesIssns sent) eissn_step pairs (codes "rft.issn") refl reads.issns)
    (subst (All (GivesIssns sent)) (sym (all_of-taken-own eissn_step pairs))
    (led_gives_issns sent (first_eissn pairs) first values found (eissn_among_again laws issns values) reads.eissns))
    (kept_under (GivesIsbns sent) eissn_step pairs (codes "rft.isbn") refl reads.isbns)

pub isbn_reads : AreFoundAgain → (sent : List Text) (pairs : List KeyValue) → Reads sent pairs → Reads sent (taken pairs isbn_step)
isbn_reads laws sent pairs reads =
    let others = all_of pairs (codes "rft.eisbn") in
    let values = all_of pairs (codes "rft.isbn") in
    let first = first_of pairs (codes "rft.isbn") in
    let found = isbn_has sent others values reads.eisbns reads.isbns in
    step_reads sent isbn_step pairs refl (each_led (HasOrigin sent) (first_isbn pairs) first found) reads
    (kept_under (GivesIssns sent) isbn_step pairs (codes "rft.issn") refl reads.issns)
    (kept_under (GivesIssns sent) isbn_step pairs (codes "rft.eissn") refl reads.eissns)
    (subst (All (GivesIsbns sent)) (sym (all_of-taken-own isbn_step pairs))
    (led_gives_isbns sent (first_isbn pairs) first values found (isbn_among_again laws others values) reads.isbns))

-- the values of dates, before the numbers
pub dates_under : (sent : List Text) (copied : List KeyValue) → AreKept sent copied
    → let pairs = after (referrer_step ∷ issn_step ∷ eissn_step ∷ isbn_step ∷ []) copied in
    (n : Text) → first_date date_keys pairs ≡ Some n → HasOrigin sent n
dates_under sent copied is =
    let steps = referrer_step ∷ issn_step ∷ eissn_step ∷ isbn_step ∷ [] in
    let under : (key : Text) → IsUnread key → list_all (λ step. not (bytes_eq step.key key)) steps ≡ true
    → All (Contains sent) (all_of (after steps copied) key) =
    λ key other h. subst (All (Contains sent)) (sym (same_after steps copied key h)) (is key other) in
    dates_have sent _ _ _ _ (under (codes "rft.date") (refl, refl) refl) (under (codes "rft.year") (refl, refl) refl)
    (under (codes "date") (refl, refl) refl) (under (codes "year") (refl, refl) refl)

-- a step of another key
pub other_reads : (sent : List Text) (step : Step) (pairs : List KeyValue) → All (λ key. bytes_eq step.key key ≡ false) number_keys
    → All (HasOrigin sent) (step.change pairs).values → Reads sent pairs → Reads sent (taken pairs step)
other_reads sent step pairs apart values reads =
    step_reads sent step pairs (apart 3 [] (lit< tt)) values reads
    (kept_under (GivesIssns sent) step pairs (codes "rft.issn") (apart 0 [] (lit< tt)) reads.issns)
    (kept_under (GivesIssns sent) step pairs (codes "rft.eissn") (apart 1 [] (lit< tt)) reads.eissns)
    (kept_under (GivesIsbns sent) step pairs (codes "rft.isbn") (apart 2 [] (lit< tt)) reads.isbns)

pub date_reads : (sent : List Text) (pairs : List KeyValue) → ((n : Text) → first_date date_keys pairs ≡ Some n → HasOrigin sent n) → Reads sent pairs
    → Reads sent (taken pairs date_step)
date_reads sent pairs found reads =
    other_reads sent date_step pairs (no_number (codes "rft.date") refl)
    (date_values sent (first_date date_keys pairs) (first_of pairs (codes "rft.date")) found) reads
