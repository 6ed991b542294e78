-- After all steps, no step changes anything: each has done its work, and the later ones do not undo it.
use Rattle.std.proofs.Common.{◌≡◌, List, [], ◌∷◌, true, not, refl, sym, ap, ◌∙◌, subst, take, map}
use Rattle.std.specs.Prelude.{codes, slice_get}
use Rattle.std.specs.List.{All, list_all}
use Rattle.std.specs.Str.{bytes_eq}
use Rattle.std.proofs.lemmas.List.Elements.{All-tail}
use Rattle.text_model.specs.Texts.{Text}
use Rattle.kev_read.specs.Pairs.{KeyValue, all_of, first_of}
use Rattle.openurl_reading.specs.Steps.{unchanged, taken, after}
use Rattle.openurl_reading.specs.Values.{led, searched}
use Rattle.openurl_reading.specs.Versions.{version, encoding, correction}
use Rattle.openurl_reading.specs.Fields.{fields}
use Rattle.openurl_reading.specs.OldKeys.{old_keys, copied, copies}
use Rattle.openurl_reading.specs.Citations.{citing_steps}
use Rattle.openurl_reading.specs.Texts.{text_steps}
use Rattle.openurl_reading.specs.Referrers.{referrer_of, referrer_step, referred}
use Rattle.openurl_reading.specs.Numbers.{first_issn, first_eissn, first_isbn, eissn_among, issn_step, eissn_step, isbn_step}
use Rattle.openurl_reading.specs.Dates.{date_keys, first_date, led_or_none, date_step}
use Rattle.openurl_reading.specs.ArticleNumbers.{article_in}
use Rattle.openurl_reading.specs.Identifiers.{namings}
use Rattle.openurl_reading.specs.Pages.{last_among, first_page, last_page, first_page_step, last_page_step, page_steps}
use Rattle.openurl_reading.specs.Volumes.{added_issue_step, volume_step, issue_step, volume_steps}
use Rattle.openurl_reading.specs.Reading.{normal_form}
use Rattle.openurl_reading.proofs.Firsts.{of_first}
use Rattle.openurl_reading.proofs.DateLed.{rest_of, IsSettledAmong, date_settles, found_again}
use Rattle.openurl_reading.proofs.CitingSteps.{citing_settles}
use Rattle.openurl_reading.proofs.FieldsCopied.{fields_settle}
use Rattle.openurl_reading.proofs.Filled.{KeepsKey, filled_unchanged, fill-fills, all_keep_filled}
use Rattle.openurl_reading.proofs.FoundAgain.{AreFoundAgain, issn_among, issn_again, further_among, eissn_again, isbn_among, isbn_again}
use Rattle.openurl_reading.proofs.Identified.{AreIdentified}
use Rattle.openurl_reading.proofs.KindsSettle.{kinds_settle}
use Rattle.openurl_reading.proofs.KeysSettle.{apart, same_after, correction_settles, first_referrer, referral, led_keep, copies_settle}
use Rattle.openurl_reading.proofs.Led.{led_settles}
use Rattle.openurl_reading.proofs.NamedPreprints.{works_named}
use Rattle.openurl_reading.proofs.PagesLed.{ArePagesAgain, first_of_values, end_of_values, first_again, same_leading, last_settles}
use Rattle.openurl_reading.proofs.Settled.{AreVolumesSettled, IsSettled, IsDateSettled, settled_stays}
use Rattle.openurl_reading.proofs.Stages.{after_dates, after_volumes, kind_steps, led_steps, last_steps, with_versions, with_fields, last-is}
use Rattle.openurl_reading.proofs.Stages.{normal_form-led}
use Rattle.openurl_reading.proofs.TextsRead.{AreReadOnce, texts_settle}
use Rattle.openurl_reading.proofs.Values.{values_after, all_of-taken, all_of-taken-own}
use Rattle.openurl_reading.proofs.VolumesFound.{AreNumbersAgain}
use Rattle.openurl_reading.proofs.VolumesLed.{with_added, with_volume, with_issue, volumes_settle}

referrer_settles : (before : List KeyValue) → referred (after led_steps before) ≡ unchanged
referrer_settles before =
    let f : List Text → List Text = λ sids. map referrer_of (take 1 sids) in
    let rest = issn_step ∷ eissn_step ∷ isbn_step ∷ date_step ∷ after_dates in
    filled_unchanged f referral (after led_steps before) refl
    (all_keep_filled referral rest (taken before referrer_step) (apart rest (codes "sid") refl)
    (All-tail (KeepsKey (codes "rfr_id")) referrer_step rest (led_keep (codes "rfr_id") refl)) (fill-fills f referral before first_referrer refl))

issn_settles : AreFoundAgain → (before : List KeyValue) → let now = after (issn_step ∷ eissn_step ∷ isbn_step ∷ date_step ∷ after_dates) before in
    led (first_issn now) (first_of now (codes "rft.issn")) ≡ unchanged
issn_settles laws before =
    let key = codes "rft.issn" in
    let values = all_of before key in
    subst (λ vs. led (issn_among vs) (slice_get vs 0) ≡ unchanged)
    (sym (same_after (eissn_step ∷ isbn_step ∷ date_step ∷ after_dates) (taken before issn_step) key refl ∙ all_of-taken-own issn_step before))
    (led_settles issn_among values (issn_again laws values))

eissn_settles : AreFoundAgain → (before : List KeyValue) → let now = after (eissn_step ∷ isbn_step ∷ date_step ∷ after_dates) before in
    led (first_eissn now) (first_of now (codes "rft.eissn")) ≡ unchanged
eissn_settles laws before =
    let key = codes "rft.eissn" in
    let values = all_of before key in
    let issns = all_of before (codes "rft.issn") in
    let now = after (eissn_step ∷ isbn_step ∷ date_step ∷ after_dates) before in
    subst (λ others. led (eissn_among (all_of now key) (further_among others)) (slice_get (all_of now key) 0) ≡ unchanged)
    (sym (same_after (eissn_step ∷ isbn_step ∷ date_step ∷ after_dates) before (codes "rft.issn") refl))
    (subst (λ vs. led (eissn_among vs (further_among issns)) (slice_get vs 0) ≡ unchanged)
    (sym (same_after (isbn_step ∷ date_step ∷ after_dates) (taken before eissn_step) key refl ∙ all_of-taken-own eissn_step before))
    (led_settles (λ vs. eissn_among vs (further_among issns)) values (eissn_again laws issns values)))

isbn_settles : AreFoundAgain → (before : List KeyValue) → let now = after (isbn_step ∷ date_step ∷ after_dates) before in
    led (first_isbn now) (first_of now (codes "rft.isbn")) ≡ unchanged
isbn_settles laws before =
    let key = codes "rft.isbn" in
    let values = all_of before key in
    let others = all_of before (codes "rft.eisbn") in
    let now = after (isbn_step ∷ date_step ∷ after_dates) before in
    subst (λ others'. led (isbn_among others' (all_of now key)) (slice_get (all_of now key) 0) ≡ unchanged)
    (sym (same_after (isbn_step ∷ date_step ∷ after_dates) before (codes "rft.eisbn") refl))
    (subst (λ vs. led (isbn_among others vs) (slice_get vs 0) ≡ unchanged)
    (sym (same_after (date_step ∷ after_dates) (taken before isbn_step) key refl ∙ all_of-taken-own isbn_step before))
    (led_settles (isbn_among others) values (isbn_again laws others values)))

same_rest : (y y' d d' o o' : List Text) → y ≡ y' → d ≡ d' → o ≡ o' → rest_of y d o ≡ rest_of y' d' o'
same_rest y y' d d' o o' a b c = rw (a, b, c) refl

date_is_settled : AreFoundAgain → (before : List KeyValue) → let now = after (date_step ∷ after_dates) before in
    IsDateSettled (led_or_none (first_date date_keys now) (first_of now (codes "rft.date"))) (all_of now (codes "rft.date"))
date_is_settled laws before =
    let steps = date_step ∷ after_dates in
    let now = after steps before in
    let values = all_of before (codes "rft.date") in
    let rest = rest_of (all_of before (codes "rft.year")) (all_of before (codes "date")) (all_of before (codes "year")) in
    let same = same_rest _ _ _ _ _ _ (same_after steps before (codes "rft.year") refl)
    (same_after steps before (codes "date") refl) (same_after steps before (codes "year") refl) in
    subst (λ rest'. IsSettledAmong rest' (all_of now (codes "rft.date"))) (sym same)
    (subst (IsSettledAmong rest) (sym (same_after after_dates (taken before date_step) (codes "rft.date") refl ∙ all_of-taken-own date_step before))
    (date_settles rest values (found_again (λ value d h. laws.dates (searched value) d h) before)))

-- the volume and the issue, after the three steps
volumes_are_settled : AreNumbersAgain → (before : List KeyValue) → let now = after after_dates before in
    AreVolumesSettled (all_of now (codes "rft.issue")) (all_of now (codes "rft.volume"))
volumes_are_settled numbers before =
    let issues = all_of before (codes "rft.issue") in
    let volumes = all_of before (codes "rft.volume") in
    let first = taken before added_issue_step in
    let second = taken first volume_step in
    let third = taken second issue_step in
    let now = after after_dates before in
    let added = with_added issues volumes in
    let known = with_volume added volumes in
    let one : all_of first (codes "rft.issue") ≡ added = all_of-taken-own added_issue_step before in
    let two : all_of second (codes "rft.volume") ≡ known =
    all_of-taken-own volume_step first
    ∙ ap (λ vs. with_volume (all_of first (codes "rft.issue")) vs) (all_of-taken added_issue_step before (codes "rft.volume") refl)
    ∙ ap (λ is. with_volume is volumes) one in
    let three : all_of third (codes "rft.issue") ≡ with_issue added known =
    all_of-taken-own issue_step second
    ∙ ap (λ is. with_issue is (all_of second (codes "rft.volume"))) (all_of-taken volume_step first (codes "rft.issue") refl ∙ one)
    ∙ ap (with_issue added) two in
    subst (λ is. AreVolumesSettled is (all_of now (codes "rft.volume"))) (sym (same_after after_volumes third (codes "rft.issue") refl ∙ three))
    (subst (AreVolumesSettled (with_issue added known))
    (sym (same_after (issue_step ∷ after_volumes) second (codes "rft.volume") refl ∙ two))
    (volumes_settle numbers issues volumes))

-- the last page, which does not depend on the first one any more
last_page_settles : ArePagesAgain → (before : List KeyValue) → let now = after after_volumes before in
    led (last_page now) (first_of now (codes "rft.epage")) ≡ unchanged
last_page_settles again before =
    let values = all_of before (codes "rft.epage") in
    let pages = all_of before (codes "rft.pages") in
    let firsts = all_of before (codes "rft.spage") in
    let number = of_first article_in (all_of before (codes "rft.artnum")) in
    let next = taken before last_page_step in
    let now = after after_volumes before in
    let led_values = values_after (led (last_among values (end_of_values number firsts)) (slice_get values 0)) values in
    let own : all_of now (codes "rft.epage") ≡ led_values =
    same_after (first_page_step ∷ namings) next (codes "rft.epage") refl ∙ all_of-taken-own last_page_step before in
    let others : all_of now (codes "rft.spage") ≡ values_after (led (first_of_values number pages firsts) (slice_get firsts 0)) firsts =
    same_after namings (taken next first_page_step) (codes "rft.spage") refl ∙ all_of-taken-own first_page_step next
    ∙ same_leading number (of_first article_in (all_of next (codes "rft.artnum"))) pages firsts (all_of next (codes "rft.pages"))
    (all_of next (codes "rft.spage"))
    (ap (of_first article_in) (all_of-taken last_page_step before (codes "rft.artnum") refl))
    (all_of-taken last_page_step before (codes "rft.pages") refl) (all_of-taken last_page_step before (codes "rft.spage") refl) in
    let numbers : all_of now (codes "rft.artnum") ≡ all_of before (codes "rft.artnum") = same_after after_volumes before (codes "rft.artnum") refl in
    subst (λ ns. led (last_among (all_of now (codes "rft.epage")) (end_of_values (of_first article_in ns) (all_of now (codes "rft.spage"))))
    (slice_get (all_of now (codes "rft.epage")) 0) ≡ unchanged) (sym numbers)
    (subst (λ vs. led (last_among vs (end_of_values number (all_of now (codes "rft.spage")))) (slice_get vs 0) ≡ unchanged) (sym own)
    (subst (λ vs. led (last_among led_values (end_of_values number vs)) (slice_get led_values 0) ≡ unchanged) (sym others)
    (last_settles again number pages firsts values)))

first_page_settles : ArePagesAgain → (before : List KeyValue) → let now = after (first_page_step ∷ namings) before in
    led (first_page now) (first_of now (codes "rft.spage")) ≡ unchanged
first_page_settles again before =
    let key = codes "rft.spage" in
    let steps = first_page_step ∷ namings in
    let values = all_of before key in
    let pages = all_of before (codes "rft.pages") in
    let number = of_first article_in (all_of before (codes "rft.artnum")) in
    let now = after steps before in
    subst (λ ns. led (first_of_values (of_first article_in ns) (all_of now (codes "rft.pages")) (all_of now key)) (slice_get (all_of now key) 0) ≡ unchanged)
    (sym (same_after steps before (codes "rft.artnum") refl))
    (subst (λ pages'. led (first_of_values number pages' (all_of now key)) (slice_get (all_of now key) 0) ≡ unchanged)
    (sym (same_after steps before (codes "rft.pages") refl))
    (subst (λ vs. led (first_of_values number pages vs) (slice_get vs 0) ≡ unchanged)
    (sym (same_after namings (taken before first_page_step) key refl ∙ all_of-taken-own first_page_step before))
    (led_settles (first_of_values number pages) values (first_again again number pages values))))

settled_stages : AreReadOnce → AreFoundAgain → AreNumbersAgain → ArePagesAgain → AreIdentified → (pairs : List KeyValue)
    → IsSettled (after led_steps (after text_steps (after citing_steps (after kind_steps (after copies (with_fields pairs))))))
settled_stages texts_once laws numbers pages identified pairs =
    let first = taken pairs (correction (codes "ctx_ver") version) in
    let stated = taken first (correction (codes "url_ver") version) in
    let second = with_versions pairs in
    let third = with_fields pairs in
    let copied_all = after copies third in
    let kinds = after kind_steps copied_all in
    let cited = after citing_steps kinds in
    let texts = after text_steps cited in
    let named = taken texts referrer_step in
    let issns = taken named issn_step in
    let eissns = taken issns eissn_step in
    let isbns = taken eissns isbn_step in
    let dates = taken isbns date_step in
    let placed = after volume_steps dates in
    let now = after led_steps texts in
    let last : after last_steps kinds ≡ now = last-is kinds in
    let later : (key : Text) → list_all (λ step. not (bytes_eq step.key key)) led_steps ≡ true
    → list_all (λ step. not (bytes_eq step.key key)) text_steps ≡ true → list_all (λ step. not (bytes_eq step.key key)) citing_steps ≡ true
    → list_all (λ step. not (bytes_eq step.key key)) kind_steps ≡ true
    → list_all (λ step. not (bytes_eq step.key key)) copies ≡ true → list_all (λ step. not (bytes_eq step.key key)) fields ≡ true
    → all_of now key ≡ all_of second key =
    λ key a b f c d e. same_after led_steps texts key a ∙ same_after text_steps cited key b ∙ same_after citing_steps kinds key f
    ∙ same_after kind_steps copied_all key c
    ∙ same_after copies third key d ∙ same_after fields second key e in
    record {
      context = correction_settles (codes "ctx_ver") version pairs now
          (later (codes "ctx_ver") refl refl refl refl refl refl
          ∙ same_after (correction (codes "url_ver") version ∷ correction (codes "ctx_enc") encoding ∷ []) first (codes "ctx_ver") refl);
      transport = correction_settles (codes "url_ver") version first now
          (later (codes "url_ver") refl refl refl refl refl refl
          ∙ same_after (correction (codes "ctx_enc") encoding ∷ []) stated (codes "url_ver") refl);
      encoding = correction_settles (codes "ctx_enc") encoding stated now (later (codes "ctx_enc") refl refl refl refl refl refl);
      fields = subst (λ p. All (λ step. step.change p ≡ unchanged) fields) last (fields_settle second);
      copies = subst (λ p. All (λ key. copied key p ≡ unchanged) old_keys) last (copies_settle third);
      kinds = subst (λ p. All (λ step. step.change p ≡ unchanged) kind_steps) last (kinds_settle laws identified copied_all);
      cited = citing_settles texts_once kinds;
      texts = texts_settle texts_once cited;
      referrer = referrer_settles texts;
      issn = issn_settles laws named;
      eissn = eissn_settles laws issns;
      isbn = isbn_settles laws eissns;
      date = date_is_settled laws isbns;
      volumes = volumes_are_settled numbers dates;
      last_page = last_page_settles pages placed;
      first_page = first_page_settles pages (taken placed last_page_step);
      works = works_named identified (after page_steps placed);
    }

pub read_once : AreReadOnce → AreFoundAgain → AreNumbersAgain → ArePagesAgain → AreIdentified → (pairs : List KeyValue)
    → normal_form (normal_form pairs) ≡ normal_form pairs
read_once texts_once laws numbers pages identified pairs =
    settled_stays (normal_form pairs) (subst IsSettled (sym (normal_form-led pairs)) (settled_stages texts_once laws numbers pages identified pairs))
