-- Each value of a reading has an origin.
use Rattle.std.proofs.Common.{◌≡◌, List, [], ◌∷◌, ◌++◌, true, not, Option, Some, None, refl, sym, subst, get_or, lit<}
use Rattle.std.specs.Prelude.{codes, Contains, option_and_then}
use Rattle.std.specs.List.{All, list_all}
use Rattle.std.specs.Str.{bytes_eq}
use Rattle.std.proofs.lemmas.Bool.{not-true}
use Rattle.std.proofs.lemmas.List.Sums.{AllPass-from_list_all}
use Rattle.std.proofs.lemmas.List.Elements.{All-append}
use Rattle.text_model.specs.Texts.{Text}
use Rattle.kev_read.specs.Pairs.{KeyValue, all_of, first_of}
use Rattle.openurl_reading.specs.Counting.{counting}
use Rattle.openurl_reading.specs.Keys.{is_one_of}
use Rattle.openurl_reading.specs.Steps.{taken, after}
use Rattle.openurl_reading.specs.OldKeys.{old_keys, copies, copying}
use Rattle.openurl_reading.specs.IdentifiedNumbers.{identified_step, identified_steps}
use Rattle.openurl_reading.specs.DublinCore.{is_core, creator, is_typed, core_type, core_journal, core_source, core_steps}
use Rattle.openurl_reading.specs.Titles.{titlings}
use Rattle.openurl_reading.specs.Citations.{citing_steps}
use Rattle.openurl_reading.specs.Texts.{title_texts, text_steps}
use Rattle.openurl_reading.specs.Referrers.{referrer_step}
use Rattle.openurl_reading.specs.Numbers.{first_number, issn_step, eissn_step, isbn_step}
use Rattle.openurl_reading.specs.Dates.{date_step}
use Rattle.work_identifiers.specs.declared.namespace.Namespace.{Namespace}
use Rattle.work_identifiers.specs.declared.namespace.Namespace.TheVariants.{Doi, Pmid, Oclc, Pmc, Arxiv}
use Rattle.work_identifiers.specs.declared.numbers.StandardNumber.TheVariants.{Issn, Isbn}
use Rattle.openurl_reading.specs.Identifiers.{first_under, nameable, naming, namings}
use Rattle.openurl_reading.specs.EncodedDois.{encoded_doi}
use Rattle.work_identifiers.specs.Uris.{uri_of}
use Rattle.openurl_reading.proofs.FoundAre.{IsAll}
use Rattle.openurl_reading.specs.ArticleNumbers.{article_in}
use Rattle.openurl_reading.specs.Pages.{first_page, last_page, first_page_step, last_page_step, page_steps}
use Rattle.openurl_reading.specs.Volumes.{added_issue, volume, issue, added_issue_step, volume_step, issue_step, volume_steps}
use Rattle.openurl_reading.specs.Reading.{normal_form, issns_of, derived, with_derived}
use Rattle.openurl_reading.specs.Origins.{IsTextOf, HasOrigin, from_request, encoding_of_doi, all_values, read_values, sourced_values}
use Rattle.openurl_reading.proofs.Additions.{AreDaysAll, derived_values}
use Rattle.openurl_reading.proofs.Apart.{apart}
use Rattle.openurl_reading.proofs.CitedParts.{more_values, cited_sent, cited_have}
use Rattle.openurl_reading.proofs.DaysLed.{days_have}
use Rattle.openurl_reading.proofs.Each.{each_led, each_named}
use Rattle.openurl_reading.proofs.Firsts.{of_first}
use Rattle.openurl_reading.proofs.FoundAgain.{AreFoundAgain, first_has}
use Rattle.openurl_reading.proofs.Identified.{IsPlain, AreIdentified}
use Rattle.openurl_reading.proofs.IdentifierOrigins.{uri_has_origin, AreRead, IsApart, identifiers_under, nameable_read, naming_read}
use Rattle.openurl_reading.proofs.PreprintOrigins.{HaveOrigins, preprint_origins, doi_origins, first_origin, referent_origin}
use Rattle.openurl_reading.proofs.KeysSettle.{same_after}
use Rattle.openurl_reading.proofs.IdentifiedOrigins.{issns_give, isbns_give, identified_have}
use Rattle.openurl_reading.proofs.Origins.{GivesIssns, GivesIsbns, no_number, isbn_has}
use Rattle.openurl_reading.proofs.Origins.{GivesPage, page_keys, first_page_has, last_page_has, issns_have, second_has}
use Rattle.openurl_reading.proofs.PartsSourced.{IsPlaced, place_map}
use Rattle.openurl_reading.proofs.Sent.{constant_keys, IsUnread, AreKept, counting_values, copied_sent, stated_sent, identified_sent, kind_sent}
use Rattle.openurl_reading.proofs.Sent.{source_more, journal_sent, parts_sent, typed_sent}
use Rattle.openurl_reading.proofs.Stages.{kind_steps, titled_steps, led_steps, with_versions, with_fields, normal_form-led}
use Rattle.openurl_reading.proofs.TextOrigins.{texts_kept, texts_have, titles_give, pages_give}
use Rattle.openurl_reading.proofs.VolumesFound.{AreNumbersAgain}
use Rattle.openurl_reading.proofs.VolumeOrigins.{GivesIssues, issues_give, added_has, volume_has, issue_has}
use Rattle.openurl_reading.proofs.Values.{all_of-taken, all_of-taken-own}
use Rattle.openurl_reading.proofs.ReadValues.{HaveOrigin, versions_have, copies_have, fields_have, core_has, titlings_have, format_has}
use Rattle.openurl_reading.proofs.ReadValues.{Reads, other_reads, referrer_reads, issn_reads}
use Rattle.openurl_reading.proofs.ReadValues.{eissn_reads, isbn_reads, dates_under, date_reads}

-- ---- volume and issue

-- the values of volume and issue, before their steps
sent_before : (sent : List Text) (copied : List KeyValue) → AreKept sent copied → (key : Text) → IsUnread key
    → let steps = referrer_step ∷ issn_step ∷ eissn_step ∷ isbn_step ∷ date_step ∷ [] in
    list_all (λ step. not (bytes_eq step.key key)) steps ≡ true → All (Contains sent) (all_of (after steps copied) key)
sent_before sent copied is key other h =
    let steps = referrer_step ∷ issn_step ∷ eissn_step ∷ isbn_step ∷ date_step ∷ [] in
    subst (All (Contains sent)) (sym (same_after steps copied key h)) (is key other)

volumes_read : AreNumbersAgain → (sent : List Text) (pairs : List KeyValue) → All (Contains sent) (all_of pairs (codes "rft.volume"))
    → All (Contains sent) (all_of pairs (codes "rft.issue")) → Reads sent pairs → Reads sent (after volume_steps pairs)
volumes_read numbers sent pairs vs is reads =
    let issues = all_of pairs (codes "rft.issue") in
    let volumes = all_of pairs (codes "rft.volume") in
    let first = taken pairs added_issue_step in
    let second = taken first volume_step in
    let give : All (GivesIssues sent) (all_of first (codes "rft.issue")) =
    subst (All (GivesIssues sent)) (sym (all_of-taken-own added_issue_step pairs)) (issues_give numbers sent issues volumes is vs) in
    let vs' = subst (All (Contains sent)) (sym (all_of-taken added_issue_step pairs (codes "rft.volume") refl)) vs in
    let give' = subst (All (GivesIssues sent)) (sym (all_of-taken volume_step first (codes "rft.issue") refl)) give in
    other_reads sent issue_step second (no_number (codes "rft.issue") refl)
    (each_led (HasOrigin sent) (issue second) (first_of second (codes "rft.issue"))
    (issue_has sent (all_of second (codes "rft.issue")) (first_of second (codes "rft.volume")) give'))
    (other_reads sent volume_step first (no_number (codes "rft.volume") refl)
    (each_led (HasOrigin sent) (volume first) (first_of first (codes "rft.volume"))
    (volume_has sent (all_of first (codes "rft.issue")) (all_of first (codes "rft.volume")) give vs'))
    (other_reads sent added_issue_step pairs (no_number (codes "rft.issue") refl)
    (each_led (HasOrigin sent) (added_issue pairs) (first_of pairs (codes "rft.issue")) (added_has sent issues volumes vs)) reads))

-- ---- pages

-- the values of pages, before the steps of pages
pages_under : (sent : List Text) (copied : List KeyValue) → AreKept sent copied
    → let pairs = after (referrer_step ∷ issn_step ∷ eissn_step ∷ isbn_step ∷ date_step ∷ volume_steps) copied in
    All (λ key. All (Contains sent) (all_of pairs key)) page_keys
pages_under sent copied is =
    let steps = referrer_step ∷ issn_step ∷ eissn_step ∷ isbn_step ∷ date_step ∷ volume_steps in
    λ k d h. let key = get_or page_keys k d in
    subst (All (Contains sent)) (sym (same_after steps copied key (AllPass-from_list_all (λ key. list_all (λ step. not (bytes_eq step.key key)) steps)
    page_keys refl k d h)))
    (is key (
      not-true _ (AllPass-from_list_all (λ key. not (is_one_of constant_keys key)) page_keys refl k d h),
      AllPass-from_list_all (λ key. list_all (λ step. not (bytes_eq step.key key)) text_steps) page_keys refl k d h,
    ))

pages_read : (sent : List Text) (pairs : List KeyValue) → All (λ key. All (Contains sent) (all_of pairs key)) page_keys
    → All (GivesPage sent) (all_of pairs (codes "rft.pages")) → Reads sent pairs → Reads sent (after page_steps pairs)
pages_read sent pairs all pages reads =
    let next = taken pairs last_page_step in
    let firsts = all 0 [] (lit< tt) in
    let lasts = all 1 [] (lit< tt) in
    let numbers = all 2 [] (lit< tt) in
    let firsts' = subst (All (Contains sent)) (sym (all_of-taken last_page_step pairs (codes "rft.spage") refl)) firsts in
    let pages' = subst (All (GivesPage sent)) (sym (all_of-taken last_page_step pairs (codes "rft.pages") refl)) pages in
    let numbers' = subst (All (Contains sent)) (sym (all_of-taken last_page_step pairs (codes "rft.artnum") refl)) numbers in
    other_reads sent first_page_step next (no_number (codes "rft.spage") refl)
    (each_led (HasOrigin sent) (first_page next) (first_of next (codes "rft.spage"))
    (first_page_has sent (all_of next (codes "rft.spage")) (all_of next (codes "rft.pages")) (all_of next (codes "rft.artnum")) firsts' pages' numbers'))
    (other_reads sent last_page_step pairs (no_number (codes "rft.epage") refl)
    (each_led (HasOrigin sent) (last_page pairs) (first_of pairs (codes "rft.epage"))
    (last_page_has sent (all_of pairs (codes "rft.spage")) (all_of pairs (codes "rft.epage"))
    (of_first article_in (all_of pairs (codes "rft.artnum"))) firsts lasts)) reads)

-- ---- identifiers

naming_reads : (sent : List Text) (namespace : Namespace) (pairs : List KeyValue)
    → IsAll (λ n. HasOrigin sent (uri_of namespace n)) (nameable namespace pairs) → Reads sent pairs → Reads sent (taken pairs (naming namespace))
naming_reads sent namespace pairs read reads =
    other_reads sent (naming namespace) pairs (no_number (codes "rft_id") refl)
    (each_named (HasOrigin sent) namespace (nameable namespace pairs) (all_of pairs (codes "rft_id")) read) reads

-- what the derived keys are read from, before the steps of DOIs and of arXiv, and after them
record ReadAll (sent : List Text) (pairs : List KeyValue) : Type 0 where
  numbers : Reads sent pairs
  identifiers : AreRead sent pairs

record HaveAll (sent : List Text) (pairs : List KeyValue) : Type 0 where
  numbers : Reads sent pairs
  identifiers : HaveOrigins sent pairs

apart_reads : AreIdentified → (sent : List Text) (namespace : Namespace) → IsApart namespace → (pairs : List KeyValue) → ReadAll sent pairs
    → ReadAll sent (taken pairs (naming namespace))
apart_reads identified sent namespace apart pairs reads = record {
  numbers =
      naming_reads sent namespace pairs (λ n e. uri_has_origin sent namespace n (nameable_read sent namespace pairs reads.identifiers n e)) reads.numbers;
  identifiers = naming_read identified sent namespace apart pairs reads.identifiers;
}

preprint_reads : AreIdentified → (sent : List Text) (pairs : List KeyValue) → ReadAll sent pairs → HaveAll sent (taken pairs (naming Arxiv))
preprint_reads identified sent pairs reads = record {
  numbers = naming_reads sent Arxiv pairs (λ n e. uri_has_origin sent Arxiv n (nameable_read sent Arxiv pairs reads.identifiers n e)) reads.numbers;
  identifiers = preprint_origins identified sent pairs reads.identifiers;
}

doi_reads : AreIdentified → (sent : List Text) (pairs : List KeyValue) → HaveAll sent pairs → HaveAll sent (taken pairs (naming Doi))
doi_reads identified sent pairs reads = record {
  numbers = naming_reads sent Doi pairs (λ n e. (first_origin sent pairs reads.identifiers n e).1) reads.numbers;
  identifiers = doi_origins identified sent pairs reads.identifiers;
}

namings_read : AreIdentified → (sent : List Text) (pairs : List KeyValue) → ReadAll sent pairs → HaveAll sent (after namings pairs)
namings_read identified sent pairs reads =
    let first = taken pairs (naming Oclc) in
    let second = taken first (naming Pmc) in
    let third = taken second (naming Pmid) in
    doi_reads identified sent (taken third (naming Arxiv)) (preprint_reads identified sent third
    (apart_reads identified sent Pmid (refl, apart Pmid Doi refl) second (apart_reads identified sent Pmc (refl, apart Pmc Doi refl) first
    (apart_reads identified sent Oclc (refl, apart Oclc Doi refl) pairs reads))))

last_reads : AreFoundAgain → AreNumbersAgain → AreIdentified → (sent : List Text) (copied : List KeyValue) → AreKept sent copied
    → All (GivesPage sent) (all_of copied (codes "rft.pages")) → All (GivesIssns sent) (all_of copied (codes "rft.issn"))
    → All (GivesIsbns sent) (all_of copied (codes "rft.isbn")) → All (λ key. All (IsTextOf sent) (all_of copied key)) title_texts
    → HaveOrigin sent copied → HaveAll sent (after led_steps copied)
last_reads laws numbers identified sent copied is pages issns isbns titles all =
    namings_read identified sent _ record {
      numbers = pages_read sent _ (pages_under sent copied is)
          (subst (All (GivesPage sent))
          (sym (same_after (referrer_step ∷ issn_step ∷ eissn_step ∷ isbn_step ∷ date_step ∷ volume_steps) copied (codes "rft.pages") refl)) pages)
          (volumes_read numbers sent _ (sent_before sent copied is (codes "rft.volume") (refl, refl) refl)
          (sent_before sent copied is (codes "rft.issue") (refl, refl) refl)
          (date_reads sent _ (dates_under sent copied is)
          (isbn_reads laws sent _ (eissn_reads laws sent _ (issn_reads laws sent _ (referrer_reads sent copied is issns isbns all))))));
      identifiers = identifiers_under sent copied is titles;
    }

-- ---- all

encoded_has : (sent : List Text) (doi : Option Text) → IsAll (HasOrigin sent) doi → IsAll (HasOrigin sent) (option_and_then encoded_doi doi)
encoded_has sent None h n e = cc
encoded_has sent (Some doi) h n e = encoding_of_doi doi n (h doi refl) e

derived_have : (sent : List Text) (pairs : List KeyValue) → HaveAll sent pairs → AreDaysAll (HasOrigin sent) pairs → HaveOrigin sent (with_derived pairs)
derived_have sent pairs reads days =
    let P : KeyValue → Type 0 = λ pair. HasOrigin sent pair.value in
    let numbers = reads.numbers in
    let issns = all_of pairs (codes "rft.issn") in
    let eissns = all_of pairs (codes "rft.eissn") in
    let found = All-append (HasOrigin sent) _ _ (issns_have sent issns numbers.issns) (issns_have sent eissns numbers.eissns) in
    let identifier : (namespace : Namespace) → IsPlain namespace → (n : Text) → first_under namespace pairs (codes "rft_id") ≡ Some n
    → HasOrigin sent n =
    λ namespace plain n e. (referent_origin sent namespace pairs plain reads.identifiers n e).0 in
    All-append P (derived pairs) pairs
    (derived_values (HasOrigin sent) pairs identifier (λ n e. first_has (HasOrigin sent) (issns_of pairs) n found e)
    (second_has sent issns eissns (first_number (issns_of pairs)) numbers.issns numbers.eissns)
    (isbn_has sent (all_of pairs (codes "rft.eisbn")) (all_of pairs (codes "rft.isbn")) numbers.eisbns numbers.isbns) days
    (encoded_has sent (first_under Doi pairs (codes "rft_id")) (identifier Doi refl)))
    numbers.all

pub nothing_invented : AreFoundAgain → AreNumbersAgain → AreIdentified → (request : List KeyValue)
    → All (λ pair. HasOrigin (read_values request) pair.value) (with_derived (normal_form (counting request)))
nothing_invented laws numbers identified request =
    let sent = read_values request in
    let first = counting request in
    let known = counting_values request in
    let origins : HaveOrigin sent first =
    λ k d h. let value = (get_or first k d).value in from_request value (more_values request value (source_more request value (known k d h))) in
    let versions = versions_have sent first origins in
    let copied = after copies (with_fields first) in
    let stated = copied_sent sent first
    (λ k d h. let value = (get_or first k d).value in more_values request value (source_more request value (known k d h))) in
    let numbered = after identified_steps copied in
    let core = after core_steps numbered in
    let all = all_values request in
    let typed = typed_sent all numbered (identified_sent all copied (stated_sent all copied (copied_sent all first known))) in
    let second = taken (taken numbered (copying is_core creator)) (copying is_typed core_type) in
    let journal : (n : Text) → core_journal second ≡ Some n → HasOrigin sent n =
    λ n e. from_request n (more_values request n (journal_sent request second typed n e)) in
    let placed : IsPlaced (HasOrigin sent) (taken second core_source) =
    λ found e. place_map (Contains (sourced_values request)) (HasOrigin sent) found (λ n c. from_request n (more_values request n c))
    (parts_sent request second typed found e) in
    let origins' = format_has sent (after titlings core)
    (titlings_have sent core (core_has sent numbered journal placed
    (identified_have sent copied (stated_sent sent copied stated)
    (copies_have sent old_keys (with_fields first) (fields_have sent (with_versions first) versions))))) in
    let kinds = after kind_steps copied in
    let values = kind_sent request first known in
    let cited = after citing_steps kinds in
    let is = cited_sent request kinds values in
    let kept = texts_kept sent cited is in
    let texts = after text_steps cited in
    let issns = subst (All (GivesIssns sent))
    (sym (same_after (identified_step Isbn ∷ titled_steps ++ citing_steps ++ text_steps) (taken copied (identified_step Issn)) (codes "rft.issn") refl))
    (issns_give laws sent copied stated) in
    let isbns = subst (All (GivesIsbns sent)) (sym (same_after (titled_steps ++ citing_steps ++ text_steps) numbered (codes "rft.isbn") refl))
    (isbns_give laws sent copied stated) in
    let reads = last_reads laws numbers identified sent texts kept (pages_give sent cited is) issns isbns (titles_give sent cited is)
    (texts_have sent cited is (cited_have request kinds values origins')) in
    let days = days_have laws sent texts kept in
    subst (λ pairs. HaveOrigin sent (with_derived pairs)) (sym (normal_form-led first)) (derived_have sent _ reads days)
