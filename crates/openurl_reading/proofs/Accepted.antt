-- Pairs that count still count after all steps.
use Rattle.std.proofs.Common.{◌≡◌, ℕ, List, [], ◌∷◌, ◌++◌, map, take, Bool, true, false, cond, not, ◌&&◌, ◌||◌}
use Rattle.std.proofs.Common.{Option, Some, None, refl, sym, subst, get_or, arith, inl, inr}
use Rattle.std.specs.Prelude.{codes, nat_eq, nat_le}
use Rattle.std.specs.Char.{is_ascii_digit, to_ascii_lowercase, to_ascii_uppercase}
use Rattle.std.specs.List.{All, starts_with}
use Rattle.std.specs.Str.{bytes_eq}
use Rattle.std.proofs.lemmas.Bool.{and_parts, and_from, not-true}
use Rattle.std.proofs.lemmas.Bool.Decides.{nat_tests}
use Rattle.std.proofs.lemmas.List.Elements.{All-take, All-map}
use Rattle.text_model.specs.Texts.{Text}
use Rattle.kev_read.specs.Pairs.{KeyValue, all_of, first_of}
use Rattle.openurl_reading.specs.Counting.{is_void, is_blank, is_any, row_keys}
use Rattle.openurl_reading.specs.Keys.{is_one_of}
use Rattle.work_identifiers.specs.declared.namespace.Namespace.{Namespace}
use Rattle.work_identifiers.specs.declared.namespace.Namespace.TheVariants.{Doi, Pmid, Oclc, Pmc, Arxiv}
use Rattle.work_identifiers.specs.declared.numbers.StandardNumber.{StandardNumber}
use Rattle.work_identifiers.specs.declared.numbers.StandardNumber.TheVariants.{Issn, Isbn}
use Rattle.work_identifiers.specs.Forms.{IsIdentifier}
use Rattle.openurl_reading.specs.Identifiers.{nameable, naming, namings}
use Rattle.work_identifiers.specs.Uris.{uri_of}
use Rattle.openurl_reading.specs.Steps.{taken, after}
use Rattle.openurl_reading.specs.Values.{led}
use Rattle.openurl_reading.specs.OldKeys.{OldKey, old_keys, copies}
use Rattle.openurl_reading.specs.declared.kinds.Kind.{Kind}
use Rattle.openurl_reading.specs.declared.kinds.Kind.TheVariants.{Book, Dissertation, Journal}
use Rattle.openurl_reading.specs.Kinds.{kind_of}
use Rattle.openurl_reading.specs.IdentifiedNumbers.{identified, number_key, own_numbers, identified_step, identified_steps}
use Rattle.openurl_reading.specs.DublinCore.{core_steps}
use Rattle.openurl_reading.specs.Titles.{title_key, of_title, titlings}
use Rattle.openurl_reading.specs.Formats.{format_of, format_step}
use Rattle.openurl_reading.specs.Citations.{citing_steps}
use Rattle.openurl_reading.specs.Texts.{text_steps}
use Rattle.openurl_reading.specs.Referrers.{namespace, referrer_of, referrer_step}
use Rattle.openurl_reading.specs.Numbers.{first_issn, first_eissn, first_isbn, issn_step, eissn_step, isbn_step}
use Rattle.openurl_reading.specs.Dates.{date_keys, first_date, led_or_none, date_step}
use Rattle.openurl_reading.specs.Pages.{first_page, last_page, first_page_step, last_page_step, page_steps}
use Rattle.openurl_reading.specs.Volumes.{added_issue, volume, issue, added_issue_step, volume_step, issue_step, volume_steps}
use Rattle.openurl_reading.specs.Reading.{normal_form}
use Rattle.openurl_reading.proofs.CitedParts.{citing_passes}
use Rattle.openurl_reading.proofs.PartsPass.{core_pass}
use Rattle.openurl_reading.proofs.Each.{none_has, one_has, each_filled, each_led, each_named}
use Rattle.openurl_reading.proofs.FieldsCopied.{fields_pass}
use Rattle.openurl_reading.proofs.FoundAre.{AreFound}
use Rattle.openurl_reading.proofs.Identified.{AreIdentified, first_is, nameable_is, of_is}
use Rattle.openurl_reading.proofs.IdentifierForms.{BeginsWithDigit, doi_begins, number_begins}
use Rattle.openurl_reading.proofs.IdentifiedNumbers.{each_led_alone}
use Rattle.openurl_reading.proofs.ArticlesFound.{IsNotBlank}
use Rattle.openurl_reading.proofs.PagesFound.{AreFoundPages, first_page_is, last_page_is}
use Rattle.openurl_reading.proofs.Passing.{AreAccepted, allows, Passes, not_blank, under_pass, step_passes, versions_pass, copies_pass, old_keys_allow}
use Rattle.openurl_reading.proofs.Stages.{kind_steps, led_steps, with_versions, with_fields, normal_form-led}
use Rattle.openurl_reading.proofs.TextsPass.{AreFilled, texts_pass}
use Rattle.openurl_reading.proofs.Titled.{titlings-are}
use Rattle.openurl_reading.proofs.VolumeLaws.{AreFoundNumbers, added_issue_is, found_volume_is, found_issue_is}

titlings_pass : (pairs : List KeyValue) → AreAccepted pairs → AreAccepted (after titlings pairs)
titlings_pass pairs all =
    let kind = kind_of pairs in
    let key = of_title (title_key kind) in
    elim (titlings-are pairs) [
      | inl same ↦ subst AreAccepted (sym same) all
      | inr one ↦ subst AreAccepted (sym one)
          (copies_pass (key ∷ []) pairs (one_has (λ (key : OldKey). allows key.old key.new ≡ true) key (title_allows kind)) all)
    ]
  where
    title_allows : (kind : Kind) → allows (codes "title") (title_key kind) ≡ true
    title_allows Book = refl
    title_allows Dissertation = refl
    title_allows Journal = refl

format_passes : (pairs : List KeyValue) → AreAccepted pairs → AreAccepted (taken pairs format_step)
format_passes [] all = all
format_passes (pair ∷ pairs) all =
    let key = codes "rft_val_fmt" in
    let kind = kind_of (pair ∷ pairs) in
    step_passes format_step (pair ∷ pairs)
    (each_filled (Passes key) (format_of kind ∷ []) (all_of (pair ∷ pairs) key) (one_has (Passes key) (format_of kind) (format_counts kind))) all
  where
    format_counts : (kind : Kind) → Passes (codes "rft_val_fmt") (format_of kind)
    format_counts Book = refl
    format_counts Dissertation = refl
    format_counts Journal = refl

referrer_passes_at : (sid : Text) (b : Bool) → starts_with nat_eq sid namespace ≡ b → is_blank sid ≡ false
    → Passes (codes "rfr_id") (cond b sid (namespace ++ sid))
referrer_passes_at sid true h blank = rw blank refl
referrer_passes_at sid false h blank = refl

referrer_passes : (pairs : List KeyValue) → AreAccepted pairs → AreAccepted (taken pairs referrer_step)
referrer_passes pairs all =
    let key = codes "rfr_id" in
    let sids = take 1 (all_of pairs (codes "sid")) in
    let known = All-take (Passes (codes "sid")) 1 (all_of pairs (codes "sid")) (under_pass pairs (codes "sid") all) in
    step_passes referrer_step pairs
    (each_filled (Passes key) (map referrer_of sids) (all_of pairs key)
    (All-map (Passes key) referrer_of sids
    (λ k d h. let sid = get_or sids k d in
    referrer_passes_at sid (starts_with nat_eq sid namespace) refl (not_blank (codes "sid") sid (known k d h))))) all

digit_is_no_blank : (b : ℕ) → is_ascii_digit b ≡ true → nat_le b 0x20 ≡ false
digit_is_no_blank b h = grind (arith, nat_tests)

digit_is_plain : (b : ℕ) → is_ascii_digit b ≡ true → (not (nat_eq b 0x2d || nat_eq b 0x20) ≡ true) × (nat_eq (to_ascii_uppercase b) 0x41 ≡ false)
digit_is_plain b h = (grind (arith, nat_tests), grind (arith, nat_tests))

digit_passes : (key n : Text) → allows (codes "rft.issn") key ≡ true → BeginsWithDigit n → Passes key n
digit_passes key n h is =
    let may = and_parts _ _ h in
    let free = (and_parts _ _ may.0).0 in
    let id : bytes_eq key (codes "rft_id") ≡ false = not-true _ may.1 in
    let blank = digit_is_no_blank is.0 is.3 in
    let plain = digit_is_plain is.0 is.3 in
    let no_blank : is_blank n ≡ false = rw is.2 (rw blank refl) in
    let no_any : is_any n ≡ false = rw is.2 (rw plain.0 (rw plain.1 refl)) in
    let void : not (is_void (record { key = key; value = n })) ≡ true = rw (no_blank, no_any, id) (by_row (is_one_of row_keys key)) in
    and_from _ _ free void
  where
    by_row : (b : Bool) → not (false || (b && false) || false) ≡ true
    by_row true = refl
    by_row false = refl

led_passes : (key : Text) (found first : Option Text) → allows (codes "rft.issn") key ≡ true → ((n : Text) → found ≡ Some n → BeginsWithDigit n)
    → All (Passes key) (led found first).values
led_passes key found first may h = each_led (Passes key) found first (λ n e. digit_passes key n may (h n e))

date_passes : (found first : Option Text) → ((n : Text) → found ≡ Some n → BeginsWithDigit n) → All (Passes (codes "rft.date")) (led_or_none found first).values
date_passes None first h = none_has (Passes (codes "rft.date"))
date_passes (Some d) first h = led_passes (codes "rft.date") (Some d) first refl h

-- ---- numbers among identifiers

number_passes : AreFound BeginsWithDigit → (number : StandardNumber) → allows (codes "rft.issn") (number_key number) ≡ true → (pairs : List KeyValue)
    → AreAccepted pairs → AreAccepted (taken pairs (identified_step number))
number_passes found number may pairs all =
    step_passes (identified_step number) pairs
    (each_led_alone (Passes (number_key number)) (own_numbers number pairs) (identified number pairs) (first_of pairs (number_key number))
    (λ n e. digit_passes (number_key number) n may (found.identified number pairs n e))) all

identified_pass : AreFound BeginsWithDigit → (pairs : List KeyValue) → AreAccepted pairs → AreAccepted (after identified_steps pairs)
identified_pass found pairs all =
    number_passes found Isbn refl (taken pairs (identified_step Issn)) (number_passes found Issn refl pairs all)

-- ---- URIs of identifiers

digit_is_no_letter : (b : ℕ) → is_ascii_digit b ≡ true → nat_eq 0x64 (to_ascii_lowercase b) ≡ false
digit_is_no_letter b h = grind (arith, nat_tests)

doi_passes : (n : Text) → BeginsWithDigit n → Passes (codes "rft_id") (uri_of Doi n)
doi_passes n is = rw is.2 (rw (digit_is_no_letter is.0 is.3) refl)

pmid_passes : (n : Text) → BeginsWithDigit n → Passes (codes "rft_id") (uri_of Pmid n)
pmid_passes n is = rw is.2 refl

oclc_passes : (n : Text) → BeginsWithDigit n → Passes (codes "rft_id") (uri_of Oclc n)
oclc_passes n is = rw is.2 refl

-- a URI is no prefix alone: not `info:doi/`, and not `info:doi/doi:`
uri_passes : (namespace : Namespace) (n : Text) → IsIdentifier namespace n → Passes (codes "rft_id") (uri_of namespace n)
uri_passes Doi n is = doi_passes n (doi_begins n is)
uri_passes Pmid n is = pmid_passes n (number_begins 9 n (and_parts _ _ is).1)
uri_passes Oclc n is = oclc_passes n (number_begins 12 n (and_parts _ _ is).1)
uri_passes Pmc n is = refl
uri_passes Arxiv n is = refl

naming_passes : AreIdentified → (namespace : Namespace) (pairs : List KeyValue) → AreAccepted pairs → AreAccepted (taken pairs (naming namespace))
naming_passes identified namespace pairs all =
    let is = nameable_is (IsIdentifier namespace) namespace pairs (first_is (IsIdentifier namespace) namespace (of_is identified namespace) pairs) in
    step_passes (naming namespace) pairs
    (each_named (Passes (codes "rft_id")) namespace (nameable namespace pairs) (all_of pairs (codes "rft_id"))
    (λ n e. uri_passes namespace n (is n e))) all

namings_pass : AreIdentified → (pairs : List KeyValue) → AreAccepted pairs → AreAccepted (after namings pairs)
namings_pass identified pairs all =
    let first = taken pairs (naming Oclc) in
    let second = taken first (naming Pmc) in
    let third = taken second (naming Pmid) in
    naming_passes identified Doi (taken third (naming Arxiv)) (naming_passes identified Arxiv third (naming_passes identified Pmid second
    (naming_passes identified Pmc first (naming_passes identified Oclc pairs all))))

-- ---- volume and issue

issue_passes : (found first : Option Text) → ((n : Text) → found ≡ Some n → IsNotBlank n) → All (Passes (codes "rft.issue")) (led found first).values
issue_passes found first is = each_led (Passes (codes "rft.issue")) found first (λ n e. rw (is n e) refl)

volume_passes : (found first : Option Text) → ((n : Text) → found ≡ Some n → IsNotBlank n) → All (Passes (codes "rft.volume")) (led found first).values
volume_passes found first is = each_led (Passes (codes "rft.volume")) found first (λ n e. rw (is n e) refl)

volumes_pass : AreFoundNumbers IsNotBlank → (pairs : List KeyValue) → AreAccepted pairs → AreAccepted (after volume_steps pairs)
volumes_pass found pairs all =
    let first = taken pairs added_issue_step in
    let second = taken first volume_step in
    step_passes issue_step second (issue_passes (issue second) (first_of second (codes "rft.issue")) (found_issue_is IsNotBlank found second))
    (step_passes volume_step first (volume_passes (volume first) (first_of first (codes "rft.volume")) (found_volume_is IsNotBlank found first))
    (step_passes added_issue_step pairs (issue_passes (added_issue pairs) (first_of pairs (codes "rft.issue")) (added_issue_is IsNotBlank found pairs))
    all))

-- ---- pages

page_passes : (found first : Option Text) → ((n : Text) → found ≡ Some n → IsNotBlank n) → All (Passes (codes "rft.spage")) (led found first).values
page_passes found first is = each_led (Passes (codes "rft.spage")) found first (λ n e. rw (is n e) refl)

end_passes : (found first : Option Text) → ((n : Text) → found ≡ Some n → IsNotBlank n) → All (Passes (codes "rft.epage")) (led found first).values
end_passes found first is = each_led (Passes (codes "rft.epage")) found first (λ n e. rw (is n e) refl)

pages_pass : AreFoundPages IsNotBlank
    → (pairs : List KeyValue) → AreAccepted pairs → AreAccepted (after page_steps pairs)
pages_pass found pairs all =
    let next = taken pairs last_page_step in
    step_passes first_page_step next (page_passes (first_page next) (first_of next (codes "rft.spage"))
    (first_page_is IsNotBlank found.first found.article next))
    (step_passes last_page_step pairs (end_passes (last_page pairs) (first_of pairs (codes "rft.epage")) (last_page_is IsNotBlank found pairs)) all)

-- ---- all

led_pass : AreIdentified → AreFound BeginsWithDigit → AreFoundNumbers IsNotBlank → AreFoundPages IsNotBlank
    → (pairs : List KeyValue) → AreAccepted pairs → AreAccepted (after led_steps pairs)
led_pass identified found numbers pages pairs all =
    let named = taken pairs referrer_step in
    let issns = taken named issn_step in
    let eissns = taken issns eissn_step in
    let isbns = taken eissns isbn_step in
    let dates = taken isbns date_step in
    let placed = after volume_steps dates in
    namings_pass identified (after page_steps placed)
    (pages_pass pages placed
    (volumes_pass numbers dates
    (step_passes date_step isbns (date_passes (first_date date_keys isbns) (first_of isbns (codes "rft.date")) (found.date isbns))
    (step_passes isbn_step eissns (led_passes (codes "rft.isbn") (first_isbn eissns) (first_of eissns (codes "rft.isbn")) refl (found.isbn eissns))
    (step_passes eissn_step issns (led_passes (codes "rft.eissn") (first_eissn issns) (first_of issns (codes "rft.eissn")) refl (found.eissn issns))
    (step_passes issn_step named (led_passes (codes "rft.issn") (first_issn named) (first_of named (codes "rft.issn")) refl (found.issn named))
    (referrer_passes pairs all)))))))

pub normal_form_passes : AreFilled → AreIdentified → AreFound BeginsWithDigit → AreFoundNumbers IsNotBlank → AreFoundPages IsNotBlank
    → (pairs : List KeyValue) → AreAccepted pairs → AreAccepted (normal_form pairs)
normal_form_passes filled identified found numbers pages pairs all =
    let fields = with_fields pairs in
    let copied = after copies fields in
    let numbered = after identified_steps copied in
    let core = after core_steps numbered in
    subst AreAccepted (sym (normal_form-led pairs))
    (led_pass identified found numbers pages (after text_steps (after citing_steps (after kind_steps copied)))
    (texts_pass filled (after citing_steps (after kind_steps copied))
    (citing_passes (after kind_steps copied)
    (format_passes (after titlings core)
    (titlings_pass core
    (core_pass numbered
    (identified_pass found copied
    (copies_pass old_keys fields old_keys_allow
    (fields_pass (with_versions pairs)
    (versions_pass pairs all))))))))))
