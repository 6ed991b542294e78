-- A request that is OpenURL 1.0 stays as it is.
use Rattle.std.proofs.Common.{◌≡◌, List, [], ◌∷◌, ◌++◌, true, false, None, Some, Option, refl, ap, ◌∙◌, inl, inr, ◌⊎◌, get_or, take, drop, map, not, lit<}
use Rattle.std.specs.Prelude.{codes, slice_get}
use Rattle.std.specs.List.{All, flat_map}
use Rattle.std.specs.Option.{option_and_then, is_some}
use Rattle.std.proofs.lemmas.List.Elements.{All-append, All-cons, All-head, All-tail, All-take}
use Rattle.text_model.specs.Texts.{Text}
use Rattle.kev_read.specs.Pairs.{KeyValue, all_of}
use Rattle.standard_numbers.specs.Issn.{issns_in}
use Rattle.standard_numbers.specs.Isbn.{isbns_in}
use Rattle.publication_dates.specs.Dates.{date_in}
use Rattle.work_identifiers.specs.declared.namespace.Namespace.{Namespace}
use Rattle.work_identifiers.specs.declared.numbers.StandardNumber.{StandardNumber}
use Rattle.work_identifiers.specs.declared.numbers.StandardNumber.TheVariants.{Issn, Isbn}
use Rattle.journal_references.specs.References.{reference_in}
use Rattle.written_texts.specs.declared.readings.Role.TheVariants.{Title, Other}
use Rattle.openurl_reading.specs.Steps.{Step, unchanged, replacing}
use Rattle.openurl_reading.specs.Versions.{version, encoding, is_other}
use Rattle.openurl_reading.specs.Kinds.{has}
use Rattle.openurl_reading.specs.IdentifiedNumbers.{identified, led_alone, identified_step, identified_steps}
use Rattle.openurl_reading.specs.DublinCore.{is_core, core_steps}
use Rattle.openurl_reading.specs.Titles.{titlings}
use Rattle.openurl_reading.specs.Formats.{format_step}
use Rattle.openurl_reading.specs.Values.{most_values, searched, led}
use Rattle.openurl_reading.specs.OldKeys.{OldKey, old_keys, filled, copied}
use Rattle.openurl_reading.specs.Fields.{is_of_book, of_number, number_fields, is_of_pubmed, of_identifier, identifier_fields, fields}
use Rattle.openurl_reading.specs.Referrers.{referrer_of, referred}
use Rattle.openurl_reading.specs.Numbers.{numbers_in, eissn_among, other_than}
use Rattle.openurl_reading.specs.Dates.{led_or_none}
use Rattle.openurl_reading.specs.ArticleNumbers.{article_in}
use Rattle.openurl_reading.specs.Citations.{after_name, cited_in}
use Rattle.openurl_reading.specs.Texts.{title_texts, other_texts}
use Rattle.openurl_reading.specs.Canonical.{Lacks, Under, HasNoReference, IsText, IsVersion, IsEncoding, IsDesignation, IsPage, ArePagesApart}
use Rattle.openurl_reading.specs.Canonical.{IsUnderItsKey}
use Rattle.openurl_reading.proofs.CitingSteps.{uncited_stays}
use Rattle.openurl_reading.proofs.Copied.{copying-none, both_unchanged}
use Rattle.openurl_reading.proofs.CoreSettles.{not_core_stays}
use Rattle.openurl_reading.proofs.DateLed.{date_among, rest_of, IsSettledAmong}
use Rattle.openurl_reading.proofs.Each.{one_has}
use Rattle.openurl_reading.proofs.Firsts.{of_first}
use Rattle.openurl_reading.proofs.Formatted.{format-stays, some_value}
use Rattle.openurl_reading.proofs.FoundAgain.{issn_among, further_among, isbn_among}
use Rattle.openurl_reading.proofs.IdentifiedNumbers.{known-unchanged, none-unchanged}
use Rattle.openurl_reading.proofs.PagesStay.{first_page_stays, last_page_stays}
use Rattle.openurl_reading.proofs.Settled.{IsSettled, IsNamed, led-same, filled-none}
use Rattle.openurl_reading.proofs.Others.{bytes_eq-same}
use Rattle.openurl_reading.proofs.Stages.{titled_steps}
use Rattle.openurl_reading.proofs.TextsRead.{texts_stay}
use Rattle.openurl_reading.proofs.Titled.{untitled-stays}
use Rattle.openurl_reading.proofs.VolumesLed.{designations_settle}

-- versions and encoding
stated-known : (value : Text) (values : List Text) → All (λ v. v ≡ value) values → is_other value (slice_get values 0) ≡ false
stated-known value [] all = refl
stated-known value (v ∷ vs) all = rw (All-head (λ v. v ≡ value) v vs all) (rw (bytes_eq-same value) refl)

-- keys that nothing fills
copies_settled : (keys : List OldKey) (pairs : List KeyValue) → All (λ key. Lacks pairs key.old) keys → All (λ key. copied key pairs ≡ unchanged) keys
copies_settled keys pairs all k d h =
    let key = get_or keys k d in
    ap (λ values. filled (take most_values values) (all_of pairs key.new)) (all k d h) ∙ filled-none (all_of pairs key.new)

-- a number that is found as it is
abbrev pub IsKept : (Text → List Text) → Text → Type 0
IsKept find value = find (searched value) ≡ value ∷ []

-- one among identifiers is beside one under its key
number_stays : (find : Text → List Text) (values rest : List Text) (found : Option Text) → All (IsKept find) values
    → (found ≡ None) ⊎ (is_some (slice_get values 0) ≡ true) → led_alone (numbers_in find values ++ rest) found (slice_get values 0) ≡ unchanged
number_stays find values rest found all (inl none) =
    let own = numbers_in find values ++ rest in
    ap (λ o. led_alone own o (slice_get values 0)) none ∙ none-unchanged own (slice_get values 0)
number_stays find [] rest found all (inr some) = cc
number_stays find (v ∷ vs) rest found all (inr some) =
    let more = numbers_in find vs in
    known-unchanged ((find (searched v) ++ more) ++ rest) (more ++ rest) v found (Some v)
    (ap (λ own. (own ++ more) ++ rest) (All-head (IsKept find) v vs all))

numbers_settled : (pairs : List KeyValue) → ((number : StandardNumber) → IsUnderItsKey pairs number)
    → Under pairs (codes "rft.issn") (IsKept issns_in) → Under pairs (codes "rft.isbn") (IsKept isbns_in)
    → All (λ step. step.change pairs ≡ unchanged) identified_steps
numbers_settled pairs under issns isbns =
    let P : Step → Type 0 = λ step. step.change pairs ≡ unchanged in
    All-cons P (identified_step Issn) (identified_step Isbn ∷ [])
    (number_stays issns_in (all_of pairs (codes "rft.issn")) [] (identified Issn pairs) issns (under Issn))
    (one_has P (identified_step Isbn)
    (number_stays isbns_in (all_of pairs (codes "rft.isbn")) (numbers_in isbns_in (all_of pairs (codes "rft.eisbn")) ++ []) (identified Isbn pairs) isbns
    (under Isbn)))

titled_settled : (pairs : List KeyValue) → is_core pairs ≡ false → Lacks pairs (codes "title") → has pairs (codes "rft_val_fmt") ≡ true
    → All (λ step. step.change pairs ≡ unchanged) titled_steps
titled_settled pairs core none format =
    let P : Step → Type 0 = λ step. step.change pairs ≡ unchanged in
    All-append P core_steps (titlings ++ format_step ∷ []) (not_core_stays pairs core)
    (All-append P titlings (format_step ∷ []) (untitled-stays pairs none)
    (one_has P format_step (format-stays pairs (some_value (all_of pairs (codes "rft_val_fmt")) format))))

fields_settled : (pairs : List KeyValue) → Lacks pairs (codes "number") → Lacks pairs (codes "identifier")
    → All (λ step. step.change pairs ≡ unchanged) fields
fields_settled pairs number identifier =
    All-append (λ step. step.change pairs ≡ unchanged) number_fields identifier_fields
    (both_unchanged is_of_book (of_number (codes "rft.isbn")) (of_number (codes "rft.issn")) pairs
    (copying-none is_of_book (of_number (codes "rft.isbn")) pairs number)
    (copying-none (λ p. not (is_of_book p)) (of_number (codes "rft.issn")) pairs number))
    (both_unchanged is_of_pubmed (of_identifier (codes "pmid")) (of_identifier (codes "id")) pairs
    (copying-none is_of_pubmed (of_identifier (codes "pmid")) pairs identifier)
    (copying-none (λ p. not (is_of_pubmed p)) (of_identifier (codes "id")) pairs identifier))

referrer_settled : (pairs : List KeyValue) → Lacks pairs (codes "sid") → referred pairs ≡ unchanged
referrer_settled pairs none =
    let known = all_of pairs (codes "rfr_id") in
    ap (λ sids. filled (map referrer_of (take 1 sids)) known) none ∙ filled-none known

-- titles in which no reference is
no_citation : (values : List Text) → All (IsText Title) values → All HasNoReference values → option_and_then cited_in (slice_get values 0) ≡ None
no_citation [] texts none = refl
no_citation (v ∷ vs) texts none =
    ap (λ text. option_and_then after_name (reference_in text)) (All-head (IsText Title) v vs texts)
    ∙ ap (option_and_then after_name) (All-head HasNoReference v vs none)

-- ---- numbers that are found as they are

issn_leads : (values : List Text) → All (IsKept issns_in) values → issn_among values ≡ slice_get values 0
issn_leads [] all = refl
issn_leads (v ∷ vs) all =
    ap (λ found. slice_get (found ++ flat_map (λ x. issns_in (searched x)) (take 19 vs)) 0) (All-head (IsKept issns_in) v vs all)

no_further : (values : List Text) → All (IsKept issns_in) values → flat_map (λ v. drop 1 (issns_in (searched v))) values ≡ []
no_further [] all = refl
no_further (v ∷ vs) all =
    ap (λ found. drop 1 found ++ flat_map (λ x. drop 1 (issns_in (searched x))) vs) (All-head (IsKept issns_in) v vs all)
    ∙ no_further vs (All-tail (IsKept issns_in) v vs all)

none_among : (number : Option Text) → other_than number [] ≡ None
none_among None = refl
none_among (Some n) = refl

eissn_leads : (issns values : List Text) → All (IsKept issns_in) issns → All (IsKept issns_in) values
    → eissn_among values (further_among issns) ≡ slice_get values 0
eissn_leads issns [] all own =
    ap (other_than (issn_among issns)) (no_further (take most_values issns) (All-take (IsKept issns_in) most_values issns all))
    ∙ none_among (issn_among issns)
eissn_leads issns (v ∷ vs) all own = issn_leads (v ∷ vs) own

isbn_leads : (others values : List Text) → others ≡ [] → All (IsKept isbns_in) values → isbn_among others values ≡ slice_get values 0
isbn_leads others [] none all = ap (λ vs. isbn_among vs []) none
isbn_leads others (v ∷ vs) none all =
    let f : Text → List Text = λ x. isbns_in (searched x) in
    ap (λ found. slice_get (found ++ flat_map f (take 19 vs) ++ flat_map f (take most_values others)) 0) (All-head (IsKept isbns_in) v vs all)

-- ---- a date that is read as it is

abbrev pub IsDateKept : Text → Type 0
IsDateKept value = date_in (searched value) ≡ Some value

led_or_none-same : (values : List Text)
    → (led_or_none (slice_get values 0) (slice_get values 0) ≡ unchanged)
    ⊎ ((led_or_none (slice_get values 0) (slice_get values 0) ≡ replacing []) × (values ≡ []))
led_or_none-same [] = inr (refl, refl)
led_or_none-same (v ∷ vs) = inl (rw (bytes_eq-same v) refl)

date_leads : (values : List Text) → All IsDateKept values → date_among None values ≡ slice_get values 0
date_leads [] all = refl
date_leads (v ∷ vs) all = rw (All-head IsDateKept v vs all) refl

date_settled : (values years dates old_years : List Text) → years ≡ [] → dates ≡ [] → old_years ≡ [] → All IsDateKept values
    → IsSettledAmong (rest_of years dates old_years) values
date_settled values years dates old_years a b c all =
    let e : date_among (rest_of years dates old_years) values ≡ slice_get values 0 = rw (a, b, c) (date_leads values all) in
    elim (led_or_none-same values) [
      | inl same ↦ inl (ap (λ d. led_or_none d (slice_get values 0)) e ∙ same)
      | inr none ↦ inr (ap (λ d. led_or_none d (slice_get values 0)) e ∙ none.0, none.1)
    ]

-- ---- all

-- what a canonical request has, with its numbers and dates as the steps find them
pub record HasKept (pairs : List KeyValue) : Type 0 where
  pub context : Under pairs (codes "ctx_ver") IsVersion
  pub transport : Under pairs (codes "url_ver") IsVersion
  pub encoding : Under pairs (codes "ctx_enc") IsEncoding
  pub no_old_keys : All (λ key. Lacks pairs key.old) old_keys
  pub no_number : Lacks pairs (codes "number")
  pub no_identifier : Lacks pairs (codes "identifier")
  pub no_core : is_core pairs ≡ false
  pub no_title : Lacks pairs (codes "title")
  pub format : has pairs (codes "rft_val_fmt") ≡ true
  pub no_source : Lacks pairs (codes "sid")
  pub no_date : Lacks pairs (codes "date")
  pub no_year : Lacks pairs (codes "rft.year")
  pub no_old_year : Lacks pairs (codes "year")
  pub no_eisbn : Lacks pairs (codes "rft.eisbn")
  pub titles : All (λ key. Under pairs key (IsText Title)) title_texts
  pub journals : Under pairs (codes "rft.jtitle") HasNoReference
  pub other_texts : All (λ key. Under pairs key (IsText Other)) other_texts
  pub issns : Under pairs (codes "rft.issn") (IsKept issns_in)
  pub eissns : Under pairs (codes "rft.eissn") (IsKept issns_in)
  pub isbns : Under pairs (codes "rft.isbn") (IsKept isbns_in)
  pub dates : Under pairs (codes "rft.date") IsDateKept
  pub volumes : Under pairs (codes "rft.volume") IsDesignation
  pub issues : Under pairs (codes "rft.issue") IsDesignation
  pub spages : Under pairs (codes "rft.spage") IsPage
  pub epages : Under pairs (codes "rft.epage") IsPage
  pub pages : ArePagesApart pairs
  pub identified : (number : StandardNumber) → IsUnderItsKey pairs number
  pub works : (namespace : Namespace) → IsNamed pairs namespace

pub kept_settled : (pairs : List KeyValue) → HasKept pairs → IsSettled pairs
kept_settled pairs kept =
    let issns = all_of pairs (codes "rft.issn") in
    let eissns = all_of pairs (codes "rft.eissn") in
    let isbns = all_of pairs (codes "rft.isbn") in
    record {
      context = stated-known version (all_of pairs (codes "ctx_ver")) kept.context;
      transport = stated-known version (all_of pairs (codes "url_ver")) kept.transport;
      encoding = stated-known encoding (all_of pairs (codes "ctx_enc")) kept.encoding;
      fields = fields_settled pairs kept.no_number kept.no_identifier;
      copies = copies_settled old_keys pairs kept.no_old_keys;
      kinds = All-append (λ step. step.change pairs ≡ unchanged) identified_steps titled_steps
          (numbers_settled pairs kept.identified kept.issns kept.isbns) (titled_settled pairs kept.no_core kept.no_title kept.format);
      cited = uncited_stays pairs (no_citation (all_of pairs (codes "rft.jtitle")) (kept.titles 1 [] (lit< tt)) kept.journals);
      texts = texts_stay pairs kept.titles kept.other_texts;
      referrer = referrer_settled pairs kept.no_source;
      issn = ap (λ n. led n (slice_get issns 0)) (issn_leads issns kept.issns) ∙ led-same (slice_get issns 0);
      eissn = ap (λ n. led n (slice_get eissns 0)) (eissn_leads issns eissns kept.issns kept.eissns) ∙ led-same (slice_get eissns 0);
      isbn = ap (λ n. led n (slice_get isbns 0)) (isbn_leads (all_of pairs (codes "rft.eisbn")) isbns kept.no_eisbn kept.isbns) ∙ led-same (slice_get isbns 0);
      date = date_settled (all_of pairs (codes "rft.date")) _ _ _ kept.no_year kept.no_date kept.no_old_year kept.dates;
      volumes = designations_settle (all_of pairs (codes "rft.issue")) (all_of pairs (codes "rft.volume")) kept.issues kept.volumes;
      last_page = last_page_stays (of_first article_in (all_of pairs (codes "rft.artnum"))) (all_of pairs (codes "rft.spage"))
          (all_of pairs (codes "rft.epage")) kept.spages kept.epages;
      first_page = first_page_stays pairs kept.spages kept.pages;
      works = kept.works;
    }
