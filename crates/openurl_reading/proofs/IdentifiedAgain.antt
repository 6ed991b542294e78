-- After all steps, the same ISSN and the same ISBN are found among identifiers, or none.
use Rattle.std.proofs.Common.{◌≡◌, List, [], ◌∷◌, ◌++◌, take, Bool, true, false, cond, not, ◌||◌, ◌⊎◌, inl, inr, get_or, lit<}
use Rattle.std.proofs.Common.{Option, Some, None, refl, sym, ap, ◌∙◌, subst}
use Rattle.std.specs.Prelude.{codes}
use Rattle.std.specs.List.{All, flat_map, list_all}
use Rattle.std.specs.Str.{bytes_eq}
use Rattle.std.proofs.lemmas.List.Elements.{All-cons, All-head, All-tail}
use Rattle.std.proofs.lemmas.List.Sums.{AllPass-from_list_all, fold-append}
use Rattle.text_model.specs.Texts.{Text}
use Rattle.kev_read.specs.Pairs.{KeyValue, all_of}
use Rattle.work_identifiers.specs.declared.namespace.Namespace.{Namespace}
use Rattle.work_identifiers.specs.declared.namespace.Namespace.TheVariants.{Doi, Pmid, Oclc, Pmc, Arxiv}
use Rattle.work_identifiers.specs.declared.numbers.StandardNumber.{StandardNumber}
use Rattle.work_identifiers.specs.declared.numbers.StandardNumber.TheVariants.{Issn, Isbn}
use Rattle.work_identifiers.specs.Forms.{IsIdentifier}
use Rattle.work_identifiers.specs.StandardNumbers.{is_number_named}
use Rattle.work_identifiers.specs.Uris.{uri_of, canonical}
use Rattle.openurl_reading.specs.Citations.{citing_steps}
use Rattle.openurl_reading.specs.Dates.{date_step}
use Rattle.openurl_reading.specs.DublinCore.{is_core}
use Rattle.openurl_reading.specs.Formats.{format_step}
use Rattle.openurl_reading.specs.IdentifiedNumbers.{identifying_keys, is_number_under, whole_numbers, numbers_at, numbers_under, among_identifiers}
use Rattle.openurl_reading.specs.IdentifiedNumbers.{issns_of_source, among_sources, identified}
use Rattle.openurl_reading.specs.Identifiers.{nameable, named, naming, namings}
use Rattle.openurl_reading.specs.Keys.{is_one_of}
use Rattle.openurl_reading.specs.Numbers.{first_number, issn_step, eissn_step, isbn_step}
use Rattle.openurl_reading.specs.Pages.{page_steps}
use Rattle.openurl_reading.specs.Referrers.{referrer_step}
use Rattle.openurl_reading.specs.Steps.{Step, unchanged, leading, taken, after}
use Rattle.openurl_reading.specs.Texts.{text_steps}
use Rattle.openurl_reading.specs.Values.{most_values, values_of, searched}
use Rattle.openurl_reading.specs.Volumes.{volume_steps}
use Rattle.openurl_reading.proofs.AsIdentifiers.{found_as_it_is}
use Rattle.openurl_reading.proofs.CoreFalls.{core_falls}
use Rattle.openurl_reading.proofs.FoundAre.{IsAll}
use Rattle.openurl_reading.proofs.Identified.{AreIdentified, nameable_identifier}
use Rattle.openurl_reading.proofs.KeysSettle.{same_after}
use Rattle.openurl_reading.proofs.Named.{now_values}
use Rattle.openurl_reading.proofs.Stages.{last_steps}
use Rattle.openurl_reading.proofs.Values.{values_after}

-- ---- the URI of an identifier of a work has no number

uri_names_none : (number : StandardNumber) (namespace : Namespace) (n : Text) → is_number_named number (uri_of namespace n) ≡ false
uri_names_none Issn Doi n = refl
uri_names_none Issn Pmid n = refl
uri_names_none Issn Oclc n = refl
uri_names_none Issn Pmc n = refl
uri_names_none Issn Arxiv n = refl
uri_names_none Isbn Doi n = refl
uri_names_none Isbn Pmid n = refl
uri_names_none Isbn Oclc n = refl
uri_names_none Isbn Pmc n = refl
uri_names_none Isbn Arxiv n = refl

uri_has_none : AreIdentified → (number : StandardNumber) (namespace : Namespace) (n : Text) → IsIdentifier namespace n
    → numbers_at number (codes "rft_id") (uri_of namespace n) ≡ []
uri_has_none laws number namespace n is =
    let uri = uri_of namespace n in
    let found = whole_numbers number uri in
    ap (λ t. cond (is_number_under number (codes "rft_id") t) found [])
    (found_as_it_is namespace uri (canonical namespace n) (laws.stay namespace n is))
    ∙ ap (λ b. cond (b || false) found []) (uri_names_none number namespace n)

under_same : AreIdentified → (number : StandardNumber) (namespace : Namespace) (pairs : List KeyValue)
    → numbers_under number (taken pairs (naming namespace)) (codes "rft_id") ≡ numbers_under number pairs (codes "rft_id")
under_same laws number namespace pairs =
    ap (flat_map find) (now_values namespace pairs (nameable namespace pairs) refl)
    ∙ by_found (nameable namespace pairs) (nameable_identifier laws namespace pairs)
  where
    find : Text → List Text
    find = numbers_at number (codes "rft_id")

    values : List Text
    values = all_of pairs (codes "rft_id")

    by_found : (found : Option Text) → IsAll (IsIdentifier namespace) found
        → flat_map find (values_after (named namespace found values) values) ≡ flat_map find values
    by_found None is = refl
    by_found (Some n) is = by_test (is_one_of values (uri_of namespace n))
      where
        by_test : (b : Bool) → flat_map find (values_after (cond b unchanged (leading (uri_of namespace n ∷ []))) values) ≡ flat_map find values
        by_test true = refl
        by_test false = ap (λ l. l ++ flat_map find values) (uri_has_none laws number namespace n (is n refl))

namings_same : AreIdentified → (number : StandardNumber) (pairs : List KeyValue)
    → numbers_under number (after namings pairs) (codes "rft_id") ≡ numbers_under number pairs (codes "rft_id")
namings_same laws number pairs =
    let first = taken pairs (naming Oclc) in
    let second = taken first (naming Pmc) in
    let third = taken second (naming Pmid) in
    under_same laws number Doi (taken third (naming Arxiv)) ∙ under_same laws number Arxiv third ∙ under_same laws number Pmid second
    ∙ under_same laws number Pmc first ∙ under_same laws number Oclc pairs

-- ---- after all steps, the same numbers are found among identifiers

flat_same : (f g : Text → List Text) (xs : List Text) → All (λ x. f x ≡ g x) xs → flat_map f xs ≡ flat_map g xs
flat_same f g [] all = refl
flat_same f g (x ∷ xs) all =
    let P : Text → Type 0 = λ x. f x ≡ g x in
    ap (λ l. l ++ flat_map f xs) (All-head P x xs all) ∙ ap (λ l. g x ++ l) (flat_same f g xs (All-tail P x xs all))

-- the steps from the format on, and those of them before the steps that name works
abbrev unnamed_steps : List Step
unnamed_steps =
    format_step ∷ citing_steps ++ text_steps ++ referrer_step ∷ issn_step ∷ eissn_step ∷ isbn_step ∷ date_step ∷ volume_steps ++ page_steps

abbrev other_keys : List Text
other_keys =
    codes "id" ∷ codes "rft.doi" ∷ codes "doi" ∷ codes "pmid" ∷ codes "rft.pmid" ∷ codes "pmcid" ∷ codes "rft.pmcid" ∷ codes "rft.identifier" ∷ []

-- no step is one of these keys
abbrev are_apart : List Step → List Text → Bool
are_apart steps keys = list_all (λ key. list_all (λ step. not (bytes_eq step.key key)) steps) keys

identifiers_same : AreIdentified → (number : StandardNumber) (between : List Step) (pairs : List KeyValue) → are_apart between identifying_keys ≡ true
    → among_identifiers number (after last_steps (taken (after between pairs) format_step)) ≡ among_identifiers number pairs
identifiers_same laws number between pairs h =
    flat_same (numbers_under number now) (numbers_under number pairs) identifying_keys
    (All-cons (λ key. numbers_under number now key ≡ numbers_under number pairs key) (codes "rft_id") other_keys own (λ k d g.
    let key = get_or other_keys k d in
    ap (flat_map (numbers_at number key))
    (same_after (format_step ∷ last_steps) before key
    (AllPass-from_list_all (λ key. list_all (λ step. not (bytes_eq step.key key)) (format_step ∷ last_steps)) other_keys refl k d g)
    ∙ same_after between pairs key (All-tail P (codes "rft_id") other_keys apart k d g))))
  where
    before : List KeyValue
    before = after between pairs

    now : List KeyValue
    now = after last_steps (taken before format_step)

    P : Text → Type 0
    P key = list_all (λ step. not (bytes_eq step.key key)) between ≡ true

    apart : All P identifying_keys
    apart = AllPass-from_list_all (λ key. list_all (λ step. not (bytes_eq step.key key)) between) identifying_keys h

    own : numbers_under number now (codes "rft_id") ≡ numbers_under number pairs (codes "rft_id")
    own =
        ap (λ p. numbers_under number p (codes "rft_id")) (fold-append taken before unnamed_steps namings)
        ∙ namings_same laws number (after unnamed_steps before)
        ∙ ap (flat_map (numbers_at number (codes "rft_id")))
        (same_after unnamed_steps before (codes "rft_id") refl
        ∙ same_after between pairs (codes "rft_id") (All-head P (codes "rft_id") other_keys apart))

abbrev core_keys : List Text
core_keys = codes "rft_val_fmt" ∷ codes "rft.creator" ∷ codes "rft.source" ∷ codes "rft.identifier" ∷ []

-- and the same among sources, or none: a request in Dublin Core gets another format if it names none
sources_same : (number : StandardNumber) (between : List Step) (pairs : List KeyValue) → are_apart between core_keys ≡ true
    → let now = after last_steps (taken (after between pairs) format_step) in
    (among_sources number now ≡ among_sources number pairs) ⊎ (among_sources number now ≡ [])
sources_same Isbn between pairs h = inl refl
sources_same Issn between pairs h = by_test (is_core pairs) (is_core now) refl refl
  where
    before : List KeyValue
    before = after between pairs

    now : List KeyValue
    now = after last_steps (taken before format_step)

    find : List KeyValue → List Text
    find p = flat_map issns_of_source (values_of p (codes "rft.source"))

    same : find now ≡ find pairs
    same =
        ap (λ values. flat_map issns_of_source (take most_values values))
        (same_after (format_step ∷ last_steps) before (codes "rft.source") refl
        ∙ same_after between pairs (codes "rft.source")
        (AllPass-from_list_all (λ key. list_all (λ step. not (bytes_eq step.key key)) between) core_keys h 2 [] (lit< tt)))

    by_test : (core still : Bool) → is_core pairs ≡ core → is_core now ≡ still
        → (among_sources Issn now ≡ among_sources Issn pairs) ⊎ (among_sources Issn now ≡ [])
    by_test core false e g = inr (ap (λ b. cond b (find now) []) g)
    by_test true true e g = inl (ap (λ b. cond b (find now) []) g ∙ same ∙ sym (ap (λ b. cond b (find pairs) []) e))
    by_test false true e g = let falls : is_core now ≡ false = core_falls between pairs h e in inr (ap (λ b. cond b (find now) []) falls)

same_or_none : (own before now : List Text) → (now ≡ before) ⊎ (now ≡ [])
    → (first_number (own ++ now) ≡ first_number (own ++ before)) ⊎ (first_number (own ++ now) ≡ None)
same_or_none own before now (inl e) = inl (ap (λ more. first_number (own ++ more)) e)
same_or_none [] before now (inr e) = inr (ap first_number e)
same_or_none (n ∷ ns) before now (inr e) = inl refl

-- so the same number is found, or none
pub found_again : AreIdentified → (number : StandardNumber) (between : List Step) (pairs : List KeyValue) → are_apart between identifying_keys ≡ true
    → are_apart between core_keys ≡ true
    → let now = after last_steps (taken (after between pairs) format_step) in
    (identified number now ≡ identified number pairs) ⊎ (identified number now ≡ None)
found_again laws number between pairs h g =
    let now = after last_steps (taken (after between pairs) format_step) in
    subst (λ own. (first_number (own ++ among_sources number now) ≡ identified number pairs) ⊎ (first_number (own ++ among_sources number now) ≡ None))
    (sym (identifiers_same laws number between pairs h))
    (same_or_none (among_identifiers number pairs) (among_sources number pairs) (among_sources number now) (sources_same number between pairs g))
