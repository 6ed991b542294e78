-- The identifiers of a request that is OpenURL 1.0 are named already.
use Rattle.std.proofs.Common.{◌≡◌, List, [], ◌∷◌, true, cond, ◌||◌, Option, Some, None, refl, sym, ap, ◌∙◌, subst, inl, inr, get_or}
use Rattle.std.specs.Prelude.{◌≢◌, codes}
use Rattle.std.specs.List.{All}
use Rattle.std.specs.Option.{option_or, is_some}
use Rattle.std.specs.Str.{bytes_eq}
use Rattle.std.proofs.lemmas.List.Elements.{All-head, All-tail}
use Rattle.text_model.specs.Texts.{Text}
use Rattle.kev_read.specs.Pairs.{KeyValue, all_of}
use Rattle.work_identifiers.specs.declared.namespace.Namespace.{Namespace}
use Rattle.work_identifiers.specs.declared.namespace.Namespace.TheVariants.{Doi, Pmid, Oclc, Pmc, Arxiv}
use Rattle.work_identifiers.specs.Forms.{IsIdentifier}
use Rattle.work_identifiers.specs.Uris.{uri_of, registered, arxiv_doi}
use Rattle.openurl_reading.specs.Keys.{is_one_of}
use Rattle.openurl_reading.specs.Steps.{unchanged}
use Rattle.openurl_reading.specs.Identifiers.{identifier_of, source_keys, first_under, first_identifier, named}
use Rattle.openurl_reading.specs.Canonical.{IsReferentUri, registered_uri, other_uri, HasNoIdentifier, Under}
use Rattle.openurl_reading.proofs.Apart.{same_or_apart, apart}
use Rattle.openurl_reading.proofs.FoundAre.{IsAll}
use Rattle.openurl_reading.proofs.Identified.{first_found, found-cons, found_none}
use Rattle.openurl_reading.proofs.Identified.{IsPlain, AreIdentified, uri_has_none, preprint_has, some_same, none_given}
use Rattle.openurl_reading.proofs.Others.{bytes_eq-same}
use Rattle.openurl_reading.proofs.Settled.{IsNamed}
use Rattle.openurl_reading.proofs.Named.{rest_of, among, IsFirstNamed, first-among, among_named}
use Rattle.openurl_reading.proofs.Named.{plain_has, known_named, more_known}
use Rattle.openurl_reading.proofs.NamedPreprints.{beside_doi}

-- ---- a request that is OpenURL 1.0

own_same : AreIdentified → (namespace : Namespace) → IsPlain namespace → (n m : Text) → IsIdentifier namespace m
    → identifier_of namespace (codes "rft_id") (uri_of namespace m) ≡ Some n → uri_of namespace m ≡ uri_of namespace n
own_same laws namespace plain n m is h =
    ap (uri_of namespace) (some_same (identifier_of namespace (codes "rft_id") (uri_of namespace m)) m n (plain_has laws namespace plain m is) h)

none_same : AreIdentified → (namespace other : Namespace) → registered namespace ≢ registered other → (n m : Text) → IsIdentifier other m
    → identifier_of namespace (codes "rft_id") (uri_of other m) ≡ Some n → uri_of other m ≡ uri_of namespace n
none_same laws namespace other apart n m is h =
    absurd (none_given (identifier_of namespace (codes "rft_id") (uri_of other m)) n (uri_has_none laws other namespace m is apart) h)

own_or_doi : AreIdentified → (other : Namespace) (n m : Text) → IsIdentifier other m
    → identifier_of (registered other) (codes "rft_id") (uri_of other m) ≡ Some n → uri_of other m ≡ uri_of (registered other) n
own_or_doi laws Doi n m is h = own_same laws Doi refl n m is h
own_or_doi laws Pmid n m is h = own_same laws Pmid refl n m is h
own_or_doi laws Oclc n m is h = own_same laws Oclc refl n m is h
own_or_doi laws Pmc n m is h = own_same laws Pmc refl n m is h
own_or_doi laws Arxiv n m is h =
    laws.preprint_uri m
    ∙ ap (uri_of Doi) (some_same (identifier_of Doi (codes "rft_id") (uri_of Arxiv m)) (arxiv_doi m) n (preprint_has laws m is) h)

-- the identifier in a URI has that URI
uri_same : AreIdentified → (namespace other : Namespace) → IsPlain namespace → (n m : Text) → IsIdentifier other m
    → identifier_of namespace (codes "rft_id") (uri_of other m) ≡ Some n → uri_of other m ≡ uri_of namespace n
uri_same laws namespace other plain n m is h =
    elim (same_or_apart (registered namespace) (registered other)) [
      | inl e ↦
          subst (λ k. identifier_of k (codes "rft_id") (uri_of other m) ≡ Some n → uri_of other m ≡ uri_of k n) (sym e ∙ plain)
          (own_or_doi laws other n m is) h
      | inr other_uris ↦ none_same laws namespace other other_uris n m is h
    ]

referent_known : AreIdentified → (namespace : Namespace) → IsPlain namespace → (v n : Text) → IsReferentUri v
    → identifier_of namespace (codes "rft_id") v ≡ Some n → bytes_eq v (uri_of namespace n) ≡ true
referent_known laws namespace plain _ n (registered_uri other m is) h =
    ap (bytes_eq (uri_of other m)) (sym (uri_same laws namespace other plain n m is h)) ∙ bytes_eq-same (uri_of other m)
referent_known laws namespace plain v n (other_uri _ none) h =
    let no : identifier_of namespace (codes "rft_id") v ≡ None = none namespace in cc

referents_known : AreIdentified → (namespace : Namespace) → IsPlain namespace → (values : List Text) → All IsReferentUri values
    → IsAll (λ n. is_one_of values (uri_of namespace n) ≡ true) (first_found (identifier_of namespace (codes "rft_id")) values)
referents_known laws namespace plain [] all n h = cc
referents_known laws namespace plain (v ∷ vs) all n h =
    by_found (identifier_of namespace (codes "rft_id") v) refl (referents_known laws namespace plain vs (All-tail IsReferentUri v vs all) n)
    (sym (found-cons (identifier_of namespace (codes "rft_id")) v vs) ∙ h)
  where
    by_found : (o : Option Text) → identifier_of namespace (codes "rft_id") v ≡ o
        → (first_found (identifier_of namespace (codes "rft_id")) vs ≡ Some n → is_one_of vs (uri_of namespace n) ≡ true)
        → option_or o (first_found (identifier_of namespace (codes "rft_id")) vs) ≡ Some n → is_one_of (v ∷ vs) (uri_of namespace n) ≡ true
    by_found None e more g = more_known v vs (uri_of namespace n) (more g)
    by_found (Some m) e more g =
        ap (λ b. b || is_one_of vs (uri_of namespace n)) (referent_known laws namespace plain v n (All-head IsReferentUri v vs all) (e ∙ g))

-- the other keys have none
rest_none : (pairs : List KeyValue) → All (λ key. Under pairs key (HasNoIdentifier key)) source_keys → (namespace : Namespace)
    → rest_of namespace pairs ≡ None
rest_none pairs others namespace =
    found_none (first_under namespace pairs) source_keys (λ k d h. let key = get_or source_keys k d in
    found_none (identifier_of namespace key) (all_of pairs key) (λ j e g. others k d h j e g namespace))

canonical_first : AreIdentified → (pairs : List KeyValue) → Under pairs (codes "rft_id") IsReferentUri
    → All (λ key. Under pairs key (HasNoIdentifier key)) source_keys → (namespace : Namespace) → IsPlain namespace → IsFirstNamed pairs namespace
canonical_first laws pairs referents others namespace plain =
    let values = all_of pairs (codes "rft_id") in
    among_named pairs namespace None values (rest_none pairs others namespace) refl
    (by_found (first_found (identifier_of namespace (codes "rft_id")) values) (referents_known laws namespace plain values referents))
  where
    by_found : (found : Option Text) → IsAll (λ n. is_one_of (all_of pairs (codes "rft_id")) (uri_of namespace n) ≡ true) found
        → named namespace (option_or found None) (all_of pairs (codes "rft_id")) ≡ unchanged
    by_found None h = refl
    by_found (Some n) h = known_named namespace n (all_of pairs (codes "rft_id")) (h n refl)

-- a URI without a DOI has no identifier of arXiv
no_preprint : AreIdentified → (v : Text) → IsReferentUri v → identifier_of Doi (codes "rft_id") v ≡ None
    → identifier_of Arxiv (codes "rft_id") v ≡ None
no_preprint laws _ (registered_uri Doi m is) h =
    absurd (none_given (identifier_of Doi (codes "rft_id") (uri_of Doi m)) m h (plain_has laws Doi refl m is))
no_preprint laws _ (registered_uri Arxiv m is) h =
    absurd (none_given (identifier_of Doi (codes "rft_id") (uri_of Arxiv m)) (arxiv_doi m) h (preprint_has laws m is))
no_preprint laws _ (registered_uri Pmid m is) h = uri_has_none laws Pmid Arxiv m is (apart Doi Pmid refl)
no_preprint laws _ (registered_uri Oclc m is) h = uri_has_none laws Oclc Arxiv m is (apart Doi Oclc refl)
no_preprint laws _ (registered_uri Pmc m is) h = uri_has_none laws Pmc Arxiv m is (apart Doi Pmc refl)
no_preprint laws v (other_uri _ none) h = none Arxiv

or_none : (a b : Option Text) → option_or a b ≡ None → (a ≡ None) × (b ≡ None)
or_none None b h = (refl, h)
or_none (Some n) b h = cc

no_preprints : AreIdentified → (values : List Text) → All IsReferentUri values → first_found (identifier_of Doi (codes "rft_id")) values ≡ None
    → first_found (identifier_of Arxiv (codes "rft_id")) values ≡ None
no_preprints laws [] all h = refl
no_preprints laws (v ∷ vs) all h =
    let dois = identifier_of Doi (codes "rft_id") in
    let preprints = identifier_of Arxiv (codes "rft_id") in
    let none = or_none (dois v) (first_found dois vs) (sym (found-cons dois v vs) ∙ h) in
    found-cons preprints v vs
    ∙ ap (λ o. option_or o (first_found preprints vs)) (no_preprint laws v (All-head IsReferentUri v vs all) none.0)
    ∙ no_preprints laws vs (All-tail IsReferentUri v vs all) none.1

alone_among : (pairs : List KeyValue) → All (λ key. Under pairs key (HasNoIdentifier key)) source_keys → (namespace : Namespace)
    → first_identifier namespace pairs ≡ option_or (first_found (identifier_of namespace (codes "rft_id")) (all_of pairs (codes "rft_id"))) None
alone_among pairs others namespace =
    first-among namespace pairs ∙ ap (λ rest. among namespace rest (all_of pairs (codes "rft_id"))) (rest_none pairs others namespace)

canonical_preprint : AreIdentified → (pairs : List KeyValue) → Under pairs (codes "rft_id") IsReferentUri
    → All (λ key. Under pairs key (HasNoIdentifier key)) source_keys → IsNamed pairs Arxiv
canonical_preprint laws pairs referents others = by_found (first_identifier Doi pairs) refl
  where
    by_found : (found : Option Text) → first_identifier Doi pairs ≡ found → IsNamed pairs Arxiv
    by_found (Some d) e = beside_doi pairs d e
    by_found None e =
        let values = all_of pairs (codes "rft_id") in
        let none = or_none (first_found (identifier_of Doi (codes "rft_id")) values) None (sym (alone_among pairs others Doi) ∙ e) in
        let other : first_identifier Arxiv pairs ≡ None =
        alone_among pairs others Arxiv ∙ ap (λ o. option_or o None) (no_preprints laws values referents none.0) in
        ap (λ o. named Arxiv (cond (is_some o) None (first_identifier Arxiv pairs)) values) e ∙ ap (λ o. named Arxiv o values) other

pub canonical_named : AreIdentified → (pairs : List KeyValue) → Under pairs (codes "rft_id") IsReferentUri
    → All (λ key. Under pairs key (HasNoIdentifier key)) source_keys → (namespace : Namespace) → IsNamed pairs namespace
canonical_named laws pairs referents others Doi = canonical_first laws pairs referents others Doi refl
canonical_named laws pairs referents others Pmid = canonical_first laws pairs referents others Pmid refl
canonical_named laws pairs referents others Oclc = canonical_first laws pairs referents others Oclc refl
canonical_named laws pairs referents others Pmc = canonical_first laws pairs referents others Pmc refl
canonical_named laws pairs referents others Arxiv = canonical_preprint laws pairs referents others
