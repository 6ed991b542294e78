-- The identifier of arXiv in `rft_id`, and all identifiers after all steps.
use Rattle.std.proofs.Common.{◌≡◌, List, [], ◌∷◌, Bool, true, false, cond, Option, Some, None, refl, sym, ap, ◌∙◌}
use Rattle.std.specs.Prelude.{codes}
use Rattle.std.specs.Option.{option_or, is_some}
use Rattle.text_model.specs.Texts.{Text}
use Rattle.kev_read.specs.Pairs.{KeyValue, all_of}
use Rattle.work_identifiers.specs.declared.namespace.Namespace.{Namespace}
use Rattle.work_identifiers.specs.declared.namespace.Namespace.TheVariants.{Doi, Pmid, Oclc, Pmc, Arxiv}
use Rattle.work_identifiers.specs.Forms.{IsIdentifier}
use Rattle.work_identifiers.specs.Uris.{uri_of, arxiv_doi}
use Rattle.openurl_reading.specs.Keys.{is_one_of}
use Rattle.openurl_reading.specs.Steps.{unchanged, leading, taken, after}
use Rattle.openurl_reading.specs.Identifiers.{identifier_of, first_identifier, nameable, named, naming, namings}
use Rattle.openurl_reading.proofs.Apart.{apart}
use Rattle.openurl_reading.proofs.Identified.{first_found, found-cons, first_is, nameable_is}
use Rattle.openurl_reading.proofs.Identified.{AreIdentified, of_is, preprint_has}
use Rattle.openurl_reading.proofs.Settled.{IsNamed}
use Rattle.openurl_reading.proofs.Values.{values_after}
use Rattle.openurl_reading.proofs.Named.{rest_of, among, first-among}
use Rattle.openurl_reading.proofs.Named.{plain_has, known_named}
use Rattle.openurl_reading.proofs.Named.{rest-same, now_values, own_named}
use Rattle.openurl_reading.proofs.Named.{still}

-- ---- the step of arXiv

pub first_same : (namespace other : Namespace) (pairs : List KeyValue)
    → all_of (taken pairs (naming other)) (codes "rft_id") ≡ all_of pairs (codes "rft_id")
    → first_identifier namespace (taken pairs (naming other)) ≡ first_identifier namespace pairs
first_same namespace other pairs e =
    let now = taken pairs (naming other) in
    first-among namespace now ∙ ap (λ rest. among namespace rest (all_of now (codes "rft_id"))) (rest-same namespace other pairs)
    ∙ ap (among namespace (rest_of namespace pairs)) e ∙ sym (first-among namespace pairs)

-- a DOI whose URI leads is the first one
pub doi_leads : (other : Namespace) (pairs : List KeyValue) (uri d : Text)
    → all_of (taken pairs (naming other)) (codes "rft_id") ≡ uri ∷ all_of pairs (codes "rft_id") → identifier_of Doi (codes "rft_id") uri ≡ Some d
    → first_identifier Doi (taken pairs (naming other)) ≡ Some d
doi_leads other pairs uri d e has =
    let now = taken pairs (naming other) in
    let values = all_of pairs (codes "rft_id") in
    let find = identifier_of Doi (codes "rft_id") in
    let rest = rest_of Doi now in
    first-among Doi now ∙ ap (among Doi rest) e ∙ ap (λ o. option_or o rest) (found-cons find uri values)
    ∙ ap (λ o. option_or (option_or o (first_found find values)) rest) has

-- beside a DOI none of arXiv is named
pub beside_doi : (pairs : List KeyValue) (d : Text) → first_identifier Doi pairs ≡ Some d → IsNamed pairs Arxiv
beside_doi pairs d e =
    ap (λ o. named Arxiv (cond (is_some o) None (first_identifier Arxiv pairs)) (all_of pairs (codes "rft_id"))) e

pub preprint_stays : (other : Namespace) (pairs : List KeyValue)
    → all_of (taken pairs (naming other)) (codes "rft_id") ≡ all_of pairs (codes "rft_id") → IsNamed pairs Arxiv
    → IsNamed (taken pairs (naming other)) Arxiv
preprint_stays other pairs e h =
    let now = taken pairs (naming other) in
    let known = all_of now (codes "rft_id") in
    ap (λ o. named Arxiv (cond (is_some o) None (first_identifier Arxiv now)) known) (first_same Doi other pairs e)
    ∙ ap (λ o. named Arxiv (cond (is_some (first_identifier Doi pairs)) None o) known) (first_same Arxiv other pairs e)
    ∙ ap (named Arxiv (nameable Arxiv pairs)) e ∙ h

-- after a step that names what has a DOI
pub names_doi : (other : Namespace) (pairs : List KeyValue) (n d : Text) → nameable other pairs ≡ Some n
    → identifier_of Doi (codes "rft_id") (uri_of other n) ≡ Some d
    → (is_one_of (all_of pairs (codes "rft_id")) (uri_of other n) ≡ true → IsNamed pairs Arxiv) → IsNamed (taken pairs (naming other)) Arxiv
names_doi other pairs n d e has known = by_test (is_one_of (all_of pairs (codes "rft_id")) (uri_of other n)) refl
  where
    by_test : (b : Bool) → is_one_of (all_of pairs (codes "rft_id")) (uri_of other n) ≡ b → IsNamed (taken pairs (naming other)) Arxiv
    by_test true t =
        preprint_stays other pairs
        (now_values other pairs (Some n) e ∙ ap (λ b. values_after (cond b unchanged (leading (uri_of other n ∷ []))) (all_of pairs (codes "rft_id"))) t)
        (known t)
    by_test false t =
        beside_doi (taken pairs (naming other)) d
        (doi_leads other pairs (uri_of other n) d
        (now_values other pairs (Some n) e ∙ ap (λ b. values_after (cond b unchanged (leading (uri_of other n ∷ []))) (all_of pairs (codes "rft_id"))) t)
        has)

pub preprint_own : AreIdentified → (pairs : List KeyValue) → IsNamed (taken pairs (naming Arxiv)) Arxiv
preprint_own laws pairs = by_found (nameable Arxiv pairs) refl
  where
    by_found : (found : Option Text) → nameable Arxiv pairs ≡ found → IsNamed (taken pairs (naming Arxiv)) Arxiv
    by_found None e =
        preprint_stays Arxiv pairs (now_values Arxiv pairs None e) (ap (λ o. named Arxiv o (all_of pairs (codes "rft_id"))) e)
    by_found (Some n) e =
        let is : IsIdentifier Arxiv n =
        nameable_is (IsIdentifier Arxiv) Arxiv pairs (first_is (IsIdentifier Arxiv) Arxiv (of_is laws Arxiv) pairs) n e in
        names_doi Arxiv pairs n (arxiv_doi n) e (preprint_has laws n is)
        (λ t. ap (λ o. named Arxiv o (all_of pairs (codes "rft_id"))) e ∙ known_named Arxiv n (all_of pairs (codes "rft_id")) t)

pub preprint_still : AreIdentified → (pairs : List KeyValue) → IsNamed pairs Arxiv → IsNamed (taken pairs (naming Doi)) Arxiv
preprint_still laws pairs h = by_found (nameable Doi pairs) refl
  where
    by_found : (found : Option Text) → nameable Doi pairs ≡ found → IsNamed (taken pairs (naming Doi)) Arxiv
    by_found None e = preprint_stays Doi pairs (now_values Doi pairs None e) h
    by_found (Some d) e =
        names_doi Doi pairs d d e (plain_has laws Doi refl d (first_is (IsIdentifier Doi) Doi (of_is laws Doi) pairs d e)) (λ t. h)

-- ---- after all of them

pub works_named : AreIdentified → (pairs : List KeyValue) (namespace : Namespace) → IsNamed (after namings pairs) namespace
works_named laws pairs Oclc =
    let first = taken pairs (naming Oclc) in
    let second = taken first (naming Pmc) in
    let third = taken second (naming Pmid) in
    still laws Oclc Doi (apart Oclc Doi refl) (taken third (naming Arxiv)) (still laws Oclc Arxiv (apart Oclc Doi refl) third
    (still laws Oclc Pmid (apart Oclc Pmid refl) second (still laws Oclc Pmc (apart Oclc Pmc refl) first (own_named laws Oclc refl pairs refl))))
works_named laws pairs Pmc =
    let first = taken pairs (naming Oclc) in
    let second = taken first (naming Pmc) in
    let third = taken second (naming Pmid) in
    still laws Pmc Doi (apart Pmc Doi refl) (taken third (naming Arxiv)) (still laws Pmc Arxiv (apart Pmc Doi refl) third
    (still laws Pmc Pmid (apart Pmc Pmid refl) second (own_named laws Pmc refl first refl)))
works_named laws pairs Pmid =
    let second = taken (taken pairs (naming Oclc)) (naming Pmc) in
    let third = taken second (naming Pmid) in
    still laws Pmid Doi (apart Pmid Doi refl) (taken third (naming Arxiv)) (still laws Pmid Arxiv (apart Pmid Doi refl) third
    (own_named laws Pmid refl second refl))
works_named laws pairs Arxiv =
    let third = taken (taken (taken pairs (naming Oclc)) (naming Pmc)) (naming Pmid) in
    preprint_still laws (taken third (naming Arxiv)) (preprint_own laws third)
works_named laws pairs Doi =
    let third = taken (taken (taken pairs (naming Oclc)) (naming Pmc)) (naming Pmid) in own_named laws Doi refl (taken third (naming Arxiv)) refl

pub named-keeps : (namespace : Namespace) (found : Option Text) (values : List Text) → (named namespace found values).keeps ≡ true
named-keeps namespace None values = refl
named-keeps namespace (Some n) values = by_test (is_one_of values (uri_of namespace n))
  where
    by_test : (b : Bool) → (cond b unchanged (leading (uri_of namespace n ∷ []))).keeps ≡ true
    by_test true = refl
    by_test false = refl
