-- What has its origin in the request, also after the steps of DOIs and of arXiv.
use Rattle.std.proofs.Common.{◌≡◌, List, [], None, refl, sym, subst, ap, ◌∙◌, inl, inr, get_or, lit<}
use Rattle.std.specs.Prelude.{◌≢◌, codes}
use Rattle.std.specs.List.{All}
use Rattle.std.proofs.lemmas.List.Elements.{All-append}
use Rattle.text_model.specs.Texts.{Text}
use Rattle.kev_read.specs.Pairs.{KeyValue, all_of}
use Rattle.work_identifiers.specs.declared.namespace.Namespace.{Namespace}
use Rattle.work_identifiers.specs.declared.namespace.Namespace.TheVariants.{Doi, Arxiv}
use Rattle.work_identifiers.specs.Forms.{IsIdentifier}
use Rattle.work_identifiers.specs.Uris.{uri_of, registered, arxiv_doi}
use Rattle.openurl_reading.specs.Steps.{taken}
use Rattle.openurl_reading.specs.Identifiers.{identifier_of, identifier_keys, first_under, first_identifier, nameable, named, naming}
use Rattle.openurl_reading.specs.Origins.{HasOrigin, doi_of_preprint}
use Rattle.openurl_reading.proofs.Apart.{same_or_apart}
use Rattle.openurl_reading.proofs.Each.{each_named}
use Rattle.openurl_reading.proofs.FoundAre.{IsAll}
use Rattle.openurl_reading.proofs.Identified.{IsPlain, AreIdentified, found_is, nameable_identifier, uri_has_none, some_same, none_given}
use Rattle.openurl_reading.proofs.Named.{plain_has}
use Rattle.openurl_reading.proofs.IdentifierOrigins.{identifier_has_origin, uri_has_origin, GivesRead, AreRead}
use Rattle.openurl_reading.proofs.IdentifierOrigins.{nameable_read, source_values, with_values}

-- ---- what has its origin in the request, also after the steps of DOIs and of arXiv

-- the identifier, and its URI
abbrev HasBoth : List Text → Namespace → Text → Type 0
HasBoth sent namespace n = HasOrigin sent n × HasOrigin sent (uri_of namespace n)

-- what is found in a value of a key has
abbrev GivesOrigin : List Text → Text → Text → Type 0
GivesOrigin sent key value = (namespace : Namespace) → IsPlain namespace → IsAll (HasBoth sent namespace) (identifier_of namespace key value)

abbrev pub HaveOrigins : List Text → List KeyValue → Type 0
HaveOrigins sent pairs = All (λ key. All (GivesOrigin sent key) (all_of pairs key)) identifier_keys

read_origin : (sent : List Text) (key value : Text) → GivesRead sent key value → GivesOrigin sent key value
read_origin sent key value read namespace plain n e =
    let is = read namespace n e in (identifier_has_origin sent namespace n is, uri_has_origin sent namespace n is)

read_origins : (sent : List Text) (pairs : List KeyValue) → AreRead sent pairs → HaveOrigins sent pairs
read_origins sent pairs all k d h j e g =
    let key = get_or identifier_keys k d in read_origin sent key (get_or (all_of pairs key) j e) (all k d h j e g)

under_origin : (sent : List Text) (namespace : Namespace) (pairs : List KeyValue) (key : Text) → IsPlain namespace
    → All (GivesOrigin sent key) (all_of pairs key) → IsAll (HasBoth sent namespace) (first_under namespace pairs key)
under_origin sent namespace pairs key plain all =
    found_is (HasBoth sent namespace) (identifier_of namespace key) (all_of pairs key) (λ k d h. all k d h namespace plain)

other_origin : AreIdentified → (sent : List Text) (uri d : Text) → uri ≡ uri_of Doi d → IsIdentifier Doi d → (namespace : Namespace)
    → registered namespace ≢ registered Doi
    → IsAll (HasBoth sent namespace) (identifier_of namespace (codes "rft_id") uri)
other_origin laws sent uri d same is namespace apart n e =
    let none : identifier_of namespace (codes "rft_id") uri ≡ None =
    ap (identifier_of namespace (codes "rft_id")) same ∙ uri_has_none laws Doi namespace d is apart in
    absurd (none_given (identifier_of namespace (codes "rft_id") uri) n none e)

doi_alone : AreIdentified → (sent : List Text) (uri d : Text) → uri ≡ uri_of Doi d → IsIdentifier Doi d → HasOrigin sent d → HasOrigin sent uri
    → IsAll (HasBoth sent Doi) (identifier_of Doi (codes "rft_id") uri)
doi_alone laws sent uri d same is has has_uri n e =
    let one : d ≡ n =
    some_same (identifier_of Doi (codes "rft_id") uri) d n (ap (identifier_of Doi (codes "rft_id")) same ∙ plain_has laws Doi refl d is) e in
    (subst (HasOrigin sent) one has, subst (HasOrigin sent) (same ∙ ap (uri_of Doi) one) has_uri)

-- the URI of a DOI has that DOI alone
doi_origin : AreIdentified → (sent : List Text) (uri d : Text) → uri ≡ uri_of Doi d → IsIdentifier Doi d → HasOrigin sent d → HasOrigin sent uri
    → GivesOrigin sent (codes "rft_id") uri
doi_origin laws sent uri d same is has has_uri namespace plain =
    elim (same_or_apart namespace Doi) [
      | inl doi ↦
          subst (λ k. IsAll (HasBoth sent k) (identifier_of k (codes "rft_id") uri)) (sym doi) (doi_alone laws sent uri d same is has has_uri)
      | inr other ↦ other_origin laws sent uri d same is namespace (λ doi. other (sym plain ∙ doi))
    ]

preprint_gives : AreIdentified → (sent : List Text) (pairs : List KeyValue) → AreRead sent pairs
    → All (GivesOrigin sent (codes "rft_id")) (all_of (taken pairs (naming Arxiv)) (codes "rft_id"))
preprint_gives laws sent pairs all =
    let key = codes "rft_id" in
    let values = all_of pairs key in
    let P : Text → Type 0 = GivesOrigin sent key in
    subst (All P) (sym (source_values Arxiv pairs))
    (All-append P (named Arxiv (nameable Arxiv pairs) values).values values
    (each_named P Arxiv (nameable Arxiv pairs) values
    (λ n e.
    let read = nameable_read sent Arxiv pairs all n e in
    doi_origin laws sent (uri_of Arxiv n) (arxiv_doi n) (laws.preprint_uri n) (laws.preprint n (nameable_identifier laws Arxiv pairs n e))
    (doi_of_preprint read.key read.value n read.is_sent read.is) (uri_has_origin sent Arxiv n read)))
    (read_origins sent pairs all 0 [] (lit< tt)))

pub preprint_origins : AreIdentified → (sent : List Text) (pairs : List KeyValue) → AreRead sent pairs
    → HaveOrigins sent (taken pairs (naming Arxiv))
preprint_origins laws sent pairs all =
    with_values (GivesOrigin sent) Arxiv pairs (read_origins sent pairs all) (preprint_gives laws sent pairs all)

pub first_origin : (sent : List Text) (pairs : List KeyValue) → HaveOrigins sent pairs → IsAll (HasBoth sent Doi) (first_identifier Doi pairs)
first_origin sent pairs all =
    found_is (HasBoth sent Doi) (first_under Doi pairs) identifier_keys
    (λ k d h. under_origin sent Doi pairs (get_or identifier_keys k d) refl (all k d h))

pub referent_origin : (sent : List Text) (namespace : Namespace) (pairs : List KeyValue) → IsPlain namespace → HaveOrigins sent pairs
    → IsAll (HasBoth sent namespace) (first_under namespace pairs (codes "rft_id"))
referent_origin sent namespace pairs plain all = under_origin sent namespace pairs (codes "rft_id") plain (all 0 [] (lit< tt))

doi_gives : AreIdentified → (sent : List Text) (pairs : List KeyValue) → HaveOrigins sent pairs
    → All (GivesOrigin sent (codes "rft_id")) (all_of (taken pairs (naming Doi)) (codes "rft_id"))
doi_gives laws sent pairs all =
    let key = codes "rft_id" in
    let values = all_of pairs key in
    let P : Text → Type 0 = GivesOrigin sent key in
    subst (All P) (sym (source_values Doi pairs))
    (All-append P (named Doi (nameable Doi pairs) values).values values
    (each_named P Doi (nameable Doi pairs) values
    (λ n e. let has = first_origin sent pairs all n e in doi_origin laws sent (uri_of Doi n) n refl (nameable_identifier laws Doi pairs n e) has.0 has.1))
    (all 0 [] (lit< tt)))

pub doi_origins : AreIdentified → (sent : List Text) (pairs : List KeyValue) → HaveOrigins sent pairs → HaveOrigins sent (taken pairs (naming Doi))
doi_origins laws sent pairs all = with_values (GivesOrigin sent) Doi pairs all (doi_gives laws sent pairs all)
