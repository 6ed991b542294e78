-- Each identifier that is found was read in one value of the request, or in what is read of one as a title.
use Rattle.std.proofs.Common.{◌≡◌, List, [], ◌∷◌, ◌++◌, true, cond, not, Some, refl, sym, subst, ap, ◌∙◌, inl, inr, get_or, lit<}
use Rattle.std.specs.Prelude.{◌≢◌, codes}
use Rattle.std.specs.List.{All, list_all}
use Rattle.std.specs.Str.{bytes_eq}
use Rattle.std.proofs.lemmas.Bool.{not-true}
use Rattle.std.proofs.lemmas.List.Sums.{AllPass-from_list_all}
use Rattle.std.proofs.lemmas.List.Elements.{All-append, All-cons, All-tail}
use Rattle.text_model.specs.Texts.{Text}
use Rattle.kev_read.specs.Pairs.{KeyValue, all_of}
use Rattle.work_identifiers.specs.declared.namespace.Namespace.{Namespace}
use Rattle.work_identifiers.specs.declared.namespace.Namespace.TheVariants.{Doi}
use Rattle.work_identifiers.specs.Forms.{IsIdentifier}
use Rattle.work_identifiers.specs.Uris.{uri_of, registered}
use Rattle.openurl_reading.specs.Keys.{is_one_of}
use Rattle.openurl_reading.specs.Steps.{taken, after}
use Rattle.openurl_reading.specs.Retractions.{sent_titles}
use Rattle.openurl_reading.specs.Texts.{title_texts, text_steps}
use Rattle.openurl_reading.specs.Referrers.{referrer_step}
use Rattle.openurl_reading.specs.Numbers.{issn_step, eissn_step, isbn_step}
use Rattle.openurl_reading.specs.Dates.{date_step}
use Rattle.openurl_reading.specs.Identifiers.{identifier_of, source_keys, identifier_keys, first_under, first_identifier, nameable, named, naming}
use Rattle.openurl_reading.specs.Pages.{page_steps}
use Rattle.openurl_reading.specs.Volumes.{volume_steps}
use Rattle.openurl_reading.specs.Origins.{IsTextOf, as_sent, HasOrigin, identifier_in_value, uri_of_identifier}
use Rattle.openurl_reading.proofs.Apart.{same_or_apart, own_uris}
use Rattle.openurl_reading.proofs.Each.{each_named}
use Rattle.openurl_reading.proofs.FoundAre.{IsAll}
use Rattle.openurl_reading.proofs.Identified.{IsPlain, AreIdentified, found_is, nameable_is, nameable_identifier, uri_has_none, some_same, none_given}
use Rattle.openurl_reading.proofs.KeysSettle.{same_after}
use Rattle.openurl_reading.proofs.Named.{sources_apart, plain_has}
use Rattle.openurl_reading.proofs.NamedPreprints.{named-keeps}
use Rattle.openurl_reading.proofs.Sent.{constant_keys, AreKept}
use Rattle.openurl_reading.proofs.Values.{all_of-taken, all_of-taken-own}

-- it is read in a value of the request, or in what is read of one as a title
pub record IsRead (sent : List Text) (namespace : Namespace) (n : Text) : Type 0 where
  pub key : Text
  pub value : Text
  pub is_sent : IsTextOf sent value
  pub is : identifier_of namespace key value ≡ Some n

pub identifier_has_origin : (sent : List Text) (namespace : Namespace) (n : Text) → IsRead sent namespace n → HasOrigin sent n
identifier_has_origin sent namespace n read = identifier_in_value namespace read.key read.value n read.is_sent read.is

pub uri_has_origin : (sent : List Text) (namespace : Namespace) (n : Text) → IsRead sent namespace n → HasOrigin sent (uri_of namespace n)
uri_has_origin sent namespace n read = uri_of_identifier namespace read.key read.value n read.is_sent read.is

-- what is found in a value of a key is
abbrev pub GivesRead : List Text → Text → Text → Type 0
GivesRead sent key value = (namespace : Namespace) → IsAll (IsRead sent namespace) (identifier_of namespace key value)

abbrev pub AreRead : List Text → List KeyValue → Type 0
AreRead sent pairs = All (λ key. All (GivesRead sent key) (all_of pairs key)) identifier_keys

pub sent_read : (sent : List Text) (pairs : List KeyValue) → All (λ key. All (IsTextOf sent) (all_of pairs key)) identifier_keys
    → AreRead sent pairs
sent_read sent pairs all k d h j e g namespace n is =
    let key = get_or identifier_keys k d in
    record { key = key; value = get_or (all_of pairs key) j e; is_sent = all k d h j e g; is = is }

-- the keys of identifiers before those of titles, and the keys of titles in OpenURL 0.1
abbrev first_keys : List Text
first_keys =
    codes "rft_id" ∷ codes "id" ∷ codes "rft.doi" ∷ codes "doi" ∷ codes "pmid" ∷ codes "rft.pmid" ∷ codes "pmcid" ∷ codes "rft.pmcid" ∷
    codes "rft.identifier" ∷ codes "url" ∷ []

abbrev old_titles : List Text
old_titles = codes "atitle" ∷ codes "jtitle" ∷ codes "btitle" ∷ codes "title" ∷ []

-- the values of each key are texts of the request
abbrev AreTexts : List Text → List KeyValue → List Text → Type 0
AreTexts sent pairs keys = All (λ key. All (IsTextOf sent) (all_of pairs key)) keys

kept_texts : (sent : List Text) (copied : List KeyValue) (keys : List Text) → AreKept sent copied
    → list_all (λ key. not (is_one_of constant_keys key)) keys ≡ true
    → list_all (λ key. list_all (λ step. not (bytes_eq step.key key)) text_steps) keys ≡ true → AreTexts sent copied keys
kept_texts sent copied keys is others unread k d h j e g =
    let key = get_or keys k d in
    as_sent (get_or (all_of copied key) j e)
    (is key (
      not-true _ (AllPass-from_list_all (λ key. not (is_one_of constant_keys key)) keys others k d h),
      AllPass-from_list_all (λ key. list_all (λ step. not (bytes_eq step.key key)) text_steps) keys unread k d h,
    ) j e g)

-- after the steps before those that name works, each value is one of the request, or what is read of one as a title
pub identifiers_under : (sent : List Text) (copied : List KeyValue) → AreKept sent copied
    → All (λ key. All (IsTextOf sent) (all_of copied key)) title_texts
    → AreRead sent (after (referrer_step ∷ issn_step ∷ eissn_step ∷ isbn_step ∷ date_step ∷ volume_steps ++ page_steps) copied)
identifiers_under sent copied is titles =
    let P : Text → Type 0 = λ key. All (IsTextOf sent) (all_of copied key) in
    let known : AreTexts sent copied identifier_keys =
    All-append P first_keys sent_titles (kept_texts sent copied first_keys is refl refl)
    (All-append P title_texts old_titles titles (kept_texts sent copied old_titles is refl refl)) in
    let steps = referrer_step ∷ issn_step ∷ eissn_step ∷ isbn_step ∷ date_step ∷ volume_steps ++ page_steps in
    sent_read sent (after steps copied) (λ k d h.
    let key = get_or identifier_keys k d in
    subst (All (IsTextOf sent)) (sym (same_after steps copied key (AllPass-from_list_all (λ key. list_all (λ step. not (bytes_eq step.key key)) steps)
    identifier_keys refl k d h))) (known k d h))

-- ---- what a request has

pub under_read : (sent : List Text) (namespace : Namespace) (pairs : List KeyValue) (key : Text) → All (GivesRead sent key) (all_of pairs key)
    → IsAll (IsRead sent namespace) (first_under namespace pairs key)
under_read sent namespace pairs key all =
    found_is (IsRead sent namespace) (identifier_of namespace key) (all_of pairs key) (λ k d h. all k d h namespace)

pub first_read : (sent : List Text) (namespace : Namespace) (pairs : List KeyValue) → AreRead sent pairs
    → IsAll (IsRead sent namespace) (first_identifier namespace pairs)
first_read sent namespace pairs all =
    found_is (IsRead sent namespace) (first_under namespace pairs) identifier_keys
    (λ k d h. under_read sent namespace pairs (get_or identifier_keys k d) (all k d h))

pub referent_read : (sent : List Text) (namespace : Namespace) (pairs : List KeyValue) → AreRead sent pairs
    → IsAll (IsRead sent namespace) (first_under namespace pairs (codes "rft_id"))
referent_read sent namespace pairs all = under_read sent namespace pairs (codes "rft_id") (all 0 [] (lit< tt))

pub nameable_read : (sent : List Text) (namespace : Namespace) (pairs : List KeyValue) → AreRead sent pairs
    → IsAll (IsRead sent namespace) (nameable namespace pairs)
nameable_read sent namespace pairs all = nameable_is (IsRead sent namespace) namespace pairs (first_read sent namespace pairs all)

-- ---- after a step

-- the values of `rft_id`
pub source_values : (namespace : Namespace) (pairs : List KeyValue) → all_of (taken pairs (naming namespace)) (codes "rft_id")
    ≡ (named namespace (nameable namespace pairs) (all_of pairs (codes "rft_id"))).values ++ all_of pairs (codes "rft_id")
source_values namespace pairs =
    let values = all_of pairs (codes "rft_id") in
    let found = nameable namespace pairs in
    all_of-taken-own (naming namespace) pairs
    ∙ ap (λ b. (named namespace found values).values ++ cond b values []) (named-keeps namespace found values)

-- what holds of those, and held of the values of all keys
pub with_values : (P : Text → Text → Type 0) (namespace : Namespace) (pairs : List KeyValue)
    → All (λ key. All (P key) (all_of pairs key)) identifier_keys → All (P (codes "rft_id")) (all_of (taken pairs (naming namespace)) (codes "rft_id"))
    → All (λ key. All (P key) (all_of (taken pairs (naming namespace)) key)) identifier_keys
with_values P namespace pairs all own =
    let now = taken pairs (naming namespace) in
    All-cons (λ key. All (P key) (all_of now key)) (codes "rft_id") source_keys own
    (λ k d h. let key = get_or source_keys k d in
    subst (All (P key)) (sym (all_of-taken (naming namespace) pairs key (sources_apart k d h)))
    (All-tail (λ key. All (P key) (all_of pairs key)) (codes "rft_id") source_keys all k d h))

-- a namespace whose URIs have no DOI
abbrev pub IsApart : Namespace → Type 0
IsApart namespace = IsPlain namespace × (registered namespace ≢ Doi)

-- a URI has its identifier and no other
pub own_gives : AreIdentified → (namespace : Namespace) → IsPlain namespace → (n m : Text) → IsIdentifier namespace n
    → identifier_of namespace (codes "rft_id") (uri_of namespace n) ≡ Some m → (namespace ≡ namespace) × (n ≡ m)
own_gives laws namespace plain n m is h =
    (refl, some_same (identifier_of namespace (codes "rft_id") (uri_of namespace n)) n m (plain_has laws namespace plain n is) h)

pub none_gives : AreIdentified → (namespace other : Namespace) → registered other ≢ registered namespace → (n m : Text) → IsIdentifier namespace n
    → identifier_of other (codes "rft_id") (uri_of namespace n) ≡ Some m → (namespace ≡ other) × (n ≡ m)
none_gives laws namespace other apart n m is h =
    absurd (none_given (identifier_of other (codes "rft_id") (uri_of namespace n)) m (uri_has_none laws namespace other n is apart) h)

pub apart_gives : AreIdentified → (namespace other : Namespace) → IsApart namespace → (n m : Text) → IsIdentifier namespace n
    → identifier_of other (codes "rft_id") (uri_of namespace n) ≡ Some m → (namespace ≡ other) × (n ≡ m)
apart_gives laws namespace other is_apart n m is h =
    elim (same_or_apart (registered other) (registered namespace)) [
      | inl e ↦
          let same : namespace ≡ other = sym is_apart.0 ∙ sym e ∙ own_uris other (λ doi. is_apart.1 (sym e ∙ doi)) in
          subst (λ k. identifier_of k (codes "rft_id") (uri_of namespace n) ≡ Some m → (namespace ≡ k) × (n ≡ m)) same
          (own_gives laws namespace is_apart.0 n m is) h
      | inr other_uris ↦ none_gives laws namespace other other_uris n m is h
    ]

pub uri_read : AreIdentified → (sent : List Text) (namespace : Namespace) → IsApart namespace → (n : Text) → IsIdentifier namespace n
    → IsRead sent namespace n → GivesRead sent (codes "rft_id") (uri_of namespace n)
uri_read laws sent namespace apart n is read other m h =
    let same = apart_gives laws namespace other apart n m is h in
    subst (λ o. IsRead sent o m) same.0 (subst (IsRead sent namespace) same.1 read)

pub naming_gives : AreIdentified → (sent : List Text) (namespace : Namespace) → IsApart namespace → (pairs : List KeyValue) → AreRead sent pairs
    → All (GivesRead sent (codes "rft_id")) (all_of (taken pairs (naming namespace)) (codes "rft_id"))
naming_gives laws sent namespace apart pairs all =
    let key = codes "rft_id" in
    let values = all_of pairs key in
    let P : Text → Type 0 = GivesRead sent key in
    subst (All P) (sym (source_values namespace pairs))
    (All-append P (named namespace (nameable namespace pairs) values).values values
    (each_named P namespace (nameable namespace pairs) values
    (λ n e. uri_read laws sent namespace apart n (nameable_identifier laws namespace pairs n e) (nameable_read sent namespace pairs all n e)))
    (all 0 [] (lit< tt)))

pub naming_read : AreIdentified → (sent : List Text) (namespace : Namespace) → IsApart namespace → (pairs : List KeyValue) → AreRead sent pairs
    → AreRead sent (taken pairs (naming namespace))
naming_read laws sent namespace apart pairs all =
    with_values (GivesRead sent) namespace pairs all (naming_gives laws sent namespace apart pairs all)
