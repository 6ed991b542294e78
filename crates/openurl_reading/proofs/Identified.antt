-- The first identifier that is found in texts, and what the laws of identifiers say of it.
use Rattle.std.proofs.Common.{◌≡◌, List, [], ◌∷◌, ◌++◌, Bool, true, false, cond, Option, Some, None, refl, sym, ap, ◌∙◌, get_or, append_assoc}
use Rattle.std.specs.Prelude.{◌≢◌, codes, slice_get}
use Rattle.std.specs.List.{All, filter_map, cons_option}
use Rattle.std.specs.Option.{option_or, is_some}
use Rattle.std.proofs.lemmas.List.Elements.{All-head, All-tail}
use Rattle.text_model.specs.Texts.{Text}
use Rattle.kev_read.specs.Pairs.{KeyValue, all_of}
use Rattle.work_identifiers.specs.declared.namespace.Namespace.{Namespace}
use Rattle.work_identifiers.specs.declared.namespace.Namespace.TheVariants.{Doi, Pmid, Oclc, Pmc, Arxiv}
use Rattle.work_identifiers.specs.Addresses.{doi_in_address}
use Rattle.work_identifiers.specs.Forms.{IsIdentifier}
use Rattle.work_identifiers.specs.Mentions.{mention_in}
use Rattle.work_identifiers.specs.Places.{identifier_in, identifier_alone}
use Rattle.work_identifiers.specs.Uris.{uri_start, uri_end, uri_of, canonical, registered, arxiv_doi}
use Rattle.openurl_reading.specs.Identifiers.{as_identifier, names, is_page, within, unnamed, identifier_under, identifier_of}
use Rattle.openurl_reading.specs.Identifiers.{identifier_keys, first_under, first_identifier, nameable}
use Rattle.openurl_reading.specs.Keys.{is_one_of}
use Rattle.openurl_reading.specs.Retractions.{sent_titles}
use Rattle.openurl_reading.proofs.AsIdentifiers.{found_as_it_is}
use Rattle.openurl_reading.proofs.FoundAre.{IsAll, none_is, or_is}

abbrev pub first_found : {X : Type 0} → (Text → Option X) → List Text → Option X
first_found find texts = slice_get (filter_map find texts) 0

pub first_or : {X : Type 0} (o : Option X) (found : List X) → slice_get (cons_option o found) 0 ≡ option_or o (slice_get found 0)
first_or None found = refl
first_or (Some n) found = refl

pub found-cons : {X : Type 0} (find : Text → Option X) (t : Text) (ts : List Text) → first_found find (t ∷ ts) ≡ option_or (find t) (first_found find ts)
found-cons find t ts = first_or (find t) (filter_map find ts)

-- what holds of all that is found holds of the first
pub found_is : {X : Type 0} (P : X → Type 0) (find : Text → Option X) (texts : List Text) → All (λ t. IsAll P (find t)) texts → IsAll P (first_found find texts)
found_is P find [] all n h = none_is P n h
found_is P find (t ∷ ts) all n h =
    let Q : Text → Type 0 = λ t. IsAll P (find t) in
    or_is P (find t) (first_found find ts) (All-head Q t ts all) (found_is P find ts (All-tail Q t ts all)) n (sym (found-cons find t ts) ∙ h)

pub found_none : (find : Text → Option Text) (texts : List Text) → All (λ t. find t ≡ None) texts → first_found find texts ≡ None
found_none find [] all = refl
found_none find (t ∷ ts) all =
    let Q : Text → Type 0 = λ t. find t ≡ None in
    found-cons find t ts ∙ ap (λ o. option_or o (first_found find ts)) (All-head Q t ts all) ∙ found_none find ts (All-tail Q t ts all)

pub found_same : (f g : Text → Option Text) (texts : List Text) → All (λ t. f t ≡ g t) texts → first_found f texts ≡ first_found g texts
found_same f g [] all = refl
found_same f g (t ∷ ts) all =
    let Q : Text → Type 0 = λ t. f t ≡ g t in
    found-cons f t ts ∙ ap (λ o. option_or o (first_found f ts)) (All-head Q t ts all)
    ∙ ap (option_or (g t)) (found_same f g ts (All-tail Q t ts all)) ∙ sym (found-cons g t ts)

-- of what is found in any value
pub under_is : (P : Text → Type 0) (namespace : Namespace) → ((key value : Text) → IsAll P (identifier_of namespace key value))
    → (pairs : List KeyValue) (key : Text) → IsAll P (first_under namespace pairs key)
under_is P namespace each pairs key = found_is P (identifier_of namespace key) (all_of pairs key) (λ k d h. each key (get_or (all_of pairs key) k d))

pub first_is : (P : Text → Type 0) (namespace : Namespace) → ((key value : Text) → IsAll P (identifier_of namespace key value))
    → (pairs : List KeyValue) → IsAll P (first_identifier namespace pairs)
first_is P namespace each pairs =
    found_is P (first_under namespace pairs) identifier_keys (λ k d h. under_is P namespace each pairs (get_or identifier_keys k d))

-- of what a step names
pub nameable_is : (P : Text → Type 0) (namespace : Namespace) (pairs : List KeyValue) → IsAll P (first_identifier namespace pairs)
    → IsAll P (nameable namespace pairs)
nameable_is P Doi pairs is = is
nameable_is P Pmid pairs is = is
nameable_is P Oclc pairs is = is
nameable_is P Pmc pairs is = is
nameable_is P Arxiv pairs is = by_test (is_some (first_identifier Doi pairs))
  where
    by_test : (b : Bool) → IsAll P (cond b None (first_identifier Arxiv pairs))
    by_test true = none_is P
    by_test false = is

-- ---- what the laws say

-- each namespace but that of arXiv
abbrev pub IsPlain : Namespace → Type 0
IsPlain namespace = registered namespace ≡ namespace

pub record AreIdentified : Type 0 where
  pub are : (namespace : Namespace) (text n : Text) → identifier_in namespace text ≡ Some n → IsIdentifier namespace n
  pub alone : (namespace : Namespace) (text n : Text) → identifier_alone namespace text ≡ Some n → IsIdentifier namespace n
  pub stay : (namespace : Namespace) (n : Text) → IsIdentifier namespace n → identifier_in namespace (uri_of namespace n) ≡ Some (canonical namespace n)
  pub others : (namespace other : Namespace) (text : Text) → registered other ≢ registered namespace
      → identifier_in other (uri_start namespace ++ text) ≡ None
  pub preprint : (n : Text) → IsIdentifier Arxiv n → IsIdentifier Doi (arxiv_doi n)
  pub preprint_uri : (n : Text) → uri_of Arxiv n ≡ uri_of Doi (arxiv_doi n)
  pub page : (address n : Text) → doi_in_address address ≡ Some n → IsIdentifier Doi n
  pub mention : (namespace : Namespace) (title n : Text) → mention_in namespace title ≡ Some n → IsIdentifier namespace n

unnamed_is : AreIdentified → (namespace : Namespace) (key value : Text) → IsAll (IsIdentifier namespace) (unnamed namespace key value)
unnamed_is laws namespace key value = by_name (names namespace key)
  where
    title : Namespace → Option Text
    title n = cond (is_one_of sent_titles key) (mention_in n value) None

    by_title : (n : Namespace) (b : Bool) → IsAll (IsIdentifier n) (cond b (mention_in n value) None)
    by_title n true = laws.mention n value
    by_title n false = none_is (IsIdentifier n)

    from_title : (n : Namespace) → IsAll (IsIdentifier n) (title n)
    from_title n = by_title n (is_one_of sent_titles key)

    from_page : (b : Bool) → IsAll (IsIdentifier Doi) (cond b (doi_in_address value) (title Doi))
    from_page true = laws.page value
    from_page false = from_title Doi

    by_page : (n : Namespace) → IsAll (IsIdentifier n) (within n key value)
    by_page Doi = from_page (is_page Doi key)
    by_page Pmid = from_title Pmid
    by_page Oclc = from_title Oclc
    by_page Pmc = from_title Pmc
    by_page Arxiv = from_title Arxiv

    by_name : (b : Bool) → IsAll (IsIdentifier namespace) (cond b (identifier_alone namespace value) (within namespace key value))
    by_name true = laws.alone namespace value
    by_name false = by_page namespace

pub of_is : AreIdentified → (namespace : Namespace) (key value : Text) → IsAll (IsIdentifier namespace) (identifier_of namespace key value)
of_is laws namespace key value =
    let text = as_identifier value in
    or_is (IsIdentifier namespace) (identifier_in namespace text) (unnamed namespace key text) (laws.are namespace text)
    (unnamed_is laws namespace key text)

pub nameable_identifier : AreIdentified → (namespace : Namespace) (pairs : List KeyValue) → IsAll (IsIdentifier namespace) (nameable namespace pairs)
nameable_identifier laws namespace pairs =
    nameable_is (IsIdentifier namespace) namespace pairs (first_is (IsIdentifier namespace) namespace (of_is laws namespace) pairs)

-- `rft_id` says of no value what it is
unnamed_none : (namespace : Namespace) (value : Text) → unnamed namespace (codes "rft_id") value ≡ None
unnamed_none Doi value = refl
unnamed_none Pmid value = refl
unnamed_none Oclc value = refl
unnamed_none Pmc value = refl
unnamed_none Arxiv value = refl

referent-none : (namespace : Namespace) (text : Text) → identifier_in namespace text ≡ None → identifier_under namespace (codes "rft_id") text ≡ None
referent-none namespace text h = ap (λ o. option_or o (unnamed namespace (codes "rft_id") text)) h ∙ unnamed_none namespace text

-- the URI of an identifier is read as it is
uri_stays : AreIdentified → (namespace : Namespace) (n : Text) → IsIdentifier namespace n → as_identifier (uri_of namespace n) ≡ uri_of namespace n
uri_stays laws namespace n is = found_as_it_is namespace (uri_of namespace n) (canonical namespace n) (laws.stay namespace n is)

-- the URI of an identifier has it
pub uri_has : AreIdentified → (namespace : Namespace) (n : Text) → IsIdentifier namespace n
    → identifier_of namespace (codes "rft_id") (uri_of namespace n) ≡ Some (canonical namespace n)
uri_has laws namespace n is =
    ap (identifier_under namespace (codes "rft_id")) (uri_stays laws namespace n is)
    ∙ ap (λ o. option_or o (unnamed namespace (codes "rft_id") (uri_of namespace n))) (laws.stay namespace n is)

-- an identifier of arXiv has the URI of its DOI
pub preprint_has : AreIdentified → (n : Text) → IsIdentifier Arxiv n → identifier_of Doi (codes "rft_id") (uri_of Arxiv n) ≡ Some (arxiv_doi n)
preprint_has laws n is =
    ap (identifier_of Doi (codes "rft_id")) (laws.preprint_uri n) ∙ uri_has laws Doi (arxiv_doi n) (laws.preprint n is)

pub uri_has_none : AreIdentified → (namespace other : Namespace) (n : Text) → IsIdentifier namespace n → registered other ≢ registered namespace
    → identifier_of other (codes "rft_id") (uri_of namespace n) ≡ None
uri_has_none laws namespace other n is apart =
    ap (identifier_under other (codes "rft_id")) (uri_stays laws namespace n is)
    ∙ referent-none other (uri_of namespace n)
    (ap (identifier_in other) (append_assoc (uri_start namespace) (canonical namespace n) (uri_end namespace))
    ∙ laws.others namespace other (canonical namespace n ++ uri_end namespace) apart)

pub some_same : (o : Option Text) (a b : Text) → o ≡ Some a → o ≡ Some b → a ≡ b
some_same o a b e f = let both : Some a ≡ Some b = sym e ∙ f in cc

pub none_given : (o : Option Text) (a : Text) → o ≡ None → o ≡ Some a → ⊥
none_given o a e f = let both : None ≡ Some a = sym e ∙ f in cc

-- from the clauses of the laws
pub identified : ((namespace : Namespace) (text n : Text) → identifier_in namespace text ≡ Some n → IsIdentifier namespace n)
    → ((namespace : Namespace) (text n : Text) → identifier_alone namespace text ≡ Some n → IsIdentifier namespace n)
    → ((namespace : Namespace) (n : Text) → IsIdentifier namespace n → identifier_in namespace (uri_of namespace n) ≡ Some (canonical namespace n))
    → ((namespace other : Namespace) (text : Text) → registered other ≢ registered namespace → identifier_in other (uri_start namespace ++ text) ≡ None)
    → ((n : Text) → IsIdentifier Arxiv n → IsIdentifier Doi (arxiv_doi n)) → ((n : Text) → uri_of Arxiv n ≡ uri_of Doi (arxiv_doi n))
    → ((address n : Text) → doi_in_address address ≡ Some n → IsIdentifier Doi n)
    → ((namespace : Namespace) (title n : Text) → mention_in namespace title ≡ Some n → IsIdentifier namespace n) → AreIdentified
identified are alone stay others preprint preprint_uri page mention =
    record {
      are = are;
      alone = alone;
      stay = stay;
      others = others;
      preprint = preprint;
      preprint_uri = preprint_uri;
      page = page;
      mention = mention;
    }
