-- The steps that name works: each has done its work, and the others of them do not undo it.
use Rattle.std.proofs.Common.{◌≡◌, List, [], ◌∷◌, Bool, true, false, cond, not, ◌||◌, Option, Some, None, refl, sym, ap, ◌∙◌, get_or}
use Rattle.std.specs.Prelude.{◌≢◌, codes}
use Rattle.std.specs.List.{All}
use Rattle.std.specs.Option.{option_or}
use Rattle.std.specs.Str.{bytes_eq}
use Rattle.std.proofs.lemmas.Bool.{not-true}
use Rattle.std.proofs.lemmas.List.Sums.{AllPass-from_list_all}
use Rattle.text_model.specs.Texts.{Text}
use Rattle.kev_read.specs.Pairs.{KeyValue, all_of}
use Rattle.work_identifiers.specs.declared.namespace.Namespace.{Namespace}
use Rattle.work_identifiers.specs.declared.namespace.Namespace.TheVariants.{Doi, Pmid, Oclc, Pmc, Arxiv}
use Rattle.work_identifiers.specs.Forms.{IsIdentifier}
use Rattle.work_identifiers.specs.Uris.{uri_of, canonical, registered}
use Rattle.openurl_reading.specs.Keys.{is_one_of}
use Rattle.openurl_reading.specs.Steps.{unchanged, leading, taken}
use Rattle.openurl_reading.specs.Identifiers.{identifier_of, source_keys, first_under, first_identifier, nameable, named, naming}
use Rattle.openurl_reading.proofs.FoundAre.{IsAll}
use Rattle.openurl_reading.proofs.Identified.{first_found, found-cons, found_same, first_is}
use Rattle.openurl_reading.proofs.Identified.{IsPlain, AreIdentified, of_is, nameable_identifier, uri_has, uri_has_none}
use Rattle.openurl_reading.proofs.Others.{bytes_eq-same}
use Rattle.openurl_reading.proofs.Values.{values_after, all_of-taken, all_of-taken-own}

-- ---- in the values of `rft_id`, if the first identifier of the other keys is known

abbrev pub rest_of : Namespace → List KeyValue → Option Text
rest_of namespace pairs = first_found (first_under namespace pairs) source_keys

abbrev pub among : Namespace → Option Text → List Text → Option Text
among namespace rest values = option_or (first_found (identifier_of namespace (codes "rft_id")) values) rest

abbrev pub IsNamedAmong : Namespace → Option Text → List Text → Type 0
IsNamedAmong namespace rest values = named namespace (among namespace rest values) values ≡ unchanged

-- the first identifier of the namespace has its URI in `rft_id`, if there is one
abbrev pub IsFirstNamed : List KeyValue → Namespace → Type 0
IsFirstNamed pairs namespace = named namespace (first_identifier namespace pairs) (all_of pairs (codes "rft_id")) ≡ unchanged

pub first-among : (namespace : Namespace) (pairs : List KeyValue)
    → first_identifier namespace pairs ≡ among namespace (rest_of namespace pairs) (all_of pairs (codes "rft_id"))
first-among namespace pairs = found-cons (first_under namespace pairs) (codes "rft_id") source_keys

pub named_among : (pairs : List KeyValue) (namespace : Namespace) → IsFirstNamed pairs namespace
    → IsNamedAmong namespace (rest_of namespace pairs) (all_of pairs (codes "rft_id"))
named_among pairs namespace h =
    let values = all_of pairs (codes "rft_id") in sym (ap (λ o. named namespace o values) (first-among namespace pairs)) ∙ h

pub among_named : (pairs : List KeyValue) (namespace : Namespace) (rest : Option Text) (values : List Text) → rest_of namespace pairs ≡ rest
    → all_of pairs (codes "rft_id") ≡ values → IsNamedAmong namespace rest values → IsFirstNamed pairs namespace
among_named pairs namespace rest values e g h =
    let known = all_of pairs (codes "rft_id") in
    ap (λ o. named namespace o known) (first-among namespace pairs) ∙ ap (λ r. named namespace (among namespace r known) known) e
    ∙ ap (λ vs. named namespace (among namespace rest vs) vs) g ∙ h

pub plain_stays : (namespace : Namespace) → IsPlain namespace → (n : Text) → canonical namespace n ≡ n
plain_stays Doi plain n = refl
plain_stays Pmid plain n = refl
plain_stays Oclc plain n = refl
plain_stays Pmc plain n = refl
plain_stays Arxiv plain n = cc

pub plain_has : AreIdentified → (namespace : Namespace) → IsPlain namespace → (n : Text) → IsIdentifier namespace n
    → identifier_of namespace (codes "rft_id") (uri_of namespace n) ≡ Some n
plain_has laws namespace plain n is = uri_has laws namespace n is ∙ ap Some (plain_stays namespace plain n)

-- ---- one step, on the values of `rft_id`

-- an identifier that is named has its URI among the values
pub named_known : (namespace : Namespace) (n : Text) (values : List Text) → named namespace (Some n) values ≡ unchanged
    → is_one_of values (uri_of namespace n) ≡ true
named_known namespace n values h = by_test (is_one_of values (uri_of namespace n)) h
  where
    by_test : (b : Bool) → cond b unchanged (leading (uri_of namespace n ∷ [])) ≡ unchanged → b ≡ true
    by_test true e = refl
    by_test false e = let none : uri_of namespace n ∷ [] ≡ [] = ap (λ change. change.values) e in cc

pub known_named : (namespace : Namespace) (n : Text) (values : List Text) → is_one_of values (uri_of namespace n) ≡ true
    → named namespace (Some n) values ≡ unchanged
known_named namespace n values h = ap (λ b. cond b unchanged (leading (uri_of namespace n ∷ []))) h

pub or-true : (b : Bool) → b || true ≡ true
or-true true = refl
or-true false = refl

pub more_known : (v : Text) (values : List Text) (text : Text) → is_one_of values text ≡ true → is_one_of (v ∷ values) text ≡ true
more_known v values text h = ap (λ b. bytes_eq v text || b) h ∙ or-true (bytes_eq v text)

pub named_settles : AreIdentified → (namespace : Namespace) → IsPlain namespace → (rest : Option Text) (values : List Text)
    → IsAll (IsIdentifier namespace) (among namespace rest values)
    → IsNamedAmong namespace rest (values_after (named namespace (among namespace rest values) values) values)
named_settles laws namespace plain rest values is = by_found (among namespace rest values) refl is
  where
    by_found : (found : Option Text) → among namespace rest values ≡ found → IsAll (IsIdentifier namespace) found
        → IsNamedAmong namespace rest (values_after (named namespace found values) values)
    by_found None e are = ap (λ o. named namespace o values) e
    by_found (Some n) e are = by_test (is_one_of values (uri_of namespace n)) refl
      where
        uri : Text
        uri = uri_of namespace n

        by_test : (b : Bool) → is_one_of values (uri_of namespace n) ≡ b
            → IsNamedAmong namespace rest (values_after (cond b unchanged (leading (uri_of namespace n ∷ []))) values)
        by_test true t = ap (λ o. named namespace o values) e ∙ known_named namespace n values t
        by_test false t =
            let values' = uri_of namespace n ∷ values in
            let found : among namespace rest values' ≡ Some n =
            ap (λ o. option_or o rest) (found-cons (identifier_of namespace (codes "rft_id")) (uri_of namespace n) values)
            ∙ ap (λ o. option_or (option_or o (first_found (identifier_of namespace (codes "rft_id")) values)) rest)
            (plain_has laws namespace plain n (are n refl)) in
            ap (λ o. named namespace o values') found
            ∙ known_named namespace n values' (ap (λ b. b || is_one_of values (uri_of namespace n)) (bytes_eq-same (uri_of namespace n)))

-- a URI of another namespace changes nothing
pub other_among : AreIdentified → (namespace other : Namespace) (n : Text) → IsIdentifier other n → registered namespace ≢ registered other
    → (rest : Option Text) (values : List Text) → among namespace rest (uri_of other n ∷ values) ≡ among namespace rest values
other_among laws namespace other n is apart rest values =
    let find = identifier_of namespace (codes "rft_id") in
    ap (λ o. option_or o rest)
    (found-cons find (uri_of other n) values ∙ ap (λ o. option_or o (first_found find values)) (uri_has_none laws other namespace n is apart))

pub still_named : (namespace : Namespace) (found : Option Text) (v : Text) (values : List Text) → named namespace found values ≡ unchanged
    → named namespace found (v ∷ values) ≡ unchanged
still_named namespace None v values h = refl
still_named namespace (Some n) v values h =
    known_named namespace n (v ∷ values) (more_known v values (uri_of namespace n) (named_known namespace n values h))

pub named_keeps : AreIdentified → (namespace other : Namespace) → registered namespace ≢ registered other → (rest found : Option Text) (values : List Text)
    → IsAll (IsIdentifier other) found → IsNamedAmong namespace rest values
    → IsNamedAmong namespace rest (values_after (named other found values) values)
named_keeps laws namespace other apart rest None values are h = h
named_keeps laws namespace other apart rest (Some m) values are h = by_test (is_one_of values (uri_of other m))
  where
    by_test : (b : Bool) → IsNamedAmong namespace rest (values_after (cond b unchanged (leading (uri_of other m ∷ []))) values)
    by_test true = h
    by_test false =
        let values' = uri_of other m ∷ values in
        ap (λ o. named namespace o values') (other_among laws namespace other m (are m refl) apart rest values)
        ∙ still_named namespace (among namespace rest values) (uri_of other m) values h

-- ---- one step, on pairs

pub sources_apart : All (λ key. bytes_eq (codes "rft_id") key ≡ false) source_keys
sources_apart k d h = not-true _ (AllPass-from_list_all (λ key. not (bytes_eq (codes "rft_id") key)) source_keys refl k d h)

pub rest-same : (namespace other : Namespace) (pairs : List KeyValue) → rest_of namespace (taken pairs (naming other)) ≡ rest_of namespace pairs
rest-same namespace other pairs =
    found_same (first_under namespace (taken pairs (naming other))) (first_under namespace pairs) source_keys
    (λ k d h. let key = get_or source_keys k d in
    ap (first_found (identifier_of namespace key)) (all_of-taken (naming other) pairs key (sources_apart k d h)))

-- the values of `rft_id` after a step that names what is found
pub now_values : (namespace : Namespace) (pairs : List KeyValue) (found : Option Text) → nameable namespace pairs ≡ found
    → all_of (taken pairs (naming namespace)) (codes "rft_id")
    ≡ values_after (named namespace found (all_of pairs (codes "rft_id"))) (all_of pairs (codes "rft_id"))
now_values namespace pairs found e =
    let values = all_of pairs (codes "rft_id") in
    all_of-taken-own (naming namespace) pairs ∙ ap (λ o. values_after (named namespace o values) values) e

pub own_named : AreIdentified → (namespace : Namespace) → IsPlain namespace → (pairs : List KeyValue)
    → nameable namespace pairs ≡ first_identifier namespace pairs → IsFirstNamed (taken pairs (naming namespace)) namespace
own_named laws namespace plain pairs first =
    let values = all_of pairs (codes "rft_id") in
    let rest = rest_of namespace pairs in
    let is : IsAll (IsIdentifier namespace) (among namespace rest values) =
    λ n e. first_is (IsIdentifier namespace) namespace (of_is laws namespace) pairs n (first-among namespace pairs ∙ e) in
    among_named (taken pairs (naming namespace)) namespace rest _ (rest-same namespace namespace pairs)
    (now_values namespace pairs (among namespace rest values) (first ∙ first-among namespace pairs)) (named_settles laws namespace plain rest values is)

pub still : AreIdentified → (namespace other : Namespace) → registered namespace ≢ registered other → (pairs : List KeyValue)
    → IsFirstNamed pairs namespace → IsFirstNamed (taken pairs (naming other)) namespace
still laws namespace other apart pairs h =
    let values = all_of pairs (codes "rft_id") in
    among_named (taken pairs (naming other)) namespace (rest_of namespace pairs) _ (rest-same namespace other pairs)
    (now_values other pairs (nameable other pairs) refl)
    (named_keeps laws namespace other apart (rest_of namespace pairs) (nameable other pairs) values (nameable_identifier laws other pairs)
    (named_among pairs namespace h))
