-- What is found in the texts in which identifiers are sought is what is found in the values of the pairs.
use Rattle.std.proofs.Common.{◌≡◌, ℕ, ◌+◌, ◌<◌, ◌≤◌, List, [], ◌∷◌, ◌++◌, Option, Some, None, refl, sym, ap, ◌∙◌, get_or, drop, length, map}
use Rattle.std.specs.Prelude.{codes}
use Rattle.std.specs.List.{flat_map}
use Rattle.std.specs.Option.{option_or}
use Rattle.std.proofs.lemmas.List.{drop_all, drop_more}
use Rattle.text_model.specs.Texts.{Text}
use Rattle.kev_read.specs.Pairs.{KeyValue, all_of}
use Rattle.work_identifiers.specs.declared.namespace.Namespace.{Namespace}
use Rattle.openurl_reading.specs.Identifiers.{identifier_under, identifier_of, identifier_keys, first_under, first_identifier}
use Rattle.openurl_reading.specs.Sought.{sought_at, sought_under, sought, first_in}
use Rattle.openurl_reading.proofs.Identified.{first_found, found-cons, first_or}

-- the identifier in a text
abbrev pub in_text : Namespace → KeyValue → Option Text
in_text namespace text = identifier_under namespace text.key text.value

in-cons : (namespace : Namespace) (t : KeyValue) (ts : List KeyValue)
    → first_in namespace (t ∷ ts) ≡ option_or (in_text namespace t) (first_in namespace ts)
in-cons namespace t ts = first_or (in_text namespace t) _

or_or : (a b c : Option Text) → option_or a (option_or b c) ≡ option_or (option_or a b) c
or_or None b c = refl
or_or (Some n) b c = refl

-- the first of firsts is the first of all
in_both : (namespace : Namespace) (ts us : List KeyValue)
    → first_in namespace (ts ++ us) ≡ option_or (first_in namespace ts) (first_in namespace us)
in_both namespace [] us = refl
in_both namespace (t ∷ ts) us =
    in-cons namespace t (ts ++ us) ∙ ap (option_or (in_text namespace t)) (in_both namespace ts us)
    ∙ or_or (in_text namespace t) (first_in namespace ts) (first_in namespace us)
    ∙ ap (λ o. option_or o (first_in namespace us)) (sym (in-cons namespace t ts))

in_values : (namespace : Namespace) (key : Text) (values : List Text)
    → first_in namespace (map (sought_at key) values) ≡ first_found (identifier_of namespace key) values
in_values namespace key [] = refl
in_values namespace key (v ∷ vs) =
    in-cons namespace (sought_at key v) (map (sought_at key) vs) ∙ ap (option_or (identifier_of namespace key v)) (in_values namespace key vs)
    ∙ sym (found-cons (identifier_of namespace key) v vs)

pub first_is_under : (namespace : Namespace) (pairs : List KeyValue) (key : Text)
    → first_in namespace (sought_under pairs key) ≡ first_under namespace pairs key
first_is_under namespace pairs key = in_values namespace key (all_of pairs key)

in_keys : (namespace : Namespace) (pairs : List KeyValue) (keys : List Text)
    → first_in namespace (flat_map (sought_under pairs) keys) ≡ first_found (first_under namespace pairs) keys
in_keys namespace pairs [] = refl
in_keys namespace pairs (key ∷ keys) =
    in_both namespace (sought_under pairs key) (flat_map (sought_under pairs) keys)
    ∙ ap (λ o. option_or o (first_in namespace (flat_map (sought_under pairs) keys))) (first_is_under namespace pairs key)
    ∙ ap (option_or (first_under namespace pairs key)) (in_keys namespace pairs keys) ∙ sym (found-cons (first_under namespace pairs) key keys)

pub first_is : (namespace : Namespace) (pairs : List KeyValue) → first_in namespace (sought pairs) ≡ first_identifier namespace pairs
first_is namespace pairs = in_keys namespace pairs identifier_keys

-- the text of a URI comes first
pub uri_first : (pairs : List KeyValue) (uri : Text)
    → sought (record { key = codes "rft_id"; value = uri } ∷ pairs) ≡ sought_at (codes "rft_id") uri ∷ sought pairs
uri_first pairs uri = refl

-- ---- by the steps of the code

split : (namespace : Namespace) (texts : List KeyValue) (i : ℕ) (d : KeyValue) → i < length texts
    → first_in namespace (drop i texts) ≡ option_or (in_text namespace (get_or texts i d)) (first_in namespace (drop (i + 1) texts))
split namespace texts i d h = ap (first_in namespace) (drop_more texts i d h) ∙ in-cons namespace (get_or texts i d) (drop (i + 1) texts)

pub in_later : (namespace : Namespace) (texts : List KeyValue) (i : ℕ) (d : KeyValue) (all : Option Text) → i < length texts
    → None ≡ in_text namespace (get_or texts i d) → first_in namespace (drop i texts) ≡ all → first_in namespace (drop (i + 1) texts) ≡ all
in_later namespace texts i d all h e so_far =
    ap (λ o. option_or o (first_in namespace (drop (i + 1) texts))) e ∙ sym (split namespace texts i d h) ∙ so_far

pub in_here : (namespace : Namespace) (texts : List KeyValue) (i : ℕ) (d : KeyValue) (n : Text) (all : Option Text) → i < length texts
    → Some n ≡ in_text namespace (get_or texts i d) → first_in namespace (drop i texts) ≡ all → Some n ≡ all
in_here namespace texts i d n all h e so_far =
    ap (λ o. option_or o (first_in namespace (drop (i + 1) texts))) e ∙ sym (split namespace texts i d h) ∙ so_far

pub in_nowhere : (namespace : Namespace) (texts : List KeyValue) (i : ℕ) (all : Option Text) → length texts ≤ i
    → first_in namespace (drop i texts) ≡ all → None ≡ all
in_nowhere namespace texts i all h so_far = ap (first_in namespace) (sym (drop_all i texts h)) ∙ so_far

pub in_pair : (namespace : Namespace) (key value : Text) (text item : KeyValue) → key ≡ text.key → value ≡ text.value → text ≡ item
    → identifier_under namespace key value ≡ in_text namespace item
in_pair namespace key value text item k v is =
    ap (λ k. identifier_under namespace k value) k ∙ ap (identifier_under namespace text.key) v ∙ ap (in_text namespace) is
