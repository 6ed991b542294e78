-- What is found is a part of the text.
use Rattle.std.proofs.Common.{◌≡◌, ℕ, zero, suc, ◌+◌, ◌-◌, ◌≤◌, List, [], ◌∷◌, ◌++◌, Bool, true, false, cond, Option, Some}
use Rattle.std.proofs.Common.{None, length, take, drop, refl, sym, ap, ◌∙◌, subst, arith}
use Rattle.std.specs.List.{All, filter_map, prefix_len}
use Rattle.std.proofs.lemmas.List.{drop-drop, take_all, take-take, length-take}
use Rattle.std.proofs.lemmas.Bool.{leb-true, leb-false}
use Rattle.std.specs.Prelude.{nat_le, slice_index, codes, ◌&&◌, ◌==◌}
use Rattle.std.proofs.lemmas.List.Elements.{All-append, All-cons, All-head, All-map, All-tail, All-weaker}
use Rattle.text_model.specs.Texts.{Text}
use Rattle.uri_text.specs.AnyCase.{begins_in_any_case}
use Rattle.work_identifiers.specs.declared.namespace.Namespace.{Namespace}
use Rattle.work_identifiers.specs.declared.namespace.Namespace.TheVariants.{Doi, Pmid, Oclc, Pmc, Arxiv}
use Rattle.work_identifiers.specs.Ends.{is_before, from_start, ends_loosely, cut_at, to_end}
use Rattle.work_identifiers.specs.Forms.{IsIdentifier}
use Rattle.work_identifiers.specs.Places.{words, hosts, schemes, after, after_any, after_words, after_addresses, named_places, places, part, identifier_at}
use Rattle.work_identifiers.specs.Places.{is_word_byte, is_host_byte, is_path_byte, longest_proxy, after_host, after_title, segment, from_site, from_sites}
use Rattle.work_identifiers.specs.Places.{is_no_stop, is_version, unversioned, is_rest, preprint_length, preprint}
use Rattle.work_identifiers.specs.Places.{identifier_in, identifier_alone, IsPartOf}
use Rattle.work_identifiers.proofs.Finding.{first_found, first_none, first_some, first_has}
use Rattle.work_identifiers.proofs.FormLaws.{at_is}

-- ---- parts of parts

-- the end of a text, from one of its bytes on
unfoldable pub IsRest : Text → Text → Type 0
IsRest text rest = (start : ℕ) × (rest ≡ drop start text)

pub drop_twice : (text : Text) (a b : ℕ) → drop b (drop a text) ≡ drop (a + b) text
drop_twice text a b = drop-drop b a text

pub rest_of_rest : (text rest : Text) (n : ℕ) → IsRest text rest → IsRest text (drop n rest)
unfolding IsRest
rest_of_rest text rest n is = (is.0 + n, ap (drop n) is.1 ∙ drop_twice text is.0 n)

-- the beginning of a beginning
pub take_twice : (a b : ℕ) (t : Text) → (count : ℕ) × (take a (take b t) ≡ take count t)
take_twice a b t = by_order (nat_le a b) refl
  where
    by_order : (c : Bool) → nat_le a b ≡ c → (count : ℕ) × (take a (take b t) ≡ take count t)
    by_order true h = (a, take-take a b t (leb-true a b h))
    by_order false h = (b, take_all a (take b t) (omega (arith, leb-false a b h, length-take b t)))

-- ---- where one may begin

after_is : (text t beginning rest : Text) → IsRest text t → after t beginning ≡ Some rest → IsRest text rest
after_is text t beginning rest is h = by_test (begins_in_any_case t beginning) h
  where
    all : IsRest text (from_start (drop (length beginning) t))
    all =
        let r = drop (length beginning) t in
        rest_of_rest text r (prefix_len is_before r) (rest_of_rest text t (length beginning) is)

    by_test : (b : Bool) → cond b (Some (from_start (drop (length beginning) t))) None ≡ Some rest → IsRest text rest
    by_test true e = let same : from_start (drop (length beginning) t) ≡ rest = cc in subst (IsRest text) same all
    by_test false e = cc

pub none_are : (P : Text → Type 0) → All P []
none_are P = λ k d h. absurd (omega arith)

one_none : (find : Text → Option Text) (t : Text) (ts : List Text) → find t ≡ None → filter_map find (t ∷ ts) ≡ filter_map find ts
one_none find t ts e = rw e refl

one_some : (find : Text → Option Text) (t r : Text) (ts : List Text) → find t ≡ Some r → filter_map find (t ∷ ts) ≡ r ∷ filter_map find ts
one_some find t r ts e = rw e refl

found_are : (P : Text → Type 0) (find : Text → Option Text) → ((t r : Text) → find t ≡ Some r → P r) → (ts : List Text) → All P (filter_map find ts)
found_are P find each [] = none_are P
found_are P find each (t ∷ ts) = by_found (find t) refl (found_are P find each ts)
  where
    by_found : (o : Option Text) → find t ≡ o → All P (filter_map find ts) → All P (filter_map find (t ∷ ts))
    by_found None e rest = subst (All P) (sym (one_none find t ts e)) rest
    by_found (Some r) e rest = subst (All P) (sym (one_some find t r ts e)) (All-cons P r (filter_map find ts) (each t r e) rest)

after_any_are : (text : Text) (beginnings ts : List Text) → All (IsRest text) ts → All (IsRest text) (after_any beginnings ts)
after_any_are text beginnings [] all = none_are (IsRest text)
after_any_are text beginnings (t ∷ ts) all =
    All-append (IsRest text) (filter_map (after t) beginnings) (after_any beginnings ts)
    (found_are (IsRest text) (after t) (λ b r e. after_is text t b r (All-head (IsRest text) t ts all) e) beginnings)
    (after_any_are text beginnings ts (All-tail (IsRest text) t ts all))

one_is : (text t : Text) → IsRest text t → All (IsRest text) (t ∷ [])
one_is text t is = All-cons (IsRest text) t [] is (none_are (IsRest text))

words_are : (namespace : Namespace) (text t : Text) → IsRest text t → All (IsRest text) (after_words namespace t)
words_are namespace text t is =
    let once = after_any_are text (words namespace) (t ∷ []) (one_is text t is) in
    let rests = after_any (words namespace) (t ∷ []) in
    All-append (IsRest text) rests (after_any (words namespace) rests) once (after_any_are text (words namespace) rests once)

rest_part : (text t : Text) → IsRest text t → IsPartOf text t
unfolding IsRest
rest_part text t is = (is.0, length t, sym (take_all (length t) t (omega arith)) ∙ ap (take (length t)) is.1)

beginning_part : (text t : Text) (count : ℕ) → IsRest text t → IsPartOf text (take count t)
unfolding IsRest
beginning_part text t count is = (is.0, count, ap (take count) is.1)

host_part : (text t : Text) → IsRest text t → IsPartOf text (after_host t)
host_part text t is = by_test (nat_le n longest_proxy && (slice_index t n == 0x2f))
  where
    n : ℕ
    n = prefix_len is_host_byte t

    rest : Text
    rest = drop (n + 1) t

    by_test : (c : Bool) → IsPartOf text (cond c (from_start rest) [])
    by_test true = rest_part text (from_start rest) (rest_of_rest text rest (prefix_len is_before rest) (rest_of_rest text t (n + 1) is))
    by_test false = (0, 0, refl)

title_rest : (text t : Text) → IsRest text t → IsRest text (after_title t)
title_rest text t is = by_test (begins_in_any_case (drop n t) (codes "/oclc/"))
  where
    n : ℕ
    n = prefix_len is_path_byte t

    by_test : (c : Bool) → IsRest text (cond c (drop (n + 6) t) t)
    by_test true = rest_of_rest text t (n + 6) is
    by_test false = is

segment_part : (namespace : Namespace) (text t : Text) → IsRest text t → IsPartOf text (segment namespace t)
segment_part Doi text t is = host_part text t is
segment_part Pmid text t is = beginning_part text t (prefix_len is_word_byte t) is
segment_part Oclc text t is = beginning_part text (after_title t) (prefix_len is_path_byte (after_title t)) (title_rest text t is)
segment_part Pmc text t is = beginning_part text t (prefix_len is_word_byte t) is
segment_part Arxiv text t is = rest_part text t is

sites_are : (namespace : Namespace) (text : Text) (ts : List Text) → All (IsRest text) ts → All (IsRest text) (from_sites namespace ts)
sites_are Doi text ts all = all
sites_are Pmid text ts all = all
sites_are Oclc text ts all =
    All-map (IsRest text) from_site ts
    (All-weaker (IsRest text) (λ t. IsRest text (from_site t)) (λ t is. rest_of_rest text t (prefix_len is_host_byte t - 12) is) ts all)
sites_are Pmc text ts all = all
sites_are Arxiv text ts all = all

named_are : (namespace : Namespace) (text t : Text) → IsRest text t → All (IsPartOf text) (named_places namespace t)
named_are namespace text t is =
    let named = words_are namespace text t is in
    let starts = t ∷ after_words namespace t in
    let all : All (IsRest text) starts = All-cons (IsRest text) t (after_words namespace t) is named in
    let addresses = All-append (IsRest text) starts (after_any schemes starts) all (after_any_are text schemes starts all) in
    let sites = from_sites namespace (starts ++ after_any schemes starts) in
    let rests = after_any (hosts namespace) sites in
    let hosted = after_any_are text (hosts namespace) sites (sites_are namespace text (starts ++ after_any schemes starts) addresses) in
    All-append (IsPartOf text) (after_words namespace t) (after_addresses namespace starts)
    (All-weaker (IsRest text) (IsPartOf text) (rest_part text) (after_words namespace t) named)
    (All-map (IsPartOf text) (segment namespace) rests
    (All-weaker (IsRest text) (λ r. IsPartOf text (segment namespace r)) (segment_part namespace text) rests hosted))

places_are : (namespace : Namespace) (text t : Text) → IsRest text t → All (IsPartOf text) (places namespace t)
places_are Doi text t is = All-cons (IsPartOf text) t (named_places Doi t) (rest_part text t is) (named_are Doi text t is)
places_are Pmid text t is = named_are Pmid text t is
places_are Oclc text t is = named_are Oclc text t is
places_are Pmc text t is = named_are Pmc text t is
places_are Arxiv text t is = named_are Arxiv text t is

-- ---- the identifier there

-- at most n bytes, from the beginning of a text
IsFront : ℕ → Text → Text → Type 0
IsFront most text front = (count : ℕ) × (count ≤ most) × (front ≡ take count text)

cut_front : (n : ℕ) (t : Text) → IsFront n t (cut_at n t)
unfolding IsFront
cut_front zero t = (0, omega arith, refl)
cut_front (suc n) t = by_test (ends_loosely (take (suc n) t)) (cut_front n t)
  where
    by_test : (b : Bool) → IsFront n t (cut_at n t) → IsFront (suc n) t (cond b (cut_at n t) (take (suc n) t))
    by_test true rest = (rest.0, omega (arith, rest.1), rest.2)
    by_test false rest = (suc n, omega arith, refl)

unversioned_front : (t front : Text) → (count : ℕ) × (front ≡ take count t) → (count : ℕ) × (unversioned front ≡ take count t)
unversioned_front t front is = by_test (is_version (drop (prefix_len is_no_stop front) front))
  where
    n : ℕ
    n = prefix_len is_no_stop front

    both : (count : ℕ) × (take n (take is.0 t) ≡ take count t)
    both = take_twice n is.0 t

    by_test : (c : Bool) → (count : ℕ) × (cond c (take n front) front ≡ take count t)
    by_test true = (both.0, ap (take n) is.1 ∙ both.1)
    by_test false = is

preprint_front : (t : Text) → (count : ℕ) × (preprint t ≡ take count t)
preprint_front t = by_test (is_rest (drop (preprint_length t) t))
  where
    by_test : (c : Bool) → (count : ℕ) × (cond c (take (preprint_length t) t) [] ≡ take count t)
    by_test true = (preprint_length t, refl)
    by_test false = (0, refl)

pub part_front : (namespace : Namespace) (t : Text) → (count : ℕ) × (part namespace t ≡ take count t)
unfolding IsFront
part_front Doi t = let front = cut_front (length t) t in (front.0, front.2)
part_front Pmid t = let front = cut_front (length t) t in (front.0, front.2)
part_front Oclc t = let front = cut_front (length t) t in (front.0, front.2)
part_front Pmc t = let front = cut_front (length t) t in unversioned_front t (to_end t) (front.0, front.2)
part_front Arxiv t =
    let front = cut_front (length (preprint t)) (preprint t) in
    let whole = preprint_front t in
    let both = take_twice front.0 whole.0 t in
    (both.0, front.2 ∙ ap (take front.0) whole.1 ∙ both.1)

at_part : (namespace : Namespace) (text t n : Text) → IsPartOf text t → identifier_at namespace t ≡ Some n → IsPartOf text n
at_part namespace text t n is h =
    let front = part_front namespace t in
    let both = take_twice front.0 is.1 (drop is.0 text) in
    (is.0, both.0, (at_is namespace t n h).0 ∙ front.1 ∙ ap (take front.0) is.2 ∙ both.1)

pub whole_rest : (text : Text) → IsRest text text
unfolding IsRest
whole_rest text = (0, refl)

start_rest : (text : Text) → IsRest text (from_start text)
unfolding IsRest
start_rest text = (prefix_len is_before text, refl)

-- what is found at one of these places
first_at : (namespace : Namespace) (text : Text) (ts : List Text) (n : Text) → All (IsPartOf text) ts → first_found (identifier_at namespace) ts ≡ Some n
    → IsPartOf text n
first_at namespace text [] n all h = cc
first_at namespace text (t ∷ ts) n all h =
    by_found (identifier_at namespace t) refl (first_at namespace text ts n (All-tail (IsPartOf text) t ts all)) h
  where
    find : Text → Option Text
    find = identifier_at namespace

    by_found : (o : Option Text) → find t ≡ o → (first_found find ts ≡ Some n → IsPartOf text n) → first_found find (t ∷ ts) ≡ Some n → IsPartOf text n
    by_found None e rest g = rest (sym (first_none find t ts e) ∙ g)
    by_found (Some m) e rest g =
        let same : Some m ≡ Some n = sym (first_some find t m ts e) ∙ g in
        let equal : m ≡ n = cc in
        at_part namespace text t n (All-head (IsPartOf text) t ts all) (e ∙ ap Some equal)

pub named_part : (namespace : Namespace) (text n : Text) → identifier_in namespace text ≡ Some n → IsPartOf text n
named_part namespace text n h =
    first_at namespace text (places namespace (from_start text)) n (places_are namespace text (from_start text) (start_rest text)) h

pub alone_part : (namespace : Namespace) (text n : Text) → identifier_alone namespace text ≡ Some n → IsPartOf text n
alone_part namespace text n h = at_part namespace text (from_start text) n (rest_part text (from_start text) (start_rest text)) h

-- ---- the form

pub named_is : (namespace : Namespace) (text n : Text) → identifier_in namespace text ≡ Some n → IsIdentifier namespace n
named_is namespace text n h =
    first_has (IsIdentifier namespace) (identifier_at namespace) (λ t m e. (at_is namespace t m e).1) (places namespace (from_start text)) n h

pub alone_is : (namespace : Namespace) (text n : Text) → identifier_alone namespace text ≡ Some n → IsIdentifier namespace n
alone_is namespace text n h = (at_is namespace (from_start text) n h).1
