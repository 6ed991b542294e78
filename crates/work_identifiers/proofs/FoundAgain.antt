-- The URI of an identifier has it, and none of another namespace.
use Rattle.std.proofs.Common.{◌≡◌, ℕ, zero, suc, ◌+◌, ◌≤◌, [], ◌∷◌, ◌++◌, Bool, true, false, cond, not, ◌&&◌, eqb, Some, None, length, take, drop}
use Rattle.std.proofs.Common.{refl, sym, ap, ◌∙◌, arith, append-nil, length-append}
use Rattle.std.specs.Prelude.{◌≢◌, codes, nat_le}
use Rattle.std.proofs.lemmas.Bool.{and_parts, leb-true}
use Rattle.text_model.specs.Texts.{Text}
use Rattle.uri_text.specs.AnyCase.{begins_in_any_case}
use Rattle.work_identifiers.specs.declared.namespace.Namespace.{Namespace}
use Rattle.work_identifiers.specs.declared.namespace.Namespace.TheVariants.{Doi, Pmid, Oclc, Pmc, Arxiv}
use Rattle.work_identifiers.specs.Ends.{is_no_break, from_start, ends_loosely, cut_at, first_part}
use Rattle.work_identifiers.specs.Forms.{most_bytes, is_doi_prefix, is_doi, is_number, is_identifier, IsIdentifier}
use Rattle.work_identifiers.specs.Uris.{uri_start, uri_end, longest_uri, uri_of, canonical, canonical_arxiv, registered, arxiv_start, arxiv_doi}
use Rattle.work_identifiers.specs.Places.{segment, places, identifier_at, identifier_in, identifier_alone}
use Rattle.work_identifiers.proofs.Finding.{first_none, first_some, second_found}
use Rattle.work_identifiers.proofs.FormLaws.{joined, at_none, at_identifier, identifier_starts}
use Rattle.work_identifiers.proofs.FormLaws.{digits_before_slash, starts, digit_starts}
use Rattle.work_identifiers.proofs.PreprintForms.{arxiv_short}
use Rattle.work_identifiers.proofs.PreprintDois.{canonical_identifier}

-- ---- the beginning of a URI is no DOI

letter_begins_none : (b : ℕ) (t : Text) → eqb b 0x31 ≡ false → is_doi (b ∷ t) ≡ false
letter_begins_none b t h =
    let prefix : is_doi_prefix (first_part (b ∷ t)) ≡ false = ap is_doi_prefix (joined b t) ∙ by_test (is_no_break b) in rw prefix refl
  where
    by_test : (c : Bool) → is_doi_prefix (cond c (b ∷ first_part t) []) ≡ false
    by_test true = rw h refl
    by_test false = refl

cut_begins_none : (n b : ℕ) (t : Text) → eqb b 0x31 ≡ false → is_doi (cut_at n (b ∷ t)) ≡ false
cut_begins_none zero b t h = refl
cut_begins_none (suc n) b t h = by_test (ends_loosely (take (suc n) (b ∷ t))) (cut_begins_none n b t h)
  where
    by_test : (c : Bool) → is_doi (cut_at n (b ∷ t)) ≡ false → is_doi (cond c (cut_at n (b ∷ t)) (take (suc n) (b ∷ t))) ≡ false
    by_test true rest = rest
    by_test false rest = letter_begins_none b (take n t) h

none_and : (a b : Bool) → a && b && false ≡ false
none_and true true = refl
none_and true false = refl
none_and false b = refl

no_doi_at : (b : ℕ) (t : Text) → eqb b 0x31 ≡ false → identifier_at Doi (b ∷ t) ≡ None
no_doi_at b t h =
    let all = cut_at (length (b ∷ t)) (b ∷ t) in
    let short = nat_le (length all) most_bytes in
    let firm = not (ends_loosely all) in
    let other : is_identifier Doi all ≡ false = ap (λ c. short && firm && c) (cut_begins_none (length (b ∷ t)) b t h) ∙ none_and short firm in
    sym (at_none Doi (b ∷ t) all refl other)

-- `i`, and `h`
no_doi_after_i : (t : Text) → identifier_at Doi (0x69 ∷ t) ≡ None
no_doi_after_i t = no_doi_at 0x69 t refl

no_doi_after_h : (t : Text) → identifier_at Doi (0x68 ∷ t) ≡ None
no_doi_after_h t = no_doi_at 0x68 t refl

-- ---- the namespace of the URI

found_at : (namespace : Namespace) (n : Text) → IsIdentifier namespace n → identifier_at namespace (from_start n) ≡ Some n
found_at namespace n is = ap (identifier_at namespace) (identifier_starts namespace n is) ∙ at_identifier namespace n is

-- a number with the slash after it
slashed_starts : (n : Text) → IsIdentifier Pmc n → from_start (n ++ 0x2f ∷ []) ≡ n ++ 0x2f ∷ []
slashed_starts [] is = cc
slashed_starts (b ∷ t) is = starts b (t ++ 0x2f ∷ []) (digit_starts b (and_parts _ _ (and_parts _ _ (and_parts _ _ is).1).1).0)

slashed_at : (n : Text) → IsIdentifier Pmc n → identifier_at Pmc (segment Pmc (from_start (n ++ 0x2f ∷ []))) ≡ Some n
slashed_at n is =
    ap (λ t. identifier_at Pmc (segment Pmc t)) (slashed_starts n is)
    ∙ ap (identifier_at Pmc) (digits_before_slash n (and_parts _ _ (and_parts _ _ is).1).1) ∙ at_identifier Pmc n is

-- each URI without an end
plain_has : (namespace : Namespace) (n : Text) → identifier_in namespace (uri_start namespace ++ n) ≡ Some n
    → identifier_in namespace (uri_start namespace ++ n ++ []) ≡ Some n
plain_has namespace n h = ap (identifier_in namespace) (append-nil (uri_start namespace ++ n)) ∙ h

pub uri_has : (namespace : Namespace) (n : Text) → IsIdentifier namespace n → identifier_in namespace (uri_of namespace n) ≡ Some (canonical namespace n)
uri_has Doi n is =
    let uri = codes "info:doi/" ++ n in
    plain_has Doi n
    (second_found (identifier_at Doi) uri (from_start n) n (drop 2 (places Doi uri)) (no_doi_after_i (codes "nfo:doi/" ++ n)) (found_at Doi n is))
uri_has Pmid n is =
    plain_has Pmid n (first_some (identifier_at Pmid) (from_start n) n (drop 1 (places Pmid (codes "info:pmid/" ++ n))) (found_at Pmid n is))
uri_has Oclc n is =
    plain_has Oclc n (first_some (identifier_at Oclc) (from_start n) n (drop 1 (places Oclc (codes "info:oclcnum/" ++ n))) (found_at Oclc n is))
uri_has Pmc n is = first_some (identifier_at Pmc) (segment Pmc (from_start (n ++ 0x2f ∷ []))) n [] (slashed_at n is)
uri_has Arxiv n is =
    let form = canonical_arxiv n in
    plain_has Arxiv form
    (first_some (identifier_at Arxiv) (from_start form) form (drop 1 (places Arxiv (codes "info:doi/10.48550/arXiv." ++ form)))
    (found_at Arxiv form (canonical_identifier n is)))

pub alone_has : (namespace : Namespace) (n : Text) → IsIdentifier namespace n → identifier_alone namespace n ≡ Some n
alone_has namespace n is = found_at namespace n is

-- ---- other namespaces

pub no_other : (namespace other : Namespace) (t : Text) → registered other ≢ registered namespace → identifier_in other (uri_start namespace ++ t) ≡ None
no_other Doi Doi t h = absurd (h refl)
no_other Pmid Doi t h = first_none (identifier_at Doi) (codes "info:pmid/" ++ t) [] (no_doi_after_i (codes "nfo:pmid/" ++ t))
no_other Oclc Doi t h = first_none (identifier_at Doi) (codes "info:oclcnum/" ++ t) [] (no_doi_after_i (codes "nfo:oclcnum/" ++ t))
no_other Pmc Doi t h =
    first_none (identifier_at Doi) (uri_start Pmc ++ t) [] (no_doi_after_h (codes "ttps://pmc.ncbi.nlm.nih.gov/articles/PMC" ++ t))
no_other Arxiv Doi t h = absurd (h refl)
no_other Doi Pmid t h = refl
no_other Pmid Pmid t h = absurd (h refl)
no_other Oclc Pmid t h = refl
no_other Pmc Pmid t h = refl
no_other Arxiv Pmid t h = refl
no_other Doi Oclc t h = refl
no_other Pmid Oclc t h = refl
no_other Oclc Oclc t h = absurd (h refl)
no_other Pmc Oclc t h = refl
no_other Arxiv Oclc t h = refl
no_other Doi Pmc t h = refl
no_other Pmid Pmc t h = refl
no_other Oclc Pmc t h = refl
no_other Pmc Pmc t h = absurd (h refl)
no_other Arxiv Pmc t h = refl
no_other Doi Arxiv t h = absurd (h refl)
no_other Pmid Arxiv t h = refl
no_other Oclc Arxiv t h = refl
no_other Pmc Arxiv t h = refl
no_other Arxiv Arxiv t h = absurd (h refl)

-- ---- the DOIs of arXiv

pub same_uri : (n : Text) → uri_of Arxiv n ≡ uri_of Doi (arxiv_doi n)
same_uri n = refl

pub no_preprint : (t : Text) → begins_in_any_case t arxiv_start ≡ false → identifier_in Arxiv (uri_start Doi ++ t) ≡ None
no_preprint t h = rw h refl

-- ---- lengths

plain_length : (start n : Text) → length (start ++ n ++ []) ≡ length start + length n
plain_length start n = ap length (append-nil (start ++ n)) ∙ length-append start n

number_short : (most : ℕ) (n : Text) → is_number most n ≡ true → length n ≤ most
number_short most n h = leb-true _ _ (and_parts _ _ (and_parts _ _ h).0).1

pub uri_short : (namespace : Namespace) (n : Text) → IsIdentifier namespace n → length (uri_of namespace n) ≤ longest_uri namespace
uri_short Doi n is =
    let short : length n ≤ 500 = leb-true _ _ (and_parts _ _ (and_parts _ _ is).0).0 in omega (arith, short, plain_length (uri_start Doi) n)
uri_short Pmid n is = let short : length n ≤ 9 = number_short 9 n (and_parts _ _ is).1 in omega (arith, short, plain_length (uri_start Pmid) n)
uri_short Oclc n is = let short : length n ≤ 12 = number_short 12 n (and_parts _ _ is).1 in omega (arith, short, plain_length (uri_start Oclc) n)
uri_short Pmc n is =
    let short : length n ≤ 9 = number_short 9 n (and_parts _ _ is).1 in
    omega (arith, short, length-append (uri_start Pmc ++ n) (uri_end Pmc), length-append (uri_start Pmc) n)
uri_short Arxiv n is =
    let form = canonical_arxiv n in
    let short : length form ≤ 25 = arxiv_short form (and_parts _ _ (canonical_identifier n is)).1 in
    omega (arith, short, plain_length (uri_start Arxiv) form)
